-- Where the fields of a held record stand.
use Rattle.std.specs.Prelude.{ℕ, ◌+◌, ◌*◌, ◌≤◌, Bool, true, false, ◌&&◌, List, ◌≡◌, eqb, length}
use Rattle.std.proofs.Math.Bool.{cond}
use Rattle.std.proofs.Math.Path.{refl, sym}
use Rattle.std.proofs.Math.Nat.{le_trans}
use Rattle.std.proofs.Common.{arith, ne_eqb, leb-true}
use Rattle.std.proofs.Math.Dec.{leb}
use Rattle.model.specs.Bits.{number}
use Rattle.model.specs.Layouts.{Field, mapping_bodies, kind_of, body_of, length_of}
use Rattle.model.specs.Mappings.{mapping, wide, Held, global_marked, global_translation}
use Rattle.laws.specs.Layouts.{at_rows, of_mapping_kind, has_field, lacks_field, field_has, field_lacks}
use Rattle.laws.specs.Mappings.{held_length, vpid_held, pcid_held, global_held}
use Rattle.kinds.specs.Places.{place_of}
use Rattle.mappings.specs.Spans.{page_bytes, SpanAt}

-- a page has five bytes or more; six are five and a sixth
pub page_bytes_some : (kind : ℕ) → 5 ≤ page_bytes kind
page_bytes_some kind = go (wide kind)
  where
    go : (b : Bool) → 5 ≤ cond b 6 5
    go true = omega arith
    go false = omega arith

pub number_six : (at : ℕ) (r : List ℕ) → number 5 at r + 1099511627776 * number 1 (at + 5) r ≡ number 6 at r
number_six at r = let here : at + 5 ≡ at + 1 + 1 + 1 + 1 + 1 = omega arith in rw here (omega arith)

-- a mark that a kind lacks is 0, and so no mark
eqb_and : (b : Bool) (x : ℕ) → (b && eqb x 1) ≡ (b && eqb (cond b x 0) 1)
eqb_and true x = refl
eqb_and false x = refl

module _ (r : List ℕ) (held : Held r) where
  -- a test computed over the rows holds of its kind
  of_kind : (test : ℕ → Bool) → at_rows test mapping_bodies ≡ true → test (kind_of r) ≡ true
  of_kind test all = of_mapping_kind test all (kind_of r) held.known

  pub span_at_held : SpanAt r (place_of Field.span (kind_of r))
  unfolding mapping body_of length_of place_of wide
  span_at_held =
      record {
        span = sym (field_has Field.span 1 _ r (of_kind (λ k. has_field Field.span 1 (place_of Field.span k) k) refl));
        page = sym (field_has Field.page _ _ r (of_kind (λ k. has_field Field.page (page_bytes k) (place_of Field.span k + 1) k) refl));
        frame =
            sym (field_has Field.frame 5 _ r (of_kind (λ k. has_field Field.frame 5 (cond (wide k) (place_of Field.span k + 6 + 1) (place_of Field.span k + 6)) k) refl));
        fits =
            le_trans (leb-true _ _ (of_kind (λ k. leb (place_of Field.span k + 6 + page_bytes k) (length_of k)) refl)) held.fits;
      }

  -- the EP4TA stands at its place, which is 0 where the record has none
  pub ep4ta_fits : place_of Field.ep4ta (kind_of r) + 5 ≤ length r
  unfolding body_of length_of place_of
  ep4ta_fits = le_trans (leb-true _ _ (of_kind (λ k. leb (place_of Field.ep4ta k + 5) (length_of k)) refl)) held.fits

  ep4ta_by_place : cond (eqb (place_of Field.ep4ta (kind_of r)) 0) (lacks_field Field.ep4ta (kind_of r)) (has_field Field.ep4ta 5 (place_of Field.ep4ta (kind_of r)) (kind_of r)) ≡ true
  unfolding body_of place_of
  ep4ta_by_place =
      of_kind (λ k. cond (eqb (place_of Field.ep4ta k) 0) (lacks_field Field.ep4ta k) (has_field Field.ep4ta 5 (place_of Field.ep4ta k) k)) refl

  pub ep4ta_none : place_of Field.ep4ta (kind_of r) ≡ 0 → 0 ≡ (mapping r).ep4ta
  unfolding mapping
  ep4ta_none none = sym (field_lacks Field.ep4ta r (rw none at ep4ta_by_place))

  pub ep4ta_some : (place_of Field.ep4ta (kind_of r) ≡ 0 → ⊥) → number 5 (place_of Field.ep4ta (kind_of r)) r ≡ (mapping r).ep4ta
  unfolding mapping
  ep4ta_some some = sym (field_has Field.ep4ta 5 _ r (rw (ne_eqb (place_of Field.ep4ta (kind_of r)) 0 some) at ep4ta_by_place))

  -- the mark, by a test of the kind and of the byte where some kinds have it
  pub global_tests : (global_marked (mapping r).kind && eqb (number 1 5 r) 1) ≡ global_translation (mapping r)
  unfolding mapping
  global_tests = rw (global_held r held) (eqb_and (global_marked (kind_of r)) (number 1 5 r))

-- what the readers of the fields go by
pub ruleset fields = (held_length, vpid_held, pcid_held, global_held, page_bytes_some, number_six, ep4ta_fits, ep4ta_none, ep4ta_some, global_tests)
