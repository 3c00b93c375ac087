-- The search of a lookup, record by record: what is left to find behind the position, and what each
-- turn does.
use Rattle.std.specs.Prelude.{ℕ, ◌+◌, ◌-◌, ◌≤◌, ◌≡◌, refl, Bool, true, false, List, [], Some, length, get_or, take, drop}
use Rattle.std.proofs.Common.{sym, ◌∙◌, arith}
use Rattle.model.specs.declared.Mapping.{Mapping}
use Rattle.model.specs.Mappings.{mapping}
use Rattle.model.specs.Tables.{records, whole, only}
use Rattle.model.specs.Lookups.{start_of}
use Rattle.laws.specs.Lists.{getD_behind}
use Rattle.laws.specs.Lookups.{start_of_false, start_of_true, start_of_zero}
use Rattle.laws.specs.Tables.{rest_of_drop, records_drop_end, only_true, only_false, Next, held_of_whole}
use Rattle.lookups.specs.declared.Sought.{Sought}
use Rattle.lookups.specs.Search.{seeks, AsksFor, Searched}

-- the k-th record of the table of which a test holds is the one of number `left` in the rest
pub record Searching (p : Mapping → Bool) (t : List ℕ) (k at left : ℕ) : Type 0 where
  pub part : get_or (only (λ r. p (mapping r)) (records t)) k [] ≡ get_or (only (λ r. p (mapping r)) (records (drop at t))) left []
  pub place : start_of (λ r. p (mapping r)) k (records t) 0 ≡ start_of (λ r. p (mapping r)) left (records (drop at t)) at

pub search_start : (p : Mapping → Bool) (t : List ℕ) (k : ℕ) → Searching p t k 0 k
search_start p t k = record { part = refl; place = refl }

pub search_end : {p : Mapping → Bool} {t : List ℕ} {k at left : ℕ} → Searching p t k at left → length t ≤ at → Searched p t k 0 0
unfolding only start_of
search_end {t} {at} s e =
    let none = records_drop_end t at e in
    record {
      ordered = omega arith;
      within = omega arith;
      part = sym (rw none at s.part);
      place = sym (rw none at s.place);
    }

-- a turn, at a record of n bytes in a rest that is whole; b is what is read as whether it is sought
module _ {p : Mapping → Bool} {t : List ℕ} {k at left n : ℕ} {b : Bool} {q : Sought} (rest : whole (drop at t) ≡ true) (s : Searching p t k at left) (asked : AsksFor p (Some q)) (next : Next t at n) (says : b ≡ seeks q (take (length t - at) (drop at t))) where
  of_front : p (mapping (take n (drop at t))) ≡ b
  of_front =
      let held = held_of_whole t at rest (omega (arith, next.some, next.within)) in
      rw (next.same, says ∙ asked.same _ held, rest_of_drop)

  pub search_skip : b ≡ false → Searching p t k (at + n) left
  search_skip e =
      let unusable : p (mapping (take n (drop at t))) ≡ false = of_front ∙ e in
      record {
        part = s.part ∙ rw (next.split, only_false);
        place = s.place ∙ rw (next.split, start_of_false, next.size);
      }

  pub search_next : b ≡ true → (left ≡ 0 → ⊥) → Searching p t k (at + n) (left - 1)
  search_next e some =
      let found : p (mapping (take n (drop at t))) ≡ true = of_front ∙ e in
      record {
        part = s.part ∙ rw (next.split, only_true, getD_behind);
        place = s.place ∙ rw (next.split, start_of_true, next.size);
      }

  pub search_found : b ≡ true → left ≡ 0 → Searched p t k at (at + n)
  search_found e none =
      let found : p (mapping (take n (drop at t))) ≡ true = of_front ∙ e in
      let size : at + n - at ≡ n = omega arith in
      record {
        ordered = omega arith;
        within = next.within;
        part = rw size (sym (s.part ∙ rw (none, next.split, only_true)));
        place = sym (s.place ∙ rw (none, next.split, start_of_zero));
      }
