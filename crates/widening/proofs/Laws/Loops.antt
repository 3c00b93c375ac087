-- The lengths of rewritten records, the table that is left in the two loops over one, and the loop that adds up lengths.
use Rattle.std.specs.Prelude.{ℕ, ◌+◌, ◌-◌, ◌*◌, ◌≤◌, Bool, true, false, cond, List, [], ◌∷◌, ◌++◌, ◌≡◌, refl, eqb, leb, length, take, drop}
use Rattle.std.proofs.Common.{ap, ◌∙◌, arith, le_trans, leb-true, eqb-true, length-append, length-drop, length-take-le}
use Rattle.model.specs.Bits.{number, bytes}
use Rattle.model.specs.Buffers.{put}
use Rattle.model.specs.Layouts.{Field, kind_of, mapping_kind, body_of, length_of, field}
use Rattle.model.specs.Mappings.{Held, linear, combined, wide, other_width}
use Rattle.model.specs.Tables.{joined, records, whole}
use Rattle.laws.specs.Buffers.{length_bytes, put_put, length_put_least}
use Rattle.laws.specs.Layouts.{of_mapping_kind, has_field, field_has}
use Rattle.laws.specs.Mappings.{held_length}
use Rattle.kinds.specs.Places.{place_of}
use Rattle.widening.specs.Widening.{widened_kind, widened_page, page_place, rewritten, widened, widened_table}

-- the page lies within a held record, five bytes of it or more
pub page_within : (r : List ℕ) → Held r → page_place (kind_of r) + 5 ≤ length r
unfolding body_of length_of
page_within r held =
    le_trans (leb-true _ _ (of_mapping_kind (λ k. leb (page_place k + 5) (length_of k)) refl (kind_of r) held.known)) held.fits

-- a rewritten record is a byte longer: the pieces before and behind the page are all but its kind byte and five bytes
pub length_rewritten_pieces : (r : List ℕ) → Held r
    → length (take (page_place (kind_of r) - 1) (drop 1 r)) + length (drop (page_place (kind_of r) + 5) r) + 6 ≡ length r
length_rewritten_pieces r held =
    let p = page_place (kind_of r) in
    let fits = page_within r held in
    omega (arith, fits, length-take-le (p - 1) (drop 1 r) (omega (arith, fits, length-drop 1 r)), length-drop (p + 5) r)

pub length_rewritten : (r : List ℕ) → Held r → length (rewritten r) ≡ length r + 1
unfolding rewritten
length_rewritten r held = simp (length-append, length_bytes) (omega (arith, length_rewritten_pieces r held))

pub widened_other : (r : List ℕ) → other_width 57 (kind_of r) ≡ true → widened r ≡ rewritten r
unfolding widened
widened_other r other = rw other

pub widened_own : (r : List ℕ) → other_width 57 (kind_of r) ≡ false → widened r ≡ r
unfolding widened
widened_own r own = rw own

pub length_widened_le : (r : List ℕ) → Held r → length (widened r) ≤ length r + 1
length_widened_le r held = go (other_width 57 (kind_of r)) refl
  where
    go : (b : Bool) → other_width 57 (kind_of r) ≡ b → length (widened r) ≤ length r + 1
    go true is = omega (arith, ap length (widened_other r is), length_rewritten r held)
    go false is = omega (arith, ap length (widened_own r is))

-- a whole table is its first record and the rest
module _ (rest r behind : List ℕ) (first : records rest ≡ r ∷ records behind) (w : whole rest ≡ true) (w' : whole behind ≡ true) where
  length_first : length rest ≡ length r + length behind
  unfolding whole joined
  length_first =
      omega (arith, eqb-true (length (joined (records rest))) (length rest) w, eqb-true (length (joined (records behind))) (length behind) w', ap length (ap joined first), length-append r (joined (records behind)))

pub widened_first : (rest r behind : List ℕ) → records rest ≡ r ∷ records behind → widened_table rest ≡ widened r ++ widened_table behind
unfolding widened_table joined
widened_first rest r behind first = rw first

pub widened_none : (rest : List ℕ) → records rest ≡ [] → widened_table rest ≡ []
unfolding widened_table joined
widened_none rest none = rw none

-- the loop that adds up the lengths, with a rest of the table left
pub record Adding (t rest : List ℕ) (size : ℕ) : Type 0 where
  pub few : size + 2 * length rest ≤ 2 * length t
  pub all : size + length (widened_table rest) ≡ length (widened_table t)

pub adding_start : (t : List ℕ) → Adding t t 0
adding_start t = record { few = omega arith; all = omega arith }

pub adding_turn : (t rest r behind : List ℕ) {size more : ℕ} → Adding t rest size → records rest ≡ r ∷ records behind → whole rest ≡ true → whole behind ≡ true → Held r
    → more ≡ length (widened r)
    → Adding t behind (size + more)
adding_turn t rest r behind s first w w' held is =
    let long = length_first rest r behind first w w' in
    record {
      few = omega (arith, s.few, is, long, length_widened_le r held, held_length r held);
      all = omega (arith, s.all, is, ap length (widened_first rest r behind first), length-append (widened r) (widened_table behind));
    }

pub adding_end : {t rest : List ℕ} {size : ℕ} → Adding t rest size → records rest ≡ [] → size ≡ length (widened_table t)
adding_end {rest = rest} s none = omega (arith, s.all, ap length (widened_none rest none))

-- the page stands behind the span, in five bytes where the kind is of 48 bits
pub page_behind_span : (k : ℕ) → mapping_kind k ≡ true → place_of Field.span k + 1 ≡ page_place k
unfolding body_of place_of
page_behind_span k known =
    eqb-true _ _ (of_mapping_kind (λ k. eqb (place_of Field.span k + 1) (page_place k)) refl k known)

pub page_of_five : (r : List ℕ) → Held r → other_width 57 (kind_of r) ≡ true → field Field.page r ≡ number 5 (page_place (kind_of r)) r
unfolding body_of linear combined wide other_width
page_of_five r held other =
    field_has Field.page 5 (page_place (kind_of r)) r
    (where_other (of_mapping_kind (λ k. cond (other_width 57 k) (has_field Field.page 5 (page_place k) k) true) refl (kind_of r) held.known))
  where
    where_other : {b : Bool} → cond (other_width 57 (kind_of r)) b true ≡ true → b ≡ true
    where_other h = rw other at h

-- what the answers on one record rest on
pub ruleset rewriting = (length_rewritten, widened_other, widened_own, page_within, page_behind_span)

-- the four pieces of a rewritten record, put one behind the other
pub put_pieces : (r b : List ℕ) (at : ℕ) → Held r → at + (length r + 1) ≤ length b
    → {second third fourth end : ℕ} {b₁ b₂ b₃ b₄ : List ℕ}
    → (second ≡ at + 1) × (b₁ ≡ put at (bytes 1 (widened_kind (kind_of r))) b)
    → (third ≡ second + length (take (page_place (kind_of r) - 1) (drop 1 r))) × (b₂ ≡ put second (take (page_place (kind_of r) - 1) (drop 1 r)) b₁)
    → (fourth ≡ third + 6) × (b₃ ≡ put third (bytes 6 (widened_page (field Field.page r))) b₂)
    → (end ≡ fourth + length (drop (page_place (kind_of r) + 5) r)) × (b₄ ≡ put fourth (drop (page_place (kind_of r) + 5) r) b₃)
    → (end ≡ at + (length r + 1)) × (b₄ ≡ put at (rewritten r) b)
unfolding rewritten bytes
put_pieces r b at held room {second} {third} {fourth} {b₁ = b₁} {b₂} {b₃} first next page last =
    let k = bytes 1 (widened_kind (kind_of r)) in
    let front = take (page_place (kind_of r) - 1) (drop 1 r) in
    let p = bytes 6 (widened_page (field Field.page r)) in
    let behind = drop (page_place (kind_of r) + 5) r in
    let one : length k ≡ 1 = length_bytes 1 (widened_kind (kind_of r)) in
    let six : length p ≡ 6 = length_bytes 6 (widened_page (field Field.page r)) in
    let all = length_rewritten_pieces r held in
    let third_at : third ≡ second + length front = next.0 in
    let joined_last : put fourth behind (put third p b₂) ≡ put third (p ++ behind) b₂ =
    rw (page.0, ← six) (put_put third p behind b₂ (omega (arith, grown second front b₁ next.1, grown at k b first.1, first.0, next.0, all, one))) in
    let joined_page : put third (p ++ behind) (put second front b₁) ≡ put second (front ++ (p ++ behind)) b₁ =
    rw third_at (put_put second front (p ++ behind) b₁ (omega (arith, grown at k b first.1, first.0, all, one))) in
    let joined_front : put second (front ++ (p ++ behind)) (put at k b) ≡ put at (k ++ (front ++ (p ++ behind))) b =
    rw (first.0, ← one) (put_put at k (front ++ (p ++ behind)) b (omega arith)) in (
      omega (arith, first.0, next.0, page.0, last.0, all),
      last.1 ∙ ap (λ (x : List ℕ). put fourth behind x) page.1 ∙ joined_last ∙ ap (λ (x : List ℕ). put third (p ++ behind) x) next.1
          ∙ joined_page ∙ ap (λ (x : List ℕ). put second (front ++ (p ++ behind)) x) first.1 ∙ joined_front,
    )
  where
    -- a buffer never becomes shorter
    grown : (at : ℕ) (xs b : List ℕ) {b' : List ℕ} → b' ≡ put at xs b → length b ≤ length b'
    grown at xs b is = omega (arith, ap length is, length_put_least at xs b)
