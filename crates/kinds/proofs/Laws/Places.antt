-- The numbers in code are the definitions' if a test computed over them says so.
use Rattle.std.specs.Prelude.{ℕ, ◌+◌, ◌≤◌, ◌<◌, ◌≡◌, refl, Bool, true, false, cond, not, ◌&&◌, eqb, leb, ltb}
use Rattle.std.proofs.Common.{subst, eqb-true, le-leb, lt-ltb}
use Rattle.std.proofs.lemmas.Bool.{false≢true}
use Rattle.model.specs.Layouts.{mapping_bodies, mapping_kind, event_kind, length_of}
use Rattle.laws.specs.Layouts.{at_rows, of_mapping_kind, of_event_kind, below, below_at}
use Rattle.kinds.specs.Places.{number_at}

-- they are numbers of the kinds of mappings: any that are worked out of a kind, and those at its place
pub tested_of_mappings : (f g : ℕ → ℕ) → at_rows (λ k. eqb (g k) (f k)) mapping_bodies ≡ true → (k : ℕ) → mapping_kind k ≡ true → g k ≡ f k
tested_of_mappings f g all k known = eqb-true (g k) (f k) (of_mapping_kind (λ k. eqb (g k) (f k)) all k known)

pub numbers_of_mappings : (f : ℕ → ℕ) (numbers : ℕ) → at_rows (λ k. eqb (number_at numbers k) (f k)) mapping_bodies ≡ true
    → (k : ℕ) → mapping_kind k ≡ true → number_at numbers k ≡ f k
numbers_of_mappings f numbers = tested_of_mappings f (number_at numbers)

-- the length of a kind; 0 where it is unknown
abbrev pub length_or_none : ℕ → ℕ
length_or_none k = cond (event_kind k) (length_of k) 0

-- the numbers are the lengths of twelve kinds, from a first one on
pub numbers_of_lengths : (numbers start : ℕ) → below (λ place. eqb (number_at numbers place) (length_or_none (start + place))) 12 ≡ true
    → (place k : ℕ) → start + place ≡ k → place < 12 → number_at numbers place ≡ length_or_none k
numbers_of_lengths numbers start all place k is within =
    subst (λ (k : ℕ). number_at numbers place ≡ length_or_none k) is
    (eqb-true (number_at numbers place) (length_or_none (start + place))
    (below_at (λ place. eqb (number_at numbers place) (length_or_none (start + place))) 12 all place within))

-- where a test holds of no known kind, kinds of which it holds are unknown
length_of_unknown : (test : ℕ → Bool) → ((k : ℕ) → event_kind k ≡ true → not (test k) ≡ true) → (k : ℕ) → test k ≡ true → 0 ≡ length_or_none k
length_of_unknown test none k holds = go (event_kind k) refl
  where
    go : (b : Bool) → event_kind k ≡ b → 0 ≡ cond b (length_of k) 0
    go false unknown = refl
    go true known = absurd (false≢true (rw holds at (none k known)))

pub length_from_12 : (k : ℕ) → 12 ≤ k → k < 16 → 0 ≡ length_or_none k
length_from_12 k from to =
    length_of_unknown (λ k. leb 12 k && ltb k 16) (of_event_kind (λ k. not (leb 12 k && ltb k 16)) refl) k (rw (le-leb 12 k from, lt-ltb k 16 to))

pub length_from_28 : (k : ℕ) → 28 ≤ k → 0 ≡ length_or_none k
length_from_28 k from =
    length_of_unknown (λ k. leb 28 k) (of_event_kind (λ k. not (leb 28 k)) refl) k (le-leb 28 k from)
