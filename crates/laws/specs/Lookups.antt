-- Lookups: "The part is empty exactly if there is no such record or answers 1, 2 or 3 apply", what answer 0
-- says of the table, and where the k-th record starts behind another.
use Prim.Native.Nat.{ℕ, zero, suc, ◌+◌, ◌-◌, ◌≤◌}
use Rattle.std.specs.Prelude.{Bool, ◌≡◌, eqb}
use Rattle.std.proofs.Math.Bool.{true, false, cond}
use mathlib.Core.List.{List, [], ◌∷◌}
use Rattle.std.proofs.Math.Path.{refl, ap}
use native.Mathlib.Omega.{arith}
use borrow.Author.Tests.{ltb-true, ltb-false, ne_eqb}
use Rattle.std.proofs.Math.Dec.{ltb}
use Rattle.std.proofs.Math.ListN.{length, get_or}
use Rattle.model.specs.declared.Context.{Context}
use Rattle.model.specs.declared.Address.{Address}
use Rattle.model.specs.Mappings.{mapping}
use Rattle.model.specs.Tables.{whole}
use Rattle.model.specs.Lookups.{usable, usable_records, lookup_answer, lookup, start_of}
use Rattle.laws.specs.Lists.{get_d_past, getD_every}
use Rattle.laws.specs.Mappings.{Valid}
use Rattle.laws.specs.Tables.{records_valid, every_only}
use Rattle.laws.specs.Steps.{judged_whole}

-- answer 0 leaves a whole table
pub lookup_answer_whole : (c : Context) (t : List ℕ) → lookup_answer c t ≡ 0 → whole t ≡ true
unfolding lookup_answer
lookup_answer_whole = judged_whole

-- the part that is handed back
module _ (c : Context) (a : Address) (t : List ℕ) (k : ℕ) where
  -- it is where an answer applies, or there is no such record
  pub lookup_refused : (lookup_answer c t ≡ 0 → ⊥) → lookup c a t k ≡ []
  unfolding lookup
  lookup_refused some = rw (ne_eqb (lookup_answer c t) 0 some)

  pub lookup_past : length (usable_records c a t) ≤ k → lookup c a t k ≡ []
  unfolding lookup
  lookup_past few = go (eqb (lookup_answer c t) 0)
    where
      go : (b : Bool) → cond b (get_or (usable_records c a t) k []) [] ≡ []
      go true = get_d_past (usable_records c a t) k [] few
      go false = refl

  -- and it is only there
  pub lookup_empty : lookup c a t k ≡ [] → lookup_answer c t ≡ 0 → length (usable_records c a t) ≤ k
  unfolding lookup usable_records
  lookup_empty empty answered = go (ltb k (length (usable_records c a t))) refl
    where
      go : (b : Bool) → ltb k (length (usable_records c a t)) ≡ b → length (usable_records c a t) ≤ k
      go true more_left =
          let part : get_or (usable_records c a t) k [] ≡ [] = rw answered at empty in
          let found : Valid (get_or (usable_records c a t) k []) =
          getD_every k [] (every_only (λ r. usable c a (mapping r)) (records_valid t)) (ltb-true k (length (usable_records c a t)) more_left) in
          absurd (omega (arith, found.filled, ap length part))
      go false none_left = ltb-false k (length (usable_records c a t)) none_left

-- where the k-th record of which a test holds starts, with a record before the others
module _ (p : List ℕ → Bool) (r : List ℕ) (rs : List (List ℕ)) (at : ℕ) where
  pub start_of_false : (k : ℕ) → p r ≡ false → start_of p k (r ∷ rs) at ≡ start_of p k rs (at + length r)
  unfolding start_of
  start_of_false zero e = rw e
  start_of_false (suc k) e = rw e

  pub start_of_true : (k : ℕ) → p r ≡ true → (k ≡ 0 → ⊥) → start_of p k (r ∷ rs) at ≡ start_of p (k - 1) rs (at + length r)
  unfolding start_of
  start_of_true zero e some = absurd (some refl)
  start_of_true (suc k) e some = let same : suc k - 1 ≡ k = omega arith in rw (e, same)

  pub start_of_zero : p r ≡ true → start_of p 0 (r ∷ rs) at ≡ at
  unfolding start_of
  start_of_zero e = rw e
