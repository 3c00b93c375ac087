-- One level of a walk.
use Prim.Native.Nat.{ℕ, zero, suc, ◌+◌, ◌-◌, ◌≤◌}
use Rattle.std.specs.Prelude.{Bool, true, false, ◌||◌, ◌≡◌, refl, eqb}
use Rattle.std.proofs.Math.Bool.{and-eq-true_iff}
use native.Mathlib.Omega.{arith}
use borrow.Author.Tests.{eqb-true}
use Rattle.walks.specs.Walks.{Memory, large, entry_place, ept_entry, ept_from}

-- a large page is one of 2 MiB or 1 GiB
pub large_span : (level e : ℕ) → large level e ≡ true → (1 ≤ level - 1) × (level - 1 ≤ 2)
large_span level e big = go (eqb level 2) refl ((and-eq-true_iff _ _).0 big).0
  where
    go : (b : Bool) → eqb level 2 ≡ b → (b || eqb level 3) ≡ true → (1 ≤ level - 1) × (level - 1 ≤ 2)
    go true two h = let is = eqb-true level 2 two in (omega arith, omega arith)
    go false other h = let is = eqb-true level 3 h in (omega arith, omega arith)

-- one level of EPT, by its number
pub ept_from_level : (m : Memory) (guest address level base read : ℕ) → (level ≡ 0 → ⊥)
    → ept_from m guest address level base read
    ≡ ept_entry (λ next. ept_from m guest address (level - 1) next (read + 1)) m guest address level (entry_place base level address) read
unfolding ept_from
ept_from_level m guest address zero base read some = absurd (some refl)
ept_from_level m guest address (suc n) base read some = let less : suc n - 1 ≡ n = omega arith in simp less
