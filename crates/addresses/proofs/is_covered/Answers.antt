use borrow.Author.Tests.{eq-eqb}
use mathlib.Core.Path.{◌≡◌, refl, sym, ◌∙◌}
use Prim.Native.Nat.{ℕ, ◌*◌, ◌/◌, ◌^◌, ◌<◌, ◌≤◌}
use native.Mathlib.Nat.{div-eq_of_lt, lt_of_lt_of_le}
use native.Mathlib.Omega.{arith}
use lib.Pow.{pow_mono}
use Rattle.addresses.proofs.is_covered.Goals as goal

-- a 64-bit page has quotient 0 by the pages of a span of 8 or more
quotient-zero : (p span : ℕ) → p < 2 ^ 64 → 8 ≤ span → p / 2 ^ (9 * span) ≡ 0
quotient-zero p span small large =
    div-eq_of_lt (lt_of_lt_of_le small (pow_mono {i = 64} {j = 9 * span} (omega arith)))

pub returns-then-span-ge8 : goal.returns-then-span-ge8
unfolding Rattle.model.specs.Mappings.covers
returns-then-span-ge8 c =
    let a = c.args in
    sym (eq-eqb _ _ (quotient-zero a.p a.span c.ranges.p.fits c.if-span-ge8.true ∙ sym (quotient-zero a.page a.span c.ranges.page.fits c.if-span-ge8.true)))

pub returns : goal.returns
unfolding Rattle.model.specs.Mappings.covers
returns c = refl
