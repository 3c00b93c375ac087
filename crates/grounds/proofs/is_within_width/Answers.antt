-- `is_within_width`: a 64-bit number has quotient 0 by 2 to the power 64 or more.
use borrow.Author.Tests.{eq-eqb}
use mathlib.Core.Path.{sym}
use native.Mathlib.Nat.{div-eq_of_lt, lt_of_lt_of_le}
use lib.Pow.{pow_mono}
use Rattle.grounds.proofs.is_within_width.Goals as goal

pub returns-then-width-ge64 : goal.returns-then-width-ge64
returns-then-width-ge64 c =
    sym (eq-eqb _ _ (div-eq_of_lt (lt_of_lt_of_le c.ranges.eptp.fits (pow_mono {i = 64} c.if-width-ge64.true))))
