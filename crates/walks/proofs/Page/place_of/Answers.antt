-- The sum is below the page's end, which is no more than 2^64.
use Rattle.std.proofs.Common.{◌+◌, ◌*◌, ◌/◌, ◌%◌, ◌^◌, ◌<◌, ◌≤◌, ℕ, zero, suc, arith}
use Rattle.walks.proofs.Page.place_of.Goals as goal

below : (base span address : ℕ) → span ≤ 2 → base < 2 ^ 64
    → base / 2 ^ (12 + 9 * span) * 2 ^ (12 + 9 * span) % 2 ^ 64 + address % (1 * 2 ^ (12 + 9 * span) % 2 ^ 64) < 2 ^ 64
below base zero address s h = omega arith
below base (suc zero) address s h = omega arith
below base (suc (suc zero)) address s h = omega arith
below base (suc (suc (suc n))) address s h = absurd (omega arith)

pub overflow_add-result : goal.overflow_add-result
overflow_add-result c = let p = c.args.self in record { fits = below p.base p.span c.args.address p.span_small (omega arith) }
