use Prim.Native.Nat.{ℕ, ◌+◌}
use mathlib.Core.List.{List, [], ◌∷◌}
use mathlib.Core.Path.{◌≡◌, ap, ◌∙◌}
use native.Mathlib.Omega.{arith}
use lib.ListN.{length, take, length-append}
use Rattle.lines.specs.Text.{decimal}
use Rattle.laws.specs.Buffers.{put_more}
use Rattle.lines.proofs.Laws.Text.{decimal_digits, length_decimal}
use Rattle.lines.proofs.put_field.Goals as goal
use Rattle.lines.proofs.put_field.Goals.{After-decimal-count, After-put-last}

-- what is copied are the number's digits
text-is : (c : After-decimal-count)
    → take c.decimal-count.result c.decimal-count.new.out ≡ decimal c.args.n
text-is c =
    c.decimal-count.ensures.digits
    ∙ decimal_digits c.args.n c.decimal-count.result c.ranges.n.fits c.decimal-count.ensures.len

pub put-last-requires : goal.put-last-requires
put-last-requires c = omega (arith, ap length (text-is (goal.at.put-last-requires c).After-decimal-count), length_decimal c.args.n)

-- they end where the copy ends
ends : (c : After-put-last) → c.put-last.result ≡ c.args.at + length (decimal c.args.n)
ends c = c.put-last.ensures.value ∙ ap (λ (t : List ℕ). c.args.at + length t) (text-is (goal.at.After-put-last c).After-decimal-count)

pub bounds-out-last : goal.bounds-out-last
bounds-out-last c = omega (arith, ends (goal.at.bounds-out-last c).After-put-last, length_decimal c.args.n, ap length (text-is (goal.at.bounds-out-last c).After-decimal-count))

pub overflow_add-result : goal.overflow_add-result
overflow_add-result c = omega (arith, ends (goal.at.overflow_add-result c).After-put-last, length_decimal c.args.n)

pub returns : goal.returns
returns c =
    let a = c.args in record {
      value = omega (arith, ends (goal.at.returns c).After-put-last, length-append (decimal a.n) (a.end ∷ []));
      out_after = rw (c.put-last.ensures.out_after, text-is (goal.at.returns c).After-decimal-count, ends (goal.at.returns c).After-put-last)
          (put_more a.at (decimal a.n) a.out.now a.end (omega (arith, length_decimal a.n)));
    }
