-- An event that is accepted beside a tally: the tally matches, and the plain step accepts it too.
use Prim.Native.Nat.{ℕ, zero, suc}
use Rattle.std.specs.Prelude.{Bool, true, false, cond, List, ◌≡◌, eqb}
use Rattle.std.proofs.Math.Path.{refl}
use Rattle.std.proofs.Common.{sym, arith, ne_eqb}
use Rattle.model.specs.declared.Context.{Context}
use Rattle.model.specs.Tables.{records}
use Rattle.model.specs.Answers.{first, valid_here, table_grounds, answer}
use Rattle.model.specs.Steps.{new_table, accepted_step, refused_step}
use Rattle.tally_rows.specs.declared.KindCounts.{KindCounts}
use Rattle.tally_rows.specs.Rows.{kind_counts, matching}
use Rattle.counted_steps.specs.declared.CountedStep.{CountedStep}
use Rattle.counted_steps.specs.Steps.{counted_answer, counted_stepped}
use Rattle.counted_steps.proofs.Laws.Steps.{counted_of_table, counted_of_invalid, counted_of_other, invalid_is_4}

module _ (c : Context) (kinds : List KindCounts) (pcids t e : List ℕ) (room : ℕ) where
  -- the step hands back the answer
  pub counted_stepped_answer : (counted_stepped c kinds pcids t e room).step.answer ≡ counted_answer c kinds pcids t e room
  unfolding counted_stepped accepted_step refused_step
  counted_stepped_answer = go (counted_answer c kinds pcids t e room)
    where
      go : (n : ℕ) → (cond {A = CountedStep} (eqb n 0) (record { step = accepted_step c t e; kinds = kind_counts (records (new_table c t e)) }) (record { step = refused_step n c e; kinds = kinds })).step.answer ≡ n
      go zero = refl
      go (suc n) = rw (ne_eqb (suc n) 0 (λ z. omega arith))

  module _ (accepted : counted_answer c kinds pcids t e room ≡ 0) where
    -- a tally that is another is refused, with 13 or an answer before it
    other_refused : matching kinds pcids (records t) ≡ false → ⊥
    other_refused other = by_table (first (table_grounds c t)) refl
      where
        by_event : (valid : Bool) → valid_here c e ≡ valid → first (table_grounds c t) ≡ 0 → ⊥
        by_event true v passes = omega (arith, accepted, counted_of_other c kinds pcids t e room passes v other)
        by_event false v passes = omega (arith, accepted, counted_of_invalid c kinds pcids t e room v, invalid_is_4 c t passes)

        by_table : (n : ℕ) → n ≡ first (table_grounds c t) → ⊥
        by_table zero is = by_event (valid_here c e) refl (sym is)
        by_table (suc n) is = omega (arith, accepted, counted_of_table c kinds pcids t e room is (λ z. omega arith))

    pub accepted_matching : matching kinds pcids (records t) ≡ true
    accepted_matching = go (matching kinds pcids (records t)) refl
      where
        go : (b : Bool) → matching kinds pcids (records t) ≡ b → b ≡ true
        go true is = refl
        go false is = absurd (other_refused is)
