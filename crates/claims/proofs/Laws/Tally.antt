-- What the explainer, the judge and the book say is what the step with a matching tally says, and never 13: proved.
use Rattle.std.specs.Prelude.{ℕ, ◌≤◌, Bool, true, false, cond, not, ◌&&◌, List, [], ◌∷◌, refl, eqb, leb}
use Rattle.std.proofs.Math.Bool.{and-eq-true_iff}
use Rattle.std.proofs.Math.Path.{◌≡◌}
use Rattle.std.proofs.Common.{sym, ap, ◌∙◌, arith, leb-true, ne_eqb}
use Rattle.model.specs.declared.Context.{Context}
use Rattle.model.specs.declared.Step.{Step}
use Rattle.model.specs.Context.{in_range}
use Rattle.model.specs.Tables.{limit}
use Rattle.model.specs.Mappings.{mapping}
use Rattle.model.specs.Events.{event}
use Rattle.model.specs.Answers.{first, table_grounds, event_grounds, grounds, answer, rule_with}
use Rattle.model.specs.Steps.{refused_step}
use Rattle.model.specs.Reasons.{reason, one_record, explained_answer, Refused, Accepted, explanation, explanation_answer}
use Rattle.laws.specs.Reasons.{in_scope_dropped, dropped_in_scope}
use Rattle.tally_rows.specs.declared.KindCounts.{KindCounts}
use Rattle.counted_steps.specs.Steps.{counted_answer, counted_stepped}
use Rattle.counted_steps.proofs.Laws.Steps.{counted_stepped_matching}
use Rattle.counted_steps.proofs.Laws.Accepted.{accepted_matching}
use Rattle.runs.specs.Book.{book_table, book_answer}
use Rattle.runs.proofs.Laws.Steps.{by_answer}
use Rattle.claims.specs.declared.Judgement.{Judgement}
use Rattle.claims.specs.Claims.{judgement, judgement_values}
use Rattle.claims.specs.Tally.{ExplainsCountedAlways, Never13}
use Rattle.claims.proofs.Laws.Theorem.{judge_judges_holds}

-- ---- the explainer beside a tally

module _ (c : Context) (kinds : List KindCounts) (pcids r e : List ℕ) where
  -- a counted step that drops a record was accepted
  dropped_accepted : (counted_stepped c kinds pcids r e limit).step.dropped ≡ 1 → counted_answer c kinds pcids r e limit ≡ 0
  unfolding counted_stepped refused_step
  dropped_accepted gone =
      by_answer (counted_answer c kinds pcids r e limit) (λ zero. zero)
      (λ some. absurd (let none : ◌≡◌ {A = ℕ} 0 1 = rw (ne_eqb (counted_answer c kinds pcids r e limit) 0 some) at gone in omega arith))

pub explains_counted_holds : ExplainsCountedAlways
explains_counted_holds c kinds pcids r e =
    record {
      drops = λ match said.
          let plain = in_scope_dropped c r e said in
          (plain.0, ap (λ (s : Step). s.dropped) (counted_stepped_matching c kinds pcids r e match limit) ∙ plain.1);
      in_scope = λ one gone.
          let match = accepted_matching c kinds pcids r e limit (dropped_accepted c kinds pcids r e gone) in
          dropped_in_scope c r e one (ap (λ (s : Step). s.dropped) (sym (counted_stepped_matching c kinds pcids r e match limit)) ∙ gone);
    }

-- ---- no 13

-- no number of some grounds is above 12
abbrev low : List (ℕ × Bool) → Bool
low [] = true
low (g ∷ gs) = leb g.0 12 && low gs

first_low : (gs : List (ℕ × Bool)) → low gs ≡ true → first gs ≤ 12
unfolding first
first_low [] h = omega arith
first_low (g ∷ gs) h =
    let parts = (and-eq-true_iff (leb g.0 12) (low gs)).0 h in
    go g.1 (leb-true g.0 12 parts.0) (first_low gs parts.1)
  where
    go : (b : Bool) → g.0 ≤ 12 → first gs ≤ 12 → cond b g.0 (first gs) ≤ 12
    go true here others = here
    go false here others = others

-- the answer without a tally
answer_low : (c : Context) (t e : List ℕ) (room : ℕ) → answer c t e room ≤ 12
unfolding answer grounds table_grounds event_grounds
answer_low c t e room = first_low (grounds c t e room) refl

explained_low : (c : Context) (r e : List ℕ) → explained_answer c r e ≤ 12
unfolding explained_answer first
explained_low c r e = go (one_record c.linear_width r) (in_range c)
  where
    go : (one fit : Bool) → cond one (answer c r e limit) (cond (not fit) 1 3) ≤ 12
    go true fit = answer_low c r e limit
    go false true = omega arith
    go false false = omega arith

explanation_low : (c : Context) (r e : List ℕ) → explanation_answer (explanation c r e) ≤ 12
unfolding explanation
explanation_low c r e = go (eqb (explained_answer c r e) 0)
  where
    go : (b : Bool) → explanation_answer (cond b (Accepted (reason c (event e) (mapping r))) (Refused (explained_answer c r e) (rule_with c e (explained_answer c r e)))) ≤ 12
    go true = omega arith
    go false = explained_low c r e

judgement_low : (c : Context) (t e claim : List ℕ) → (judgement_values (judgement c t e claim)).answer ≤ 12
judgement_low c t e claim = go (judgement c t e claim) refl
  where
    go : (j : Judgement) → judgement c t e claim ≡ j → (judgement_values j).answer ≤ 12
    go Judgement.Accepted is = omega arith
    go (Judgement.Refused n k) is = omega (arith, ((judge_judges_holds c t e claim).refused n k is).0, answer_low c t e limit)
    go Judgement.Malformed is = omega arith
    go (Judgement.Unmatched position) is = omega arith

pub never_13_holds : Never13
unfolding book_answer
never_13_holds e =
    record {
      explained = λ c r is. omega (arith, is, explanation_low c r e);
      judged = λ c t claim is. omega (arith, is, judgement_low c t e claim);
      booked = λ b is. omega (arith, is, answer_low b.context (book_table b) e limit);
    }
