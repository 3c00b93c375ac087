-- What judging a table tells, by what the walk tells.
use Rattle.std.specs.Prelude.{ℕ, ◌≤◌, ◌<◌, Bool, true, false, ◌&&◌, List, ◌≡◌, refl, length}
use Rattle.std.proofs.Common.{sym, ap, ◌∙◌, lt-ltb, le-ltb, eq-eqb, ne_eqb}
use Rattle.model.specs.declared.Refusal.{Refusal}
use Rattle.model.specs.Refusals.{refusal_number}
use Rattle.model.specs.Reasons.{one_record}
use Rattle.model.specs.Tables.{limit, records}
use Rattle.model.specs.Answers.{first, valid_table, stored_grounds}
use Rattle.laws.specs.Answers.{stored_passes}
use Rattle.laws.specs.Reasons.{one_record_judged}
use Rattle.laws.specs.Refusals.{refusal_number_some}
use Rattle.tables.specs.Walk.{Tells}

module _ (w : ℕ) (t : List ℕ) where
  pub judged_long : limit < length t → first (stored_grounds w t) ≡ 2
  unfolding first
  judged_long long = rw (lt-ltb limit (length t) long)

  module _ (n k : ℕ) (told : Tells w t n k) where
    pub judged_stopped : length t ≤ limit → (n ≡ length t → ⊥) → first (stored_grounds w t) ≡ 3
    unfolding first
    judged_stopped short stopped = rw (le-ltb limit (length t) short, sym told.valid ∙ ne_eqb n (length t) stopped)

    pub judged_valid : n ≡ length t → valid_table w t ≡ true
    judged_valid all = sym told.valid ∙ eq-eqb n (length t) all

    pub judged_accepted : length t ≤ limit → n ≡ length t → first (stored_grounds w t) ≡ 0
    judged_accepted short all = stored_passes w t (judged_valid all) short

    pub judged_number : n ≡ length t → k ≡ length (records t)
    judged_number all = told.number (judged_valid all)

-- what judging rests on
pub ruleset judged = (judged_long, judged_stopped, judged_valid, judged_accepted, judged_number)

-- exactly one valid record, by what judging tells
module _ (w : ℕ) (r : List ℕ) where
  pub judged_one : first (stored_grounds w r) ≡ 0 → length (records r) ≡ 1 → one_record w r ≡ true
  judged_one zero one = sym (one_record_judged w r 0 1 (sym zero) (λ z. sym one))

  pub judged_other : first (stored_grounds w r) ≡ 0 → (length (records r) ≡ 1 → ⊥) → one_record w r ≡ false
  judged_other zero other = sym (one_record_judged w r 0 (length (records r)) (sym zero) (λ z. refl)) ∙ ne_eqb _ 1 other

  pub judged_refused : (e : Refusal) → first (stored_grounds w r) ≡ refusal_number e → one_record w r ≡ false
  judged_refused e is =
      let some : refusal_number e ≡ 0 → ⊥ = refusal_number_some e in
      sym (one_record_judged w r (refusal_number e) 0 (sym is) (λ none. absurd (some none))) ∙ ap (λ (b : Bool). b && false) (ne_eqb _ 0 some)

-- what the test for one record rests on, where the table is accepted
pub ruleset ones = (judged_one, judged_other)
