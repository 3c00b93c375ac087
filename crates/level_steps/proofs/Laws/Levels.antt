-- The step of two tables, by its answer.
use Rattle.std.specs.Prelude.{ℕ, List, ◌≡◌, refl, length}
use Rattle.std.proofs.Math.Path.{sym}
use Rattle.std.proofs.Common.{ap, ◌∙◌}
use borrow.Author.Tests.{ne_eqb}
use Rattle.model.specs.declared.Context.{Context}
use Rattle.model.specs.Answers.{rule_with}
use Rattle.model.specs.Buffers.{put}
use Rattle.model.specs.Tables.{records}
use Rattle.model.specs.Events.{event}
use Rattle.model.specs.Scopes.{next_context}
use Rattle.model.specs.Steps.{new_table, dropped_count, accepted_step, refusal, refused_step}
use Rattle.tally_rows.specs.Rows.{kind_counts}
use Rattle.counted_steps.specs.declared.CountedStep.{CountedStep}
use Rattle.counted_steps.specs.Steps.{counted_answer, counted_stepped, counted_pcids, counted_written}
use Rattle.counted_steps.proofs.Laws.Steps.{counted_step_refused}
use Rattle.level_steps.specs.declared.Level.{Level}
use Rattle.level_steps.specs.declared.LevelStep.{LevelStep}
use Rattle.level_steps.specs.Levels.{Handed, alone, alone_pcids, alone_written, given, accepted_by_both, level_of, level_refusal, levels_refusal, levels_stepped, pcids_of_first, first_written, pcids_of_second, second_written}

-- one table alone
module _ (c : Context) (e : List ℕ) (h : Handed) where
  abbrev pub own_answer : ℕ
  own_answer = counted_answer c h.kinds h.pcids h.table e (length h.buffer)

  -- where it is accepted, its answer and its rule are 0
  alone_accepted : own_answer ≡ 0 → ((alone c e h).step.answer ≡ 0) × ((alone c e h).step.rule ≡ 0)
  unfolding counted_stepped accepted_step
  alone_accepted zero = (rw zero, rw zero)

  -- where it is refused, it is a refusal
  alone_refused : {n k : ℕ} → n ≡ own_answer → (n ≡ 0 → ⊥) → k ≡ rule_with c e n → (alone c e h).step ≡ refusal n k c
  alone_refused is some rule = ap (λ (s : CountedStep). s.step) (sym (counted_step_refused c h.kinds h.pcids h.table e h.buffer (sym is) some rule refl).0)

module _ (c : Context) (e : List ℕ) (h k : Handed) where
  -- the step whose answer is given
  first_given : {n r : ℕ} → (alone c e h).step ≡ refusal n r c → (n ≡ 0 → ⊥) → given c e h k ≡ refusal n r c
  unfolding given
  first_given {n} is some = rw (is, ne_eqb n 0 some)

  second_given : (alone c e h).step.answer ≡ 0 → given c e h k ≡ (alone c e k).step
  unfolding given
  second_given zero = rw zero

  -- what a step hands back and writes
  abbrev Steps : LevelStep → List ℕ → List ℕ → List ℕ → List ℕ → Type 0
  Steps r p b p' b' =
      (r ≡ levels_stepped c e h k) × ((p ≡ pcids_of_first c e h k) × ((b ≡ first_written c e h k) × ((p' ≡ pcids_of_second c e h k) × (b' ≡ second_written c e h k))))

  levels_refused : {n r : ℕ} → given c e h k ≡ refusal n r c → (n ≡ 0 → ⊥) → {s : LevelStep} → s ≡ levels_refusal n r c h.kinds k.kinds
      → Steps s h.pcids h.buffer k.pcids k.buffer
  unfolding accepted_by_both levels_stepped pcids_of_first first_written pcids_of_second second_written
  levels_refused {n} is some told =
      let other = ne_eqb n 0 some in
      (told ∙ rw (is, other), (rw (is, other), (rw (is, other), (rw (is, other), rw (is, other)))))

  -- by the answer of the first table, or by that of the second where the first accepts
  pub refused_by_first : {n r : ℕ} → n ≡ own_answer c e h → (n ≡ 0 → ⊥) → r ≡ rule_with c e n → {s : LevelStep} → s ≡ levels_refusal n r c h.kinds k.kinds
      → Steps s h.pcids h.buffer k.pcids k.buffer
  refused_by_first is some rule told = levels_refused (first_given (alone_refused c e h is some rule) some) some told

  pub refused_by_second : own_answer c e h ≡ 0 → {n r : ℕ} → n ≡ own_answer c e k → (n ≡ 0 → ⊥) → r ≡ rule_with c e n → {s : LevelStep} → s ≡ levels_refusal n r c h.kinds k.kinds
      → Steps s h.pcids h.buffer k.pcids k.buffer
  refused_by_second zero is some rule told = levels_refused (second_given (alone_accepted c e h zero).0 ∙ alone_refused c e k is some rule) some told

  pub levels_accepted : own_answer c e h ≡ 0 → own_answer c e k ≡ 0
      → {s s' : CountedStep} → s ≡ alone c e h → s' ≡ alone c e k
      → {l l' : Level} → l ≡ level_of s → l' ≡ level_of s'
      → {p b p' b' : List ℕ} → p ≡ alone_pcids c e h → b ≡ alone_written c e h → p' ≡ alone_pcids c e k → b' ≡ alone_written c e k
      → Steps (record { answer = 0; rule = 0; context = s'.step.context; first = l; second = l' }) p b p' b'
  unfolding accepted_by_both levels_stepped pcids_of_first first_written pcids_of_second second_written
  levels_accepted zero zero' is is' told told' pcids written pcids' written' =
      let second = second_given (alone_accepted c e h zero).0 in
      let zeros = alone_accepted c e k zero' in (
        rw (told, told', is, is', second, zeros.0, zeros.1),
        (rw (second, zeros.0) pcids, (rw (second, zeros.0) written, (rw (second, zeros.0) pcids', rw (second, zeros.0) written'))),
      )

-- ---- where both tables give one answer, each does what it does alone

-- a refused step of a table alone changes nothing of it
pub alone_unchanged : (c : Context) (e : List ℕ) (h : Handed) → ((alone c e h).step.answer ≡ 0 → ⊥)
    → (level_of (alone c e h) ≡ level_refusal h.kinds) × ((alone_pcids c e h ≡ h.pcids) × (alone_written c e h ≡ h.buffer))
unfolding counted_stepped counted_pcids counted_written refused_step
alone_unchanged c e h some =
    let other = ne_eqb (counted_answer c h.kinds h.pcids h.table e (length h.buffer)) 0 (λ zero. some (alone_accepted c e h zero).0) in
    (rw other, (rw other, rw other))

module _ (c : Context) (e : List ℕ) (h k : Handed) (same : (alone c e h).step.answer ≡ (alone c e k).step.answer) where
  -- what the step of both reports of each table, and leaves of it
  pub record Each : Type 0 where
    pub answer : (levels_stepped c e h k).answer ≡ (alone c e h).step.answer
    pub first : (levels_stepped c e h k).first ≡ level_of (alone c e h)
    pub second : (levels_stepped c e h k).second ≡ level_of (alone c e k)
    pub first_counts : pcids_of_first c e h k ≡ alone_pcids c e h
    pub first_buffer : first_written c e h k ≡ alone_written c e h
    pub second_counts : pcids_of_second c e h k ≡ alone_pcids c e k
    pub second_buffer : second_written c e h k ≡ alone_written c e k

  pub each_accepted : (alone c e h).step.answer ≡ 0 → Each × (given c e h k ≡ (alone c e k).step)
  unfolding accepted_by_both levels_stepped pcids_of_first first_written pcids_of_second second_written
  each_accepted zero =
      let is = second_given c e h k zero in
      let zero' = sym same ∙ zero in
      (record { answer = rw is (sym same); first = rw (is, zero'); second = rw (is, zero'); first_counts = rw (is, zero'); first_buffer = rw (is, zero'); second_counts = rw (is, zero'); second_buffer = rw (is, zero') }, is)

  pub each_refused : ((alone c e h).step.answer ≡ 0 → ⊥) → Each × (given c e h k ≡ (alone c e h).step)
  unfolding given accepted_by_both levels_stepped pcids_of_first first_written pcids_of_second second_written
  each_refused some =
      let other = ne_eqb (alone c e h).step.answer 0 some in
      let stays = alone_unchanged c e h some in
      let stays' = alone_unchanged c e k (λ zero. some (same ∙ zero)) in (
        record {
          answer = rw other;
          first = rw (other, other) (sym stays.0);
          second = rw (other, other) (sym stays'.0);
          first_counts = rw (other, other) (sym stays.1.0);
          first_buffer = rw (other, other) (sym stays.1.1);
          second_counts = rw (other, other) (sym stays'.1.0);
          second_buffer = rw (other, other) (sym stays'.1.1);
        },
        rw other,
      )

-- ---- a step that both tables accept, written out

-- what is reported of a table and what is left of it
abbrev pub stepped_level : Context → List ℕ → Handed → Level
stepped_level c e h =
    record {
      length = length (new_table c h.table e);
      dropped = dropped_count c h.table e;
      kinds = kind_counts (records (new_table c h.table e));
    }

pub both_accepted : (c : Context) (e : List ℕ) (h k : Handed) → own_answer c e h ≡ 0 → own_answer c e k ≡ 0
    → (levels_stepped c e h k ≡ record { answer = 0; rule = 0; context = next_context c (event e); first = stepped_level c e h; second = stepped_level c e k })
    × ((first_written c e h k ≡ put 0 (new_table c h.table e) h.buffer) × (second_written c e h k ≡ put 0 (new_table c k.table e) k.buffer))
unfolding given accepted_by_both levels_stepped first_written second_written counted_stepped counted_written accepted_step
both_accepted c e h k zero zero' = (rw (zero, zero'), (rw (zero, zero'), rw (zero, zero')))
