-- One step of a run, by its answer, and what every step keeps.
use Rattle.std.specs.Prelude.{ℕ, zero, suc, min, ◌+◌, ◌≤◌, ◌≡◌, refl, Bool, true, false, List, [], ◌∷◌, length}
use Rattle.std.proofs.Common.{sym, ap, ◌∙◌, arith, ltb-true, ne_eqb}
use Rattle.model.specs.Buffers.{put}
use Rattle.model.specs.declared.Context.{Context}
use Rattle.model.specs.Tables.{limit, whole, joined}
use Rattle.model.specs.Events.{event, valid_event}
use Rattle.model.specs.Scopes.{next_context}
use Rattle.model.specs.Layouts.{kind_of, mapping_kind}
use Rattle.model.specs.declared.Step.{Step}
use Rattle.model.specs.Answers.{valid_table, answer, rule_with, created, no_room}
use Rattle.model.specs.Steps.{new_table, dropped_count, accepted_step, refused_step, written}
use Rattle.runs.specs.Runs.{Run, started, run_answer, run_written, run_after, run_report, run_of}
use Rattle.laws.specs.Context.{linear_width_next}
use Rattle.laws.specs.Tables.{records_nil, joined_whole}
use Rattle.laws.specs.Answers.{valid_table_parts, valid_table_made, accepted_parts, answer_room, answer_no_room}
use Rattle.laws.specs.Buffers.{take_put_front, length_put_least}
use Rattle.laws.specs.Lists.{none}
use Rattle.laws.specs.Steps.{new_table_valid, length_new_table, stepped_answer, stepped_accepted, stepped_refused}

-- an answer accepts, as 0, or refuses
pub by_answer : {P : Type 0} (n : ℕ) → (n ≡ 0 → P) → ((n ≡ 0 → ⊥) → P) → P
by_answer zero accepted refused = accepted refl
by_answer (suc n) accepted refused = refused (λ e. omega arith)

-- the answer is the one for the context, the table and the length of the other buffer
pub run_answer_is : (s : Run) (e : List ℕ) → run_answer s e ≡ answer s.context s.table e (length s.back)
unfolding run_answer
run_answer_is s e = stepped_answer s.context s.table e (length s.back)

-- the run after an accepted event: the new table stands at the front of the other buffer
pub run_after_accepted : (s : Run) (e : List ℕ) → run_answer s e ≡ 0
    → run_after s e
    ≡ record {
      context = next_context s.context (event e);
      table = new_table s.context s.table e;
      front = put 0 (new_table s.context s.table e) s.back;
      back = s.front;
    }
unfolding run_after run_answer run_written written accepted_step
run_after_accepted s e h =
    let z : answer s.context s.table e (length s.back) ≡ 0 = sym (run_answer_is s e) ∙ h in
    rw (h, stepped_accepted s.context s.table e (length s.back) z, z, take_put_front)

-- a refused event leaves the run as it was
pub run_after_refused : (s : Run) (e : List ℕ) → (run_answer s e ≡ 0 → ⊥) → run_after s e ≡ s
unfolding run_after run_answer run_written written refused_step
run_after_refused s e h =
    let refused : answer s.context s.table e (length s.back) ≡ 0 → ⊥ = λ z. h (run_answer_is s e ∙ z) in
    rw (ne_eqb (run_answer s e) 0 h, stepped_refused s.context s.table e (length s.back) refused, ne_eqb (answer s.context s.table e (length s.back)) 0 refused)

-- no event changes the linear width
pub linear_width_after : (s : Run) (e : List ℕ) → (run_after s e).context.linear_width ≡ s.context.linear_width
linear_width_after s e =
    by_answer (run_answer s e) (λ h. rw (run_after_accepted s e h) (linear_width_next s.context (event e))) (λ h. rw (run_after_refused s e h))

pub linear_width_of : (s : Run) (es : List (List ℕ)) → (run_of s es).context.linear_width ≡ s.context.linear_width
unfolding run_of
linear_width_of s [] = refl
linear_width_of s (e ∷ es) = linear_width_of (run_after s e) es ∙ linear_width_after s e

-- what is reported of an event, by its answer
pub run_report_accepted : (s : Run) (e : List ℕ) → run_answer s e ≡ 0
    → run_report s e
    ≡ record {
      answer = 0;
      rule = 0;
      dropped = dropped_count s.context s.table e;
      context = next_context s.context (event e);
    }
unfolding run_report accepted_step
run_report_accepted s e h =
    rw (stepped_accepted s.context s.table e (length s.back) (sym (run_answer_is s e) ∙ h))

pub run_report_refused : (s : Run) (e : List ℕ) → (run_answer s e ≡ 0 → ⊥)
    → run_report s e ≡ record { answer = run_answer s e; rule = rule_with s.context e (run_answer s e); dropped = 0; context = s.context }
unfolding run_report run_answer refused_step
run_report_refused s e h =
    let refused = stepped_refused s.context s.table e (length s.back) (λ z. h (run_answer_is s e ∙ z)) in
    let rule = ap (λ (x : Step). x.rule) refused ∙ ap (rule_with s.context e) (sym (run_answer_is s e)) in
    λ i. record {
      answer = run_answer s e;
      rule = rule i;
      dropped = ap (λ (x : Step). x.dropped) refused i;
      context = ap (λ (x : Step). x.context) refused i;
    }

-- what holds of a run at every time: its table is valid and within the limit
pub record Tabled (s : Run) : Type 0 where
  pub valid : valid_table s.context.linear_width s.table ≡ true
  pub short : length s.table ≤ limit

pub tabled_whole : (s : Run) → Tabled s → whole s.table ≡ true
tabled_whole s k = (valid_table_parts s.context.linear_width s.table k.valid).0

pub tabled_started : (c : Context) (a b : List ℕ) → Tabled (started c a b)
unfolding started joined
tabled_started c a b =
    record { valid = valid_table_made _ [] (joined_whole none) (rw records_nil none); short = omega arith }

-- and of a run with long buffers, that they are not shorter than the limit
pub record Sound (s : Run) : Type 0 where
  pub tabled : Tabled s
  pub front : limit ≤ length s.front
  pub back : limit ≤ length s.back

pub sound_started : (c : Context) (a b : List ℕ) → limit ≤ length a → limit ≤ length b → Sound (started c a b)
unfolding started
sound_started c a b h k = record { tabled = tabled_started c a b; front = h; back = k }

-- room is enough in such a run, whatever its buffers
pub sound_answer : (s : Run) (e : List ℕ) → Sound s → run_answer s e ≡ answer s.context s.table e limit
sound_answer s e k = run_answer_is s e ∙ answer_room s.context s.table e (length s.back) k.back

-- an accepted event is valid
pub run_accepted_valid : (s : Run) (e : List ℕ) → run_answer s e ≡ 0 → valid_event s.context.linear_width e ≡ true
run_accepted_valid s e h = (accepted_parts s.context s.table e (length s.back) (sym (run_answer_is s e) ∙ h)).valid

-- every step keeps this
pub tabled_after : (s : Run) (e : List ℕ) → Tabled s → Tabled (run_after s e)
tabled_after s e k = by_answer (run_answer s e) accepted (λ h. rw (run_after_refused s e h) k)
  where
    accepted : run_answer s e ≡ 0 → Tabled (run_after s e)
    accepted h =
        let parts = accepted_parts s.context s.table e (length s.back) (sym (run_answer_is s e) ∙ h) in
        rw (run_after_accepted s e h)
        (record {
          valid = new_table_valid s.context s.table e (length s.back) parts;
          short = omega (arith, parts.short, length_new_table s.context s.table e);
        })

pub sound_after : (s : Run) (e : List ℕ) → Sound s → Sound (run_after s e)
sound_after s e k = by_answer (run_answer s e) accepted (λ h. rw (run_after_refused s e h) k)
  where
    accepted : run_answer s e ≡ 0 → Sound (run_after s e)
    accepted h =
        let after = tabled_after s e k.tabled in
        rw (run_after_accepted s e h)
        (record {
          tabled = rw (run_after_accepted s e h) at after;
          front = omega (arith, k.back, length_put_least 0 (new_table s.context s.table e) s.back);
          back = k.front;
        })

-- only creations are refused for room in such a run
pub room_refuses_creations : (s : Run) (e : List ℕ) → Sound s → run_answer s e ≡ 12 → mapping_kind (kind_of e) ≡ true
unfolding no_room created
room_refuses_creations s e k h = go (mapping_kind (kind_of e)) refl
  where
    full : no_room limit s.table e ≡ true
    full = answer_no_room s.context s.table e limit (sym (sound_answer s e k) ∙ h)

    go : (b : Bool) → mapping_kind (kind_of e) ≡ b → mapping_kind (kind_of e) ≡ true
    go true q = q
    go false q =
        let none : length (created e) ≡ 0 = rw q in
        let over = ltb-true (min limit limit) (length s.table + length (created e)) full in
        absurd (omega (arith, k.tabled.short))
