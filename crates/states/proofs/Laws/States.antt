-- One event on a state: the run that the state and the buffers stand for is the run after it.
use Rattle.std.specs.Prelude.{ℕ, ◌+◌, ◌-◌, ◌≤◌, Bool, not, List, ◌++◌, ◌≡◌, refl, length, take}
use Rattle.std.proofs.Math.Bool.{true, false, cond}
use Rattle.std.proofs.Math.Path.{sym, ap}
use Rattle.std.proofs.Common.{◌∙◌, arith, ne_eqb, length-append, length-take, length-take-le}
use Rattle.model.specs.declared.Context.{Context}
use Rattle.model.specs.Buffers.{put}
use Rattle.model.specs.Context.{in_range, after_reset}
use Rattle.model.specs.Tables.{limit, records}
use Rattle.model.specs.Answers.{first, table_grounds, answer, created, creation}
use Rattle.model.specs.Steps.{in_scope, new_table, dropped_count}
use Rattle.laws.specs.Buffers.{take_put, take_put_front, length_put_least}
use Rattle.laws.specs.Tables.{records_nil, count_le, records_valid, length_valid, length_joined_records}
use Rattle.laws.specs.Answers.{Accepted, accepted_parts, table_grounds_whole}
use Rattle.laws.specs.Steps.{length_records_new_table, length_new_table, new_table_unscoped, dropped_count_unscoped}
use Rattle.runs.specs.Runs.{Run, started, run_answer, run_report}
use Rattle.runs.specs.InPlace.{stays, in_place, in_place_after}
use Rattle.runs.proofs.Laws.Steps.{run_answer_is, run_after_accepted, run_after_refused, run_report_accepted, run_report_refused, Tabled, tabled_whole, tabled_started, tabled_after}
use Rattle.runs.proofs.Laws.InPlace.{stays_parts, in_place_refused, in_place_alike, tabled_alike}
use Rattle.states.specs.declared.State.{State}
use Rattle.states.specs.declared.Applied.{Applied}
use Rattle.states.specs.States.{run_on, run_at, Holds, HoldsAt, moves, side_after, AppliesTo, Applies}
use Rattle.states.specs.Outcomes.{refused, extended, exchanged}

-- a refused event leaves the run as it was
in_place_after_refused : (s : Run) (e : List ℕ) → (run_answer s e ≡ 0 → ⊥) → in_place_after s e ≡ s
unfolding in_place_after
in_place_after_refused s e h = rw (in_place_refused s e h, run_after_refused s e h) (go (stays s e))
  where
    go : (b : Bool) → cond b s s ≡ s
    go true = refl
    go false = refl

module _ (s : State) (front back : List ℕ) (h : Holds s front) where
  abbrev c : Context
  c = s.context

  abbrev t : List ℕ
  t = take s.length front

  pub length_table : length t ≡ s.length
  length_table = length-take-le s.length front h.within

  -- a table within the limit has no more records than bytes
  pub few_records : s.records ≤ limit
  few_records = omega (arith, h.counted, h.short, length_table, length_joined_records t, length_valid (records_valid t))

  pub tabled_on : Tabled (run_on s front back)
  unfolding run_on
  tabled_on = record { valid = h.valid; short = rw length_table h.short }

  -- no event drops more records than there are
  pub dropped_few : (e : List ℕ) → dropped_count c t e ≤ s.records
  unfolding dropped_count
  dropped_few e = omega (arith, h.counted, count_le (λ r. in_scope c e r) (records t))

  -- answers 1 to 3 do not apply to the table of a context in its ranges
  pub holds_judged : in_range c ≡ true → first (table_grounds c t) ≡ 0
  unfolding first
  holds_judged fits = rw (table_grounds_whole c t h.valid (rw length_table h.short), fits)

  module _ (e : List ℕ) where
    abbrev s₀ : Run
    s₀ = run_on s front back

    answered : {n : ℕ} → answer c t e (length back) ≡ n → run_answer s₀ e ≡ n
    unfolding run_on
    answered is = run_answer_is s₀ e ∙ is

    -- what holds of a state that stands for the run after the event
    holds_after : (s' : State) (buffer other : List ℕ) → s'.length ≤ length buffer → run_on s' buffer other ≡ in_place_after s₀ e
        → s'.records ≡ length (records (take s'.length buffer))
        → Holds s' buffer
    unfolding run_on
    holds_after s' buffer other within is counted =
        let after : Tabled (run_on s' buffer other) = rw is (tabled_alike (in_place_alike s₀ e tabled_on) (tabled_after s₀ e tabled_on)) in
        record {
          within = within;
          short = rw (length-take-le s'.length buffer within) at after.short;
          valid = after.valid;
          counted = counted;
        }

    pub applies_refused : (n : ℕ) → answer c t e (length back) ≡ n → (n ≡ 0 → ⊥) → AppliesTo s e front back (refused s n) front back
    unfolding refused moves side_after
    applies_refused n is some =
        let not_0 : run_answer s₀ e ≡ 0 → ⊥ = λ z. some (sym (answered is) ∙ z) in
        let stays_there : moves s₀ e ≡ false = rw (ne_eqb (run_answer s₀ e) 0 not_0) in
        record {
          holds = rw stays_there h;
          run = rw stays_there (sym (in_place_after_refused s₀ e not_0));
          side = rw stays_there;
          answer = sym (answered is);
          dropped = rw (run_report_refused s₀ e not_0);
        }

    -- an accepted event whose table stays
    module _ (is : answer c t e (length back) ≡ 0) (stay : stays s₀ e ≡ true) where
      unscoped_table : t ++ created e ≡ new_table c t e
      unfolding run_on
      unscoped_table = sym (new_table_unscoped c t e (stays_parts s₀ e stay).unscoped (tabled_whole s₀ tabled_on))

      table_extended : take (s.length + length (created e)) (put s.length (created e) front) ≡ t ++ created e
      table_extended = take_put s.length (created e) front h.within

      run_extended : run_on (extended s e).state (put s.length (created e) front) back ≡ in_place_after s₀ e
      unfolding run_on extended in_place_after in_place
      run_extended = rw (stay, answered is, table_extended, length_table)

      within_extended : s.length + length (created e) ≤ length (put s.length (created e) front)
      within_extended = omega (arith, ap length table_extended, length-append t (created e), length_table, length-take (s.length + length (created e)) (put s.length (created e) front))

      counted_extended : s.records + length (creation e) ≡ length (records (take (s.length + length (created e)) (put s.length (created e) front)))
      unfolding run_on
      counted_extended =
          rw (table_extended, unscoped_table)
          (omega (arith, h.counted, length_records_new_table c.linear_width c t e (accepted_parts c t e (length back) is).valid, dropped_count_unscoped c t e (stays_parts s₀ e stay).unscoped))

      dropped_extended : 0 ≡ (run_report s₀ e).dropped
      unfolding run_on
      dropped_extended = rw (run_report_accepted s₀ e (answered is)) (sym (dropped_count_unscoped c t e (stays_parts s₀ e stay).unscoped))

      pub applies_extended : AppliesTo s e front back (extended s e) (put s.length (created e) front) back
      unfolding extended moves side_after
      applies_extended =
          let there : moves s₀ e ≡ false = rw (answered is, stay) in
          record {
            holds = rw there (holds_after (extended s e).state (put s.length (created e) front) back within_extended run_extended counted_extended);
            run = rw there run_extended;
            side = rw there;
            answer = sym (answered is);
            dropped = dropped_extended;
          }

    -- an accepted event whose table moves
    module _ (is : answer c t e (length back) ≡ 0) (move : stays s₀ e ≡ false) where
      parts : Accepted c t e (length back)
      parts = accepted_parts c t e (length back) is

      run_exchanged : run_on (exchanged s t e).state (put 0 (new_table c t e) back) front ≡ in_place_after s₀ e
      unfolding run_on exchanged in_place_after
      run_exchanged = rw (move, run_after_accepted s₀ e (answered is), take_put_front)

      within_exchanged : length (new_table c t e) ≤ length (put 0 (new_table c t e) back)
      within_exchanged = omega (arith, length_put_least 0 (new_table c t e) back, length_new_table c t e, parts.fits)

      counted_exchanged : (s.records - dropped_count c t e) + length (creation e) ≡ length (records (take (length (new_table c t e)) (put 0 (new_table c t e) back)))
      counted_exchanged = rw take_put_front (omega (arith, h.counted, length_records_new_table c.linear_width c t e parts.valid))

      dropped_exchanged : dropped_count c t e ≡ (run_report s₀ e).dropped
      unfolding run_on
      dropped_exchanged = rw (run_report_accepted s₀ e (answered is))

      pub applies_exchanged : AppliesTo s e front back (exchanged s t e) front (put 0 (new_table c t e) back)
      unfolding exchanged moves side_after
      applies_exchanged =
          let there : moves s₀ e ≡ true = rw (answered is, move) in
          record {
            holds = rw there (holds_after (exchanged s t e).state (put 0 (new_table c t e) back) front within_exchanged run_exchanged counted_exchanged);
            run = rw there run_exchanged;
            side = rw there;
            answer = sym (answered is);
            dropped = dropped_exchanged;
          }

-- any buffer holds a table of no bytes
pub holds_none : (s : State) (front : List ℕ) → s.length ≡ 0 → s.records ≡ 0 → Holds s front
unfolding started after_reset
holds_none s front is none =
    record {
      within = omega arith;
      short = omega arith;
      valid = rw is (tabled_started s.context front front).valid;
      counted = rw (is, none, records_nil);
    }

-- the run at a state, with the first and the second buffer
pub tabled_at : (s : State) (a b : List ℕ) → HoldsAt s a b → Tabled (run_at s a b)
unfolding run_at
tabled_at s a b h = tabled_on s (cond s.first a b) (cond s.first b a) h

pub length_run_at : (s : State) (a b : List ℕ) → HoldsAt s a b → length (run_at s a b).table ≡ s.length
unfolding run_at run_on
length_run_at s a b h = length_table s (cond s.first a b) (cond s.first b a) h

-- a buffer by the side that the table is on after an event, and by whether the table moves
by_side : (here : Bool) (m : Bool) (a b : List ℕ) → cond (cond m (not here) here) a b ≡ cond m (cond here b a) (cond here a b)
by_side true true a b = refl
by_side true false a b = refl
by_side false true a b = refl
by_side false false a b = refl

-- the same of the first and the second buffer, by the one that holds the table
module _ (s : State) (a b : List ℕ) where
  pub holds_first : s.first ≡ true → HoldsAt s a b → Holds s a
  holds_first here h = rw (ap (λ (f : Bool). cond f a b) here) at h

  pub holds_second : s.first ≡ false → HoldsAt s a b → Holds s b
  holds_second here h = rw (ap (λ (f : Bool). cond f a b) here) at h

module _ (s : State) (e a b : List ℕ) {r : Applied} {a' b' : List ℕ} where
  pub applies_first : s.first ≡ true → AppliesTo s e a b r a' b' → Applies s e a b r a' b'
  unfolding run_on run_at side_after
  applies_first here k =
      let m = moves (run_on s a b) e in
      let side : r.state.first ≡ cond m false true = rw here at k.side in
      let front = ap (λ (f : Bool). cond f a' b') side ∙ by_side true m a' b' in
      let back = ap (λ (f : Bool). cond f b' a') side ∙ by_side true m b' a' in
      record {
        holds = rw front k.holds;
        run = rw (front, back, here) k.run;
        side = rw here side;
        answer = rw here k.answer;
        dropped = rw here k.dropped;
      }

  pub applies_second : s.first ≡ false → AppliesTo s e b a r b' a' → Applies s e a b r a' b'
  unfolding run_on run_at side_after
  applies_second here k =
      let m = moves (run_on s b a) e in
      let side : r.state.first ≡ cond m true false = rw here at k.side in
      let front = ap (λ (f : Bool). cond f a' b') side ∙ by_side false m a' b' in
      let back = ap (λ (f : Bool). cond f b' a') side ∙ by_side false m b' a' in
      record {
        holds = rw front k.holds;
        run = rw (front, back, here) k.run;
        side = rw here side;
        answer = rw here k.answer;
        dropped = rw here k.dropped;
      }
