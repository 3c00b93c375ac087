-- No step of a replay answers 2 or 3, proved: its table is whole and short at every time.
use Rattle.std.specs.Prelude.{ℕ, zero, suc, true, List, [], ◌∷◌, ◌≡◌, refl, length, drop}
use Rattle.std.proofs.Common.{sym, ◌∙◌, ne_eqb}
use Rattle.model.specs.Context.{in_range, after_reset}
use Rattle.model.specs.Events.{event}
use Rattle.laws.specs.Lists.{Every, none, more, every_take, every_drop, Bytes}
use Rattle.laws.specs.Context.{vpid_of_event, next_context_in_range}
use Rattle.laws.specs.Events.{valid_event_parts}
use Rattle.laws.specs.Answers.{answer_not_1, answer_not_2, answer_not_3}
use Rattle.runs.specs.Runs.{Run, started, run_answer, run_after}
use Rattle.runs.proofs.Laws.Steps.{by_answer, run_answer_is, run_after_accepted, run_after_refused, run_accepted_valid, Tabled, tabled_started, tabled_after, Sound, sound_started, sound_after, room_refuses_creations}
use Rattle.logs.specs.Logs.{program, program_width, event_size, events_within, events_of}
use Rattle.logs.specs.Replays.{run_lines}
use Rattle.logs.specs.Theorem.{EachAnswered, stopping_lines, NoStop}

-- ---- whatever the buffers are

run_not_2 : (s : Run) (e : List ℕ) → Tabled s → run_answer s e ≡ 2 → ⊥
run_not_2 s e k h = answer_not_2 s.context s.table e (length s.back) k.valid k.short (sym (run_answer_is s e) ∙ h)

run_not_3 : (s : Run) (e : List ℕ) → Tabled s → run_answer s e ≡ 3 → ⊥
run_not_3 s e k h = answer_not_3 s.context s.table e (length s.back) k.valid k.short (sym (run_answer_is s e) ∙ h)

lines_same : (s : Run) (es : List (List ℕ)) → Tabled s → stopping_lines s es ≡ run_lines s es
unfolding stopping_lines run_lines
lines_same s [] k = refl
lines_same s (e ∷ es) k =
    rw (ne_eqb (run_answer s e) 2 (run_not_2 s e k), ne_eqb (run_answer s e) 3 (run_not_3 s e k), lines_same (run_after s e) es (tabled_after s e k))

-- ---- a log of bytes, from a context in its ranges

events_bytes : (w : ℕ) (n : ℕ) (log : List ℕ) → Bytes log → Every Bytes (events_within w n log)
unfolding events_within
events_bytes w zero log h = none
events_bytes w (suc n) [] h = none
events_bytes w (suc n) (b ∷ bs) h =
    more (every_take (event_size w (b ∷ bs)) h)
    (events_bytes w n (drop (event_size w (b ∷ bs)) (b ∷ bs)) (every_drop (event_size w (b ∷ bs)) h))

pub context_after : (s : Run) (e : List ℕ) → Bytes e → in_range s.context ≡ true → in_range (run_after s e).context ≡ true
context_after s e bytes fits = by_answer (run_answer s e) accepted (λ some. rw (run_after_refused s e some) fits)
  where
    accepted : run_answer s e ≡ 0 → in_range (run_after s e).context ≡ true
    accepted h =
        rw (run_after_accepted s e h)
        (next_context_in_range s.context _ (event e) (vpid_of_event e bytes) (valid_event_parts _ e (run_accepted_valid s e h)).fields fits)

each_answered : (s : Run) (es : List (List ℕ)) → Every Bytes es → Sound s → in_range s.context ≡ true → EachAnswered s es
unfolding EachAnswered
each_answered s [] none sound fits = tt
each_answered s (e ∷ es) (more bytes others) sound fits =
    let tabled = sound.tabled in (
      record {
        not_1 = λ h. answer_not_1 s.context s.table e (length s.back) tabled.valid tabled.short fits (sym (run_answer_is s e) ∙ h);
        not_2 = run_not_2 s e tabled;
        not_3 = run_not_3 s e tabled;
        creations_alone = room_refuses_creations s e sound;
      },
      each_answered (run_after s e) es others (sound_after s e sound) (context_after s e bytes fits),
    )

pub no_stop_holds : NoStop
unfolding started after_reset in_range events_of
no_stop_holds =
    record {
      answers = λ log a b bytes h k. each_answered (started program a b) (events_of program_width log) (events_bytes program_width (length log) log bytes) (sound_started program a b h k) refl;
      lines = λ c a b es. lines_same (started c a b) es (tabled_started c a b);
    }
