-- An unknown kind or a cut record ends a run, proved.
use Rattle.std.specs.Prelude.{ℕ, ◌<◌, true, false, not, ◌&&◌, List, [], ◌∷◌, ◌≡◌, refl, leb, ltb, length}
use Rattle.std.proofs.Math.Bool.{and-eq-true_iff}
use Rattle.std.proofs.Common.{◌∙◌, arith, ltb-true, take_all}
use Rattle.std.proofs.lemmas.Bool.{not-true}
use Rattle.model.specs.Context.{in_range, after_reset}
use Rattle.model.specs.Layouts.{kind_of, length_of}
use Rattle.model.specs.Events.{valid_event}
use Rattle.model.specs.Answers.{first, table_grounds}
use Rattle.laws.specs.Lists.{Every, none, more, Bytes}
use Rattle.laws.specs.Answers.{table_grounds_whole, answer_of_invalid}
use Rattle.runs.specs.Runs.{Run, started, run_answer, run_after, run_of}
use Rattle.runs.proofs.Laws.Steps.{run_answer_is, linear_width_of, Tabled, tabled_started, tabled_after}
use Rattle.logs.specs.Logs.{program, program_width, known_at, event_size, events_of}
use Rattle.logs.specs.Theorem.{broken, Ends}
use Rattle.logs.proofs.Laws.Logs.{event_size_cut, events_of_cons, events_of_end}
use Rattle.logs.proofs.Laws.Stops.{context_after}

-- the parts of it
broken_some : (w : ℕ) (rest : List ℕ) → broken w rest ≡ true → 0 < length rest
unfolding broken
broken_some w rest h = ltb-true 0 (length rest) ((and-eq-true_iff _ _).0 h).0

broken_cut : (w : ℕ) (rest : List ℕ) → broken w rest ≡ true → (event_size w rest ≡ length rest) × (valid_event w rest ≡ false)
unfolding broken
broken_cut w rest h =
    let whole = known_at w (kind_of rest) && leb (length_of (kind_of rest)) (length rest) in
    event_size_cut w rest (not-true whole ((and-eq-true_iff (ltb 0 (length rest)) (not whole)).0 h).1)

last_event : (w : ℕ) (rest : List ℕ) → broken w rest ≡ true → events_of w rest ≡ rest ∷ []
last_event w rest h =
    let all = (broken_cut w rest h).0 in
    events_of_cons w rest (broken_some w rest h) ∙ rw (all, take_all (length rest) rest (omega arith), events_of_end w rest (length rest) (omega arith))

-- the context and the table after any events
context_of : (s : Run) (es : List (List ℕ)) → Every Bytes es → in_range s.context ≡ true → in_range (run_of s es).context ≡ true
unfolding run_of
context_of s [] none fits = fits
context_of s (e ∷ es) (more bytes others) fits = context_of (run_after s e) es others (context_after s e bytes fits)

tabled_of : (s : Run) (es : List (List ℕ)) → Tabled s → Tabled (run_of s es)
unfolding run_of
tabled_of s [] k = k
tabled_of s (e ∷ es) k = tabled_of (run_after s e) es (tabled_after s e k)

invalid_answer : (s : Run) (e : List ℕ) → Tabled s → in_range s.context ≡ true → valid_event s.context.linear_width e ≡ false → run_answer s e ≡ 4
unfolding first
invalid_answer s e k fits invalid =
    let passes : first (table_grounds s.context s.table) ≡ 0 =
    rw (table_grounds_whole s.context s.table k.valid k.short, fits) in
    run_answer_is s e ∙ answer_of_invalid s.context s.table e (length s.back) passes invalid

pub ends_hold : Ends
unfolding started after_reset in_range
ends_hold =
    record {
      last = last_event program_width;
      answer =
          λ es rest a b bytes is. invalid_answer (run_of (started program a b) es) rest (tabled_of (started program a b) es (tabled_started program a b))
          (context_of (started program a b) es bytes refl)
          (rw (linear_width_of (started program a b) es) (broken_cut program_width rest is).1);
    }
