-- Origins: the number of a note is the place of its event in the log; and the run with lent room that carries them along.
use Prim.Native.Nat.{ℕ, suc, ◌+◌, ◌-◌, ◌≤◌, ◌<◌}
use Rattle.std.specs.Prelude.{◌≡◌, get_or}
use Rattle.std.proofs.Math.Path.{refl, ap, ap₂}
use Rattle.std.proofs.Common.{sym, ◌∙◌, get_or-append-add, ne_eqb}
use Rattle.std.proofs.Math.Bool.{Bool, true, false, cond, not}
use mathlib.Mathlib.Data.Bool.Basic.{or-eq-false-eq-eq-false-and-eq-false}
use mathlib.Core.List.{List, [], ◌∷◌, ◌++◌, map, append-nil, append_assoc}
use native.Mathlib.Omega.{arith}
use Rattle.std.proofs.Math.Dec.{eqb}
use Rattle.std.proofs.Math.ListN.{length, length-append, get_or-append}
use Rattle.model.specs.Layouts.{kind_of, mapping_kind}
use Rattle.model.specs.Tables.{only}
use Rattle.model.specs.Events.{event}
use Rattle.model.specs.Answers.{creation}
use Rattle.model.specs.Steps.{in_scope}
use Rattle.laws.specs.Lists.{Every, none, more, every_append, every_one}
use Rattle.runs.specs.Book.{Note, Book, opened, standing}
use Rattle.runs.proofs.Laws.Steps.{by_answer}
use Rattle.roomy_runs.specs.Books.{roomy_answer, roomy_added, roomy_after, roomy_of}
use Rattle.roomy_runs.specs.Lent.{Lent, lent_start, lent_table, overflows, lent_answer, lent_after, lent_of, overflowed}
use Rattle.roomy_runs.proofs.Laws.Within.{creation_unscoped, creation_context}
use Rattle.roomy_runs.proofs.Laws.Lent.{overflow_parts}
use Rattle.origins.specs.Standing.{those, Part, done, skip, keep, standing_of, kept_by, made_by}
use Rattle.origins.specs.Origins.{Numbered, NumberedBook, numbered_start, numbered_note, numbered_after, numbered_of, standing_numbered, origins_of, NumberedRun, numbered_run_start, numbered_overflows, numbered_answer, numbered_run_after, numbered_run_of}
use Rattle.origins.specs.Statements.{Placed, Ascending, OriginsExact, OriginsWithinAlways}
use Rattle.origins.proofs.Laws.Lists.{part_every, part_append, part_front, part_trans, part_those, every_map, those_all, those_map, map-append}
use Rattle.origins.proofs.Laws.Standing.{standing_of_append, standing_part, standing_of_records}

abbrev numbers : List Numbered → List ℕ
numbers xs = map (λ (x : Numbered). x.number) xs

abbrev noted : List Numbered → List Note
noted xs = map (λ (x : Numbered). x.note) xs

-- a part of ascending numbers ascends
ascending_lower : (n k : ℕ) (ks : List ℕ) → n ≤ k → Ascending k ks → Ascending n ks
unfolding Ascending
ascending_lower n k [] h a = tt
ascending_lower n k (j ∷ ks) h a = (omega arith, a.1)

ascending_part : (n : ℕ) {part xs : List Numbered} → Part part xs → Ascending n (numbers xs) → Ascending n (numbers part)
unfolding Ascending
ascending_part n done a = tt
ascending_part n (skip {x} {part} {xs} p) a = ascending_lower n x.number (numbers part) (omega (arith, a.0)) (ascending_part x.number p a.1)
ascending_part n (keep {x} p) a = (a.0, ascending_part x.number p a.1)

-- one more
ascending_append : (n : ℕ) (xs : List Numbered) (x : Numbered) → Ascending n (numbers xs) → n < x.number → Every (λ y. y.number < x.number) xs
    → Ascending n (numbers (xs ++ (x ∷ [])))
unfolding Ascending
ascending_append n [] x a h all = (h, tt)
ascending_append n (y ∷ xs) x a h (more less all) = (a.0, ascending_append y.number xs x a.1 less all)

-- a book that has numbered a log
record Written (log : List (List ℕ)) (b : NumberedBook) : Type 0 where
  events : b.events ≡ length log
  placed : Every (Placed log) b.notes
  ascends : Ascending 0 (numbers b.notes)

placed_longer : (log : List (List ℕ)) (e : List ℕ) (x : Numbered) → Placed log x → Placed (log ++ (e ∷ [])) x
placed_longer log e x k =
    record {
      low = k.low;
      high = omega (arith, k.high, length-append log (e ∷ []));
      event = rw (get_or-append log (e ∷ []) [] (x.number - 1) (omega (arith, k.low, k.high))) k.event;
    }

module _ (log : List (List ℕ)) (b : NumberedBook) (e : List ℕ) (events : b.events ≡ length log) where
  own : Numbered
  own = numbered_note b.context b.events e

  placed_own : Placed (log ++ (e ∷ [])) own
  unfolding own numbered_note
  placed_own =
      let at : suc b.events - 1 ≡ length log + 0 = omega arith in
      record {
        low = omega arith;
        high = omega (arith, length-append log (e ∷ []));
        event = rw at (get_or-append-add log (e ∷ []) 0 []);
      }

  before_own : (x : Numbered) → Placed log x → x.number < own.number
  unfolding own numbered_note
  before_own x k = omega (arith, k.high)

written_after : (log : List (List ℕ)) (b : NumberedBook) (e : List ℕ) → Written log b → Written (log ++ (e ∷ [])) (numbered_after b e)
unfolding numbered_after own
written_after log b e k =
    record {
      events = omega (arith, k.events, length-append log (e ∷ []));
      placed = go_placed (eqb (roomy_answer b.context e) 0);
      ascends = go_ascends (eqb (roomy_answer b.context e) 0);
    }
  where
    go_placed : (x : Bool) → Every (Placed (log ++ (e ∷ []))) (b.notes ++ cond x (numbered_note b.context b.events e ∷ []) [])
    go_placed true = every_append (every_map b.notes (placed_longer log e) k.placed) (every_one (placed_own log b e k.events))
    go_placed false = every_append (every_map b.notes (placed_longer log e) k.placed) none

    go_ascends : (x : Bool) → Ascending 0 (numbers (b.notes ++ cond x (numbered_note b.context b.events e ∷ []) []))
    go_ascends true =
        ascending_append 0 b.notes (numbered_note b.context b.events e) k.ascends (omega (arith, (placed_own log b e k.events).low))
        (every_map b.notes (before_own log b e k.events) k.placed)
    go_ascends false = rw append-nil k.ascends

written_of : (log : List (List ℕ)) (b : NumberedBook) (es : List (List ℕ)) → Written log b → Written (log ++ es) (numbered_of b es)
unfolding numbered_of
written_of log b [] k = rw append-nil k
written_of log b (e ∷ es) k = rw append_assoc at (written_of (log ++ (e ∷ [])) (numbered_after b e) es (written_after log b e k))

-- without the numbers it is the book with room
record Same (n : NumberedBook) (b : Book) : Type 0 where
  context : n.context ≡ b.context
  notes : noted n.notes ≡ b.notes

same_after : (n : NumberedBook) (b : Book) (e : List ℕ) → Same n b → Same (numbered_after n e) (roomy_after b e)
unfolding numbered_after roomy_after roomy_added numbered_note
same_after n b e k =
    record {
      context = rw k.context;
      notes =
          map-append (λ (x : Numbered). x.note) n.notes (cond (eqb (roomy_answer n.context e) 0) (numbered_note n.context n.events e ∷ []) [])
          ∙ rw (k.context, k.notes) (ap (λ ns. b.notes ++ ns) (go (eqb (roomy_answer b.context e) 0)));
    }
  where
    go : (x : Bool) → noted (cond x (numbered_note b.context n.events e ∷ []) []) ≡ cond x (record { context = b.context; event = e } ∷ []) []
    go true = refl
    go false = refl

same_of : (n : NumberedBook) (b : Book) (es : List (List ℕ)) → Same n b → Same (numbered_of n es) (roomy_of b es)
unfolding numbered_of roomy_of
same_of n b [] k = k
same_of n b (e ∷ es) k = same_of (numbered_after n e) (roomy_after b e) es (same_after n b e k)

pub origins_exact_holds : OriginsExact
unfolding numbered_start opened standing_numbered origins_of Ascending
origins_exact_holds c es =
    let notes = (numbered_of (numbered_start c) es).notes in
    let same = same_of (numbered_start c) (opened c) es (record { context = refl; notes = refl }) in
    let written = written_of [] (numbered_start c) es (record { events = refl; placed = none; ascends = tt }) in
    let part = standing_part (λ (x : Numbered). x.note) notes in
    record {
      context = same.context;
      notes = same.notes;
      records = standing_of_records (λ (x : Numbered). x.note) notes ∙ ap standing same.notes;
      placed = part_every part written.placed;
      ascend = ascending_part 0 part written.ascends;
    }

-- ---- the run with lent room

abbrev record_of : Numbered → List ℕ
record_of x = x.note.event

those_only : (p : List ℕ → Bool) (rs : List (List ℕ)) → those p rs ≡ only p rs
unfolding those only
those_only p [] = refl
those_only p (r ∷ rs) = rw (those_only p rs)

-- without the numbers it is the run of part 2
record SameRun (s : NumberedRun) (l : Lent) : Type 0 where
  context : s.context ≡ l.context
  records : map record_of s.held ≡ l.records

module _ (room : ℕ) (s : NumberedRun) (l : Lent) (e : List ℕ) (k : SameRun s l) where
  same_overflows : numbered_overflows room s e ≡ overflows room l e
  unfolding numbered_overflows overflows lent_table
  same_overflows = rw (k.context, k.records)

  same_answer : numbered_answer room s e ≡ lent_answer room l e
  unfolding numbered_answer lent_answer
  same_answer = rw (same_overflows, k.context)

  records_kept : map record_of (kept_by (λ (x : Numbered). x.note) (record { context = s.context; event = e }) s.held ++ made_by (λ (x : Numbered). x.note) (numbered_note s.context s.events e))
      ≡ only (λ r. not (in_scope l.context e r)) l.records ++ creation e
  unfolding kept_by made_by numbered_note creation
  records_kept =
      let kept : only (λ r. not (in_scope s.context e r)) (map record_of s.held) ≡ only (λ r. not (in_scope l.context e r)) l.records = rw (k.context, k.records) in
      map-append record_of (those (λ y. not (in_scope s.context e y.note.event)) s.held) (cond (mapping_kind (kind_of e)) (numbered_note s.context s.events e ∷ []) [])
      ∙ ap₂ (λ rs ss. rs ++ ss)
      (those_map record_of (λ r. not (in_scope s.context e r)) s.held ∙ those_only (λ r. not (in_scope s.context e r)) (map record_of s.held) ∙ kept)
      (go (mapping_kind (kind_of e)))
    where
      go : (b : Bool) → map record_of (cond b (numbered_note s.context s.events e ∷ []) []) ≡ cond b (e ∷ []) []
      go true = refl
      go false = refl

  same_run_after : SameRun (numbered_run_after room s e) (lent_after room l e)
  unfolding numbered_run_after lent_after
  same_run_after = go (eqb (lent_answer room l e) 0) refl
    where
      go : (b : Bool) → eqb (lent_answer room l e) 0 ≡ b → SameRun (numbered_run_after room s e) (lent_after room l e)
      go true h = record { context = rw (same_answer, h, k.context); records = rw (same_answer, h) records_kept }
      go false h = record { context = rw (same_answer, h) k.context; records = rw (same_answer, h) k.records }

same_run_of : (room : ℕ) (s : NumberedRun) (l : Lent) (es : List (List ℕ)) → SameRun s l → SameRun (numbered_run_of room s es) (lent_of room l es)
unfolding numbered_run_of lent_of
same_run_of room s l [] k = k
same_run_of room s l (e ∷ es) k = same_run_of room (numbered_run_after room s e) (lent_after room l e) es (same_run_after room s l e k)

-- and it goes with the book that numbers
record With (s : NumberedRun) (b : NumberedBook) : Type 0 where
  context : s.context ≡ b.context
  events : s.events ≡ b.events

abbrev note_of : Numbered → Note
note_of x = x.note

module _ (room : ℕ) (s : NumberedRun) (b : NumberedBook) (e : List ℕ) (w : With s b) where
  -- a creation that does not fit changes nothing, and that creation would change no context
  full : numbered_overflows room s e ≡ true → (roomy_answer b.context e ≡ 0) × (mapping_kind (kind_of e) ≡ true) × (numbered_answer room s e ≡ 12)
  unfolding numbered_overflows overflows lent_table numbered_answer
  full h =
      let parts = overflow_parts room (record { context = s.context; records = map record_of s.held }) e h in
      (rw (← w.context) parts.0, parts.1, rw h)

  fitting : numbered_overflows room s e ≡ false → numbered_answer room s e ≡ roomy_answer b.context e
  unfolding numbered_answer
  fitting h = rw (h, w.context)

  with_after : With (numbered_run_after room s e) (numbered_after b e)
  unfolding numbered_run_after numbered_after
  with_after = go (numbered_overflows room s e) refl
    where
      go : (x : Bool) → numbered_overflows room s e ≡ x → With (numbered_run_after room s e) (numbered_after b e)
      go true h =
          let parts = full h in
          record { context = rw (parts.2, parts.0, creation_context b.context e parts.1) w.context; events = ap suc w.events }
      go false h = record { context = rw (fitting h, w.context); events = ap suc w.events }

  standing_next : roomy_answer b.context e ≡ 0
      → standing_of note_of (numbered_after b e).notes ≡ kept_by note_of (record { context = s.context; event = e }) (standing_of note_of b.notes) ++ made_by note_of (numbered_note s.context s.events e)
  unfolding numbered_after numbered_note
  standing_next h = rw (h, w.context, w.events) (standing_of_append note_of b.notes (numbered_note b.context b.events e))

  standing_stays : (roomy_answer b.context e ≡ 0 → ⊥) → (numbered_after b e).notes ≡ b.notes
  unfolding numbered_after
  standing_stays h = rw (ne_eqb (roomy_answer b.context e) 0 h, append-nil)

  held_next : numbered_answer room s e ≡ 0
      → (numbered_run_after room s e).held ≡ kept_by note_of (record { context = s.context; event = e }) s.held ++ made_by note_of (numbered_note s.context s.events e)
  unfolding numbered_run_after
  held_next h = rw h

  held_stays : (numbered_answer room s e ≡ 0 → ⊥) → (numbered_run_after room s e).held ≡ s.held
  unfolding numbered_run_after
  held_stays h = rw (ne_eqb (numbered_answer room s e) 0 h)

  part_after : Part s.held (standing_of note_of b.notes) → Part (numbered_run_after room s e).held (standing_of note_of (numbered_after b e).notes)
  unfolding kept_by
  part_after p = go (numbered_overflows room s e) refl
    where
      out : Numbered → Bool
      out y = not (in_scope s.context e y.note.event)

      taken : numbered_overflows room s e ≡ false → roomy_answer b.context e ≡ 0 → Part (numbered_run_after room s e).held (standing_of note_of (numbered_after b e).notes)
      taken h z =
          rw (standing_next z, held_next (fitting h ∙ z)) (part_append (made_by note_of (numbered_note s.context s.events e)) (part_those out p))

      left : numbered_overflows room s e ≡ false → (roomy_answer b.context e ≡ 0 → ⊥) → Part (numbered_run_after room s e).held (standing_of note_of (numbered_after b e).notes)
      left h z = rw (standing_stays z, held_stays (λ y. z (sym (fitting h) ∙ y))) p

      go : (x : Bool) → numbered_overflows room s e ≡ x → Part (numbered_run_after room s e).held (standing_of note_of (numbered_after b e).notes)
      go true h =
          let parts = full h in
          rw (standing_next parts.0, held_stays (λ z. let no : ◌≡◌ {A = ℕ} 12 0 = sym parts.2 ∙ z in omega arith), those_all out (standing_of note_of b.notes) (λ y. creation_unscoped s.context e parts.1 y.note.event))
          (part_trans p (part_front (standing_of note_of b.notes) (made_by note_of (numbered_note s.context s.events e))))
      go false h = by_answer (roomy_answer b.context e) (taken h) (left h)

  all_after : numbered_overflows room s e ≡ false → s.held ≡ standing_of note_of b.notes → (numbered_run_after room s e).held ≡ standing_of note_of (numbered_after b e).notes
  all_after h held =
      by_answer (roomy_answer b.context e) (λ z. rw (standing_next z, held_next (fitting h ∙ z), held))
      (λ z. rw (standing_stays z, held_stays (λ y. z (sym (fitting h) ∙ y))) held)

module _ (room : ℕ) where
  run_part : (s : NumberedRun) (b : NumberedBook) (es : List (List ℕ)) → With s b → Part s.held (standing_of note_of b.notes)
      → Part (numbered_run_of room s es).held (standing_of note_of (numbered_of b es).notes)
  unfolding numbered_run_of numbered_of
  run_part s b [] w p = p
  run_part s b (e ∷ es) w p = run_part (numbered_run_after room s e) (numbered_after b e) es (with_after room s b e w) (part_after room s b e w p)

  run_all : (s : NumberedRun) (b : NumberedBook) (l : Lent) (es : List (List ℕ)) → With s b → SameRun s l → s.held ≡ standing_of note_of b.notes → overflowed room l es ≡ false
      → (numbered_run_of room s es).held ≡ standing_of note_of (numbered_of b es).notes
  unfolding numbered_run_of numbered_of overflowed
  run_all s b l [] w k held h = held
  run_all s b l (e ∷ es) w k held h =
      let fits = (or-eq-false-eq-eq-false-and-eq-false (overflows room l e) (overflowed room (lent_after room l e) es)).0 h in
      run_all (numbered_run_after room s e) (numbered_after b e) (lent_after room l e) es (with_after room s b e w) (same_run_after room s l e k)
      (all_after room s b e w (same_overflows room s l e k ∙ fits.0) held) fits.1

pub origins_within_holds : OriginsWithinAlways
unfolding numbered_run_start numbered_start lent_start standing_numbered standing_of
origins_within_holds room c es =
    let same = same_run_of room (numbered_run_start c) (lent_start c) es (record { context = refl; records = refl }) in
    let begun : With (numbered_run_start c) (numbered_start c) = record { context = refl; events = refl } in
    record {
      context = same.context;
      records = same.records;
      part = run_part room (numbered_run_start c) (numbered_start c) es begun done;
      all = run_all room (numbered_run_start c) (numbered_start c) (lent_start c) es begun (record { context = refl; records = refl }) refl;
    }
