-- Whatever room is lent, the records held are an in-order part of the standing ones, and all of them where every creation
-- fits. Document 01's run is the run with lent room where it refuses no creation for room.
use Rattle.std.specs.Prelude.{ℕ, ◌+◌, ◌≤◌, ◌≡◌, Bool, true, false, cond, not, ◌&&◌, ltb}
use Rattle.std.proofs.Math.Path.{refl, ap₂}
use Rattle.std.proofs.Common.{sym, ap, ◌∙◌, arith, length-append, eqb-true, ne_eqb, ltb-true, ltb-false}
use Rattle.std.proofs.Math.Bool.{and-eq-true_iff}
use mathlib.Mathlib.Data.Bool.Basic.{or-eq-false-eq-eq-false-and-eq-false}
use mathlib.Core.List.{List, [], ◌∷◌, ◌++◌}
use Rattle.std.proofs.Math.Dec.{eqb}
use Rattle.std.proofs.Math.ListN.{length}
use Rattle.model.specs.declared.Context.{Context}
use Rattle.model.specs.Layouts.{kind_of, mapping_kind}
use Rattle.model.specs.Tables.{limit, joined, only}
use Rattle.model.specs.Events.{event}
use Rattle.model.specs.Scopes.{next_context}
use Rattle.model.specs.Answers.{answer, created, creation}
use Rattle.model.specs.Steps.{in_scope}
use Rattle.laws.specs.Tables.{joined_append, length_joined_only, only_all}
use Rattle.laws.specs.Steps.{joined_creation}
use Rattle.laws.specs.Answers.{accepted_parts}
use Rattle.runs.specs.Book.{Note, standing, lost, Book, opened, book_table, book_after}
use Rattle.runs.specs.Runs.{Run, started, run_answer, run_after, refused_for_room, InOrderPart}
use Rattle.runs.proofs.Laws.Book.{standing_append, lost_none, lost_one}
use Rattle.runs.proofs.Laws.Parts.{part_refl, part_trans, part_only, part_append}
use Rattle.runs.proofs.Laws.Steps.{by_answer, sound_answer}
use Rattle.runs.proofs.Laws.First.{Follows, follows_started, follows_table, follows_after}
use Rattle.roomy_runs.specs.Books.{roomy_answer, roomy_added, roomy_after, roomy_report, roomy_reports, roomy_of}
use Rattle.roomy_runs.specs.Lent.{Lent, lent_start, lent_table, overflows, lent_answer, lent_after, lent_report, lent_reports, lent_of, overflowed}
use Rattle.roomy_runs.specs.Statements.{LentWithin, ReportedAsThat, LentRoom, LentAsRunAlways}
use Rattle.roomy_runs.proofs.Laws.Books.{never_for_room_holds, not_for_room, roomy_after_same, roomy_run_holds}
use Rattle.roomy_runs.proofs.Laws.Within.{roomy_of_run, roomy_accepted, roomy_refused, front_of, creation_unscoped, creation_context}

-- one event, by whether it overflows and by its answer
module _ (room : ℕ) (s : Lent) (e : List ℕ) where
  pub answer_fits : overflows room s e ≡ false → lent_answer room s e ≡ roomy_answer s.context e
  unfolding lent_answer
  answer_fits h = rw h

  pub answer_full : overflows room s e ≡ true → lent_answer room s e ≡ 12
  unfolding lent_answer
  answer_full h = rw h

  pub lent_accepted : lent_answer room s e ≡ 0
      → lent_after room s e ≡ record { context = next_context s.context (event e); records = only (λ r. not (in_scope s.context e r)) s.records ++ creation e }
  unfolding lent_after
  lent_accepted h = rw h

  pub lent_refused : (lent_answer room s e ≡ 0 → ⊥) → lent_after room s e ≡ s
  unfolding lent_after
  lent_refused h = rw (ne_eqb (lent_answer room s e) 0 h)

  -- what overflows is an accepted creation
  pub overflow_parts : overflows room s e ≡ true → (roomy_answer s.context e ≡ 0) × (mapping_kind (kind_of e) ≡ true)
  unfolding overflows
  overflow_parts h =
      let taken = eqb (roomy_answer s.context e) 0 in
      let both = ((and-eq-true_iff (taken && mapping_kind (kind_of e)) (ltb room (length (lent_table s) + length e))).0 h).0 in
      let parts = (and-eq-true_iff taken (mapping_kind (kind_of e))).0 both in
      (eqb-true (roomy_answer s.context e) 0 parts.0, parts.1)

  pub reported_as_that : ReportedAsThat room s e
  reported_as_that = record { reported = answer_full; alone = λ h. go (overflows room s e) refl h }
    where
      go : (b : Bool) → overflows room s e ≡ b → lent_answer room s e ≡ 12 → overflows room s e ≡ true
      go true is h = is
      go false is h = absurd ((never_for_room_holds s.context e).not_12 (sym (answer_fits is) ∙ h))

-- a run with lent room and the book with room: the same context, and a part of the standing records
pub record Part (s : Lent) (b : Book) : Type 0 where
  pub context : s.context ≡ b.context
  pub part : InOrderPart s.records (standing b.notes)

pub part_after : (room : ℕ) (s : Lent) (b : Book) (e : List ℕ) → Part s b → Part (lent_after room s e) (roomy_after b e)
part_after room s b e k = go (overflows room s e) refl
  where
    note : Note
    note = record { context = b.context; event = e }

    out : List ℕ → Bool
    out r = not (in_scope b.context e r)

    accepted : overflows room s e ≡ false → roomy_answer s.context e ≡ 0 → Part (lent_after room s e) (roomy_after b e)
    accepted fits h =
        let told : roomy_answer b.context e ≡ 0 = rw k.context at h in
        let taken = lent_accepted room s e (answer_fits room s e fits ∙ h) in
        record {
          context = rw (taken, roomy_accepted b e told, k.context);
          part =
              rw (taken, roomy_accepted b e told, standing_append b.notes note, k.context)
              (part_append (only out s.records) (only out (standing b.notes)) (creation e) (part_only out s.records (standing b.notes) k.part));
        }

    refused : overflows room s e ≡ false → (roomy_answer s.context e ≡ 0 → ⊥) → Part (lent_after room s e) (roomy_after b e)
    refused fits h =
        rw (lent_refused room s e (λ z. h (sym (answer_fits room s e fits) ∙ z)), roomy_refused b e (λ z. h (rw k.context z))) k

    full : overflows room s e ≡ true → Part (lent_after room s e) (roomy_after b e)
    full h =
        let parts = overflow_parts room s e h in
        let told : roomy_answer b.context e ≡ 0 = rw k.context at parts.0 in
        let stays = lent_refused room s e (λ z. let no : ◌≡◌ {A = ℕ} 12 0 = sym (answer_full room s e h) ∙ z in omega arith) in
        record {
          context = rw (stays, roomy_accepted b e told, creation_context b.context e parts.1) k.context;
          part =
              rw (stays, roomy_accepted b e told, standing_append b.notes note, only_all out (standing b.notes) (creation_unscoped b.context e parts.1))
              (part_trans s.records (standing b.notes) (standing b.notes ++ creation e) k.part (front_of (standing b.notes) (creation e)));
        }

    go : (x : Bool) → overflows room s e ≡ x → Part (lent_after room s e) (roomy_after b e)
    go true h = full h
    go false h = by_answer (roomy_answer s.context e) (accepted h) (refused h)

part_of : (room : ℕ) (s : Lent) (b : Book) (es : List (List ℕ)) → Part s b → Part (lent_of room s es) (roomy_of b es)
unfolding lent_of roomy_of
part_of room s b [] k = k
part_of room s b (e ∷ es) k = part_of room (lent_after room s e) (roomy_after b e) es (part_after room s b e k)

-- the table stays within the room
fits_after : (room : ℕ) (s : Lent) (e : List ℕ) → length (lent_table s) ≤ room → length (lent_table (lent_after room s e)) ≤ room
unfolding lent_table created overflows
fits_after room s e h = by_answer (lent_answer room s e) accepted (λ z. rw (lent_refused room s e z) h)
  where
    out : List ℕ → Bool
    out r = not (in_scope s.context e r)

    fits : lent_answer room s e ≡ 0 → (b : Bool) → overflows room s e ≡ b → overflows room s e ≡ false
    fits z true is = absurd (let no : ◌≡◌ {A = ℕ} 12 0 = sym (answer_full room s e is) ∙ z in omega arith)
    fits z false is = is

    go : (b : Bool) → mapping_kind (kind_of e) ≡ b → roomy_answer s.context e ≡ 0 → overflows room s e ≡ false → length (joined s.records) + length (created e) ≤ room
    go true made taken out = rw made (ltb-false room (length (joined s.records) + length e) (rw (taken, made) at out))
    go false made taken out = rw made (omega (arith, h))

    accepted : lent_answer room s e ≡ 0 → length (joined (lent_after room s e).records) ≤ room
    accepted z =
        let all = fits z (overflows room s e) refl in
        let space = go (mapping_kind (kind_of e)) refl (sym (answer_fits room s e all) ∙ z) all in
        rw (lent_accepted room s e z, joined_append (only out s.records) (creation e), joined_creation e)
        (omega (arith, space, length_joined_only out s.records, length-append (joined (only out s.records)) (created e)))

fits_of : (room : ℕ) (s : Lent) (es : List (List ℕ)) → length (lent_table s) ≤ room → length (lent_table (lent_of room s es)) ≤ room
unfolding lent_of
fits_of room s [] h = h
fits_of room s (e ∷ es) h = fits_of room (lent_after room s e) es (fits_after room s e h)

within_lent : (room : ℕ) (c : Context) (es : List (List ℕ)) → LentWithin room c es
unfolding lent_start opened standing lent_table joined
within_lent room c es =
    let done = part_of room (lent_start c) (opened c) es (record { context = refl; part = part_refl [] }) in
    record { context = done.context; part = done.part; fits = fits_of room (lent_start c) es (omega arith) }

-- where every creation fits: all standing records, and the same reports
pub record Whole (s : Lent) (b : Book) : Type 0 where
  pub context : s.context ≡ b.context
  pub records : s.records ≡ standing b.notes

module _ (room : ℕ) (s : Lent) (b : Book) (e : List ℕ) (k : Whole s b) (fits : overflows room s e ≡ false) where
  same_answer : lent_answer room s e ≡ roomy_answer b.context e
  same_answer = rw (answer_fits room s e fits, k.context)

  pub whole_after : Whole (lent_after room s e) (roomy_after b e)
  whole_after = by_answer (roomy_answer b.context e) accepted (λ z. rw (lent_refused room s e (λ y. z (sym same_answer ∙ y)), roomy_refused b e z) k)
    where
      accepted : roomy_answer b.context e ≡ 0 → Whole (lent_after room s e) (roomy_after b e)
      accepted h =
          let taken = lent_accepted room s e (same_answer ∙ h) in
          record {
            context = rw (taken, roomy_accepted b e h, k.context);
            records = rw (taken, roomy_accepted b e h, standing_append b.notes (record { context = b.context; event = e }), k.context, k.records);
          }

  pub whole_report : lent_report room s e ≡ roomy_report b e
  unfolding lent_report roomy_report roomy_added
  whole_report = by_answer (roomy_answer b.context e) accepted refused
    where
      accepted : roomy_answer b.context e ≡ 0 → lent_report room s e ≡ roomy_report b e
      accepted h = rw (whole_after.context, same_answer, h, lost_one, k.context, k.records)

      refused : (roomy_answer b.context e ≡ 0 → ⊥) → lent_report room s e ≡ roomy_report b e
      refused h = rw (whole_after.context, same_answer, ne_eqb (roomy_answer b.context e) 0 h, lost_none, k.context)

module _ (room : ℕ) where
  all_of : (s : Lent) (b : Book) (es : List (List ℕ)) → Whole s b → overflowed room s es ≡ false → Whole (lent_of room s es) (roomy_of b es)
  unfolding lent_of roomy_of overflowed
  all_of s b [] k h = k
  all_of s b (e ∷ es) k h =
      let fits = (or-eq-false-eq-eq-false-and-eq-false (overflows room s e) (overflowed room (lent_after room s e) es)).0 h in
      all_of (lent_after room s e) (roomy_after b e) es (whole_after room s b e k fits.0) fits.1

  all_reports : (s : Lent) (b : Book) (es : List (List ℕ)) → Whole s b → overflowed room s es ≡ false → lent_reports room s es ≡ roomy_reports b es
  unfolding lent_reports roomy_reports overflowed
  all_reports s b [] k h = refl
  all_reports s b (e ∷ es) k h =
      let fits = (or-eq-false-eq-eq-false-and-eq-false (overflows room s e) (overflowed room (lent_after room s e) es)).0 h in
      ap₂ (λ r rs. r ∷ rs) (whole_report room s b e k fits.0) (all_reports (lent_after room s e) (roomy_after b e) es (whole_after room s b e k fits.0) fits.1)

whole_start : (c : Context) → Whole (lent_start c) (opened c)
unfolding lent_start opened standing
whole_start c = record { context = refl; records = refl }

pub lent_room_holds : LentRoom
lent_room_holds =
    record {
      within = within_lent;
      all = λ room c es h.
          record {
            records = (all_of room (lent_start c) (opened c) es (whole_start c) h).records;
            reports = all_reports room (lent_start c) (opened c) es (whole_start c) h;
          };
      answers = reported_as_that;
    }

-- what document 01's run does not refuse for room fits a lent room of the limit
fits_as_run : (room : ℕ) (s : Run) (b : Book) (l : Lent) (e : List ℕ) → limit ≤ room → Follows s b → Whole l b → (run_answer s e ≡ 12 → ⊥) → overflows room l e ≡ false
unfolding overflows lent_table created book_table
fits_as_run room s b l e enough k w h = go (overflows room l e) refl
  where
    go : (x : Bool) → overflows room l e ≡ x → overflows room l e ≡ false
    go true full =
        let parts = overflow_parts room l e full in
        let told : run_answer s e ≡ 0 = sym (roomy_of_run s e k.sound h) ∙ ap (λ c. roomy_answer c e) (k.context ∙ sym w.context) ∙ parts.0 in
        let short : length s.table + length (cond (mapping_kind (kind_of e)) e []) ≤ limit = (accepted_parts s.context s.table e limit (sym (sound_answer s e k.sound) ∙ told)).short in
        let table : length (joined l.records) ≡ length s.table = ap length (ap joined w.records ∙ sym (follows_table s b k)) in
        let over = ltb-true room (length (joined l.records) + length e) (rw (parts.0, parts.1) at full) in
        absurd (omega (arith, rw parts.1 at short, table, over, enough))
    go false fits = fits

never_overflows : (room : ℕ) (s : Run) (b : Book) (l : Lent) (es : List (List ℕ)) → limit ≤ room → Follows s b → Whole l b → refused_for_room s es ≡ false → overflowed room l es ≡ false
unfolding overflowed
never_overflows room s b l [] enough k w h = refl
never_overflows room s b l (e ∷ es) enough k w h =
    let room_left = not_for_room s e es k.sound h in
    let fits = fits_as_run room s b l e enough k w room_left.0 in
    let w' : Whole (lent_after room l e) (book_after b e) = rw (roomy_after_same s b e k room_left.0) (whole_after room l b e w fits) in
    rw (fits, never_overflows room (run_after s e) (book_after b e) (lent_after room l e) es enough (follows_after s b e k) w' room_left.1)

pub lent_as_run_holds : LentAsRunAlways
unfolding lent_table book_table
lent_as_run_holds room c es a b enough h k refused =
    let fits = never_overflows room (started c a b) (opened c) (lent_start c) es enough (follows_started c a b h k) (whole_start c) refused in
    let all = lent_room_holds.all room c es fits in
    let within = within_lent room c es in
    let run = roomy_run_holds c es a b h k refused in
    record {
      table = run.table ∙ ap joined (sym all.records);
      context = run.context ∙ sym within.context;
      reports = run.reports ∙ sym all.reports;
    }
