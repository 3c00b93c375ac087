-- The first run is as the book says.
use Rattle.std.specs.Prelude.{ℕ, ◌≤◌, ◌≡◌, refl, List, [], ◌∷◌, length}
use Rattle.std.proofs.Common.{sym, ap, ap₂, ◌∙◌}
use Rattle.model.specs.declared.Context.{Context}
use Rattle.model.specs.Tables.{limit, joined, records}
use Rattle.model.specs.Answers.{answer}
use Rattle.model.specs.Steps.{new_records, dropped_count}
use Rattle.runs.specs.Book.{standing, Book, opened, book_table, book_answer, book_after, book_report, book_reports, book_of}
use Rattle.runs.specs.Runs.{Run, started, run_answer, run_after, run_report, run_reports, run_of}
use Rattle.runs.specs.Theorem.{FirstRun}
use Rattle.laws.specs.Tables.{records_nil, whole_joined}
use Rattle.laws.specs.Steps.{records_new_table}
use Rattle.runs.proofs.Laws.Book.{standing_append, book_after_accepted, book_after_refused, book_report_accepted, book_report_refused}
use Rattle.runs.proofs.Laws.Steps.{by_answer, run_after_accepted, run_after_refused, run_report_accepted, run_report_refused, tabled_whole, Sound, sound_started, sound_answer, run_accepted_valid, sound_after}

-- a run is as the book says: the same context, and the standing records as its table
pub record Follows (s : Run) (b : Book) : Type 0 where
  pub sound : Sound s
  pub context : s.context ≡ b.context
  pub records : records s.table ≡ standing b.notes

pub follows_started : (c : Context) (a b : List ℕ) → limit ≤ length a → limit ≤ length b → Follows (started c a b) (opened c)
unfolding started opened standing
follows_started c a b h k = record { sound = sound_started c a b h k; context = refl; records = records_nil }

-- so its table, its answers and its reports are the book's, and each event keeps this
pub follows_table : (s : Run) (b : Book) → Follows s b → s.table ≡ book_table b
unfolding book_table
follows_table s b k = sym (whole_joined s.table (tabled_whole s k.sound.tabled)) ∙ ap joined k.records

pub follows_answer : (s : Run) (b : Book) (e : List ℕ) → Follows s b → run_answer s e ≡ book_answer b e
unfolding book_answer
follows_answer s b e k = sound_answer s e k.sound ∙ ap₂ (λ c t. answer c t e limit) k.context (follows_table s b k)

pub follows_report : (s : Run) (b : Book) (e : List ℕ) → Follows s b → run_report s e ≡ book_report b e
unfolding dropped_count
follows_report s b e k = by_answer (run_answer s e) accepted refused
  where
    same : run_answer s e ≡ book_answer b e
    same = follows_answer s b e k

    accepted : run_answer s e ≡ 0 → run_report s e ≡ book_report b e
    accepted h = rw (run_report_accepted s e h, book_report_accepted b e (sym same ∙ h), k.records, k.context)

    refused : (run_answer s e ≡ 0 → ⊥) → run_report s e ≡ book_report b e
    refused h = rw (run_report_refused s e h, book_report_refused b e (λ z. h (same ∙ z)), same, k.context)

pub follows_after : (s : Run) (b : Book) (e : List ℕ) → Follows s b → Follows (run_after s e) (book_after b e)
unfolding new_records
follows_after s b e k = by_answer (run_answer s e) accepted refused
  where
    same : run_answer s e ≡ book_answer b e
    same = follows_answer s b e k

    accepted : run_answer s e ≡ 0 → Follows (run_after s e) (book_after b e)
    accepted h =
        let told = book_after_accepted b e (sym same ∙ h) in
        let noted = standing_append b.notes (record { context = b.context; event = e }) in
        record {
          sound = sound_after s e k.sound;
          context = rw (run_after_accepted s e h, told, k.context);
          records =
              rw (run_after_accepted s e h, told, noted, records_new_table _ s.context s.table e (run_accepted_valid s e h), k.records, k.context);
        }

    refused : (run_answer s e ≡ 0 → ⊥) → Follows (run_after s e) (book_after b e)
    refused h = rw (run_after_refused s e h, book_after_refused b e (λ z. h (same ∙ z))) k

-- a whole list of events
pub follows_reports : (s : Run) (b : Book) (es : List (List ℕ)) → Follows s b → run_reports s es ≡ book_reports b es
unfolding run_reports book_reports
follows_reports s b [] k = refl
follows_reports s b (e ∷ es) k =
    ap₂ (λ r rs. r ∷ rs) (follows_report s b e k) (follows_reports (run_after s e) (book_after b e) es (follows_after s b e k))

pub follows_of : (s : Run) (b : Book) (es : List (List ℕ)) → Follows s b → Follows (run_of s es) (book_of b es)
unfolding run_of book_of
follows_of s b [] k = k
follows_of s b (e ∷ es) k = follows_of (run_after s e) (book_after b e) es (follows_after s b e k)

pub first_run_holds : (c : Context) (es : List (List ℕ)) (a b : List ℕ) → limit ≤ length a → limit ≤ length b → FirstRun c es a b
first_run_holds c es a b h k =
    let begun = follows_started c a b h k in
    let done = follows_of (started c a b) (opened c) es begun in
    record {
      table = follows_table (run_of (started c a b) es) (book_of (opened c) es) done;
      context = done.context;
      reports = follows_reports (started c a b) (opened c) es begun;
    }
