-- What is proved of the book with room and of the run with lent room (issue 39, part 2). The proofs are in Laws.
use Rattle.std.specs.Prelude.{ℕ, ◌≤◌, Bool, true, false, List, [], ◌∷◌, ◌≡◌, length}
use Rattle.model.specs.declared.Context.{Context}
use Rattle.model.specs.Tables.{limit, records}
use Rattle.runs.specs.Book.{standing, Book, opened, book_table, book_reports, book_of}
use Rattle.runs.specs.Runs.{started, run_of, run_reports, refused_for_room, InOrderPart, Gap, second_gaps}
use Rattle.roomy_runs.specs.Books.{roomy_answer, roomy_reports, roomy_of, roomy_books, book_refuses_for_room}
use Rattle.roomy_runs.specs.Lent.{Lent, lent_start, lent_table, overflows, lent_answer, lent_reports, lent_of, overflowed}

-- "so 2, 3 and 12 never apply"
pub record Roomy (c : Context) (e : List ℕ) : Type 0 where
  pub not_2 : roomy_answer c e ≡ 2 → ⊥
  pub not_3 : roomy_answer c e ≡ 3 → ⊥
  pub not_12 : roomy_answer c e ≡ 12 → ⊥

abbrev pub NeverForRoom : Type 0
NeverForRoom = (c : Context) (e : List ℕ) → Roomy c e

-- where document 01's book refuses no creation for room, the book with room is the same, and so is what it reports
pub record SameBook (c : Context) (es : List (List ℕ)) : Type 0 where
  pub book : book_of (opened c) es ≡ roomy_of (opened c) es
  pub reports : book_reports (opened c) es ≡ roomy_reports (opened c) es

abbrev pub SameBookAlways : Type 0
SameBookAlways = (c : Context) (es : List (List ℕ)) → book_refuses_for_room (opened c) es ≡ false → SameBook c es

-- "as long as document 01's run refuses no creation for room, the two have the same answers, contexts, tables and dropped
-- counts": the book with room
pub record RoomyRun (c : Context) (es : List (List ℕ)) (a b : List ℕ) : Type 0 where
  pub table : (run_of (started c a b) es).table ≡ book_table (roomy_of (opened c) es)
  pub context : (run_of (started c a b) es).context ≡ (roomy_of (opened c) es).context
  pub reports : run_reports (started c a b) es ≡ roomy_reports (opened c) es

abbrev pub RoomyRunAlways : Type 0
RoomyRunAlways =
    (c : Context) (es : List (List ℕ)) (a b : List ℕ)
    → limit ≤ length a
    → limit ≤ length b
    → refused_for_room (started c a b) es ≡ false
    → RoomyRun c es a b

-- and the run with lent room, where that is document 01's limit or more
pub record LentAsRun (room : ℕ) (c : Context) (es : List (List ℕ)) (a b : List ℕ) : Type 0 where
  pub table : (run_of (started c a b) es).table ≡ lent_table (lent_of room (lent_start c) es)
  pub context : (run_of (started c a b) es).context ≡ (lent_of room (lent_start c) es).context
  pub reports : run_reports (started c a b) es ≡ lent_reports room (lent_start c) es

abbrev pub LentAsRunAlways : Type 0
LentAsRunAlways =
    (room : ℕ) (c : Context) (es : List (List ℕ)) (a b : List ℕ)
    → limit ≤ room
    → limit ≤ length a
    → limit ≤ length b
    → refused_for_room (started c a b) es ≡ false
    → LentAsRun room c es a b

-- Whatever room is lent: the context is that of the book with room, the records are an in-order part of its standing ones,
-- and they fit.
pub record LentWithin (room : ℕ) (c : Context) (es : List (List ℕ)) : Type 0 where
  pub context : (lent_of room (lent_start c) es).context ≡ (roomy_of (opened c) es).context
  pub part : InOrderPart (lent_of room (lent_start c) es).records (standing (roomy_of (opened c) es).notes)
  pub fits : length (lent_table (lent_of room (lent_start c) es)) ≤ room

-- where every creation fits, they are all of them, and the reports are the book's
pub record LentAll (room : ℕ) (c : Context) (es : List (List ℕ)) : Type 0 where
  pub records : (lent_of room (lent_start c) es).records ≡ standing (roomy_of (opened c) es).notes
  pub reports : lent_reports room (lent_start c) es ≡ roomy_reports (opened c) es

-- 12 is reported exactly if a creation does not fit
pub record ReportedAsThat (room : ℕ) (s : Lent) (e : List ℕ) : Type 0 where
  pub reported : overflows room s e ≡ true → lent_answer room s e ≡ 12
  pub alone : lent_answer room s e ≡ 12 → overflows room s e ≡ true

pub record LentRoom : Type 0 where
  pub within : (room : ℕ) (c : Context) (es : List (List ℕ)) → LentWithin room c es
  pub all : (room : ℕ) (c : Context) (es : List (List ℕ)) → overflowed room (lent_start c) es ≡ false → LentAll room c es
  pub answers : (room : ℕ) (s : Lent) (e : List ℕ) → ReportedAsThat room s e

-- Whatever room document 01's run has: at every gap of a run with removals the context is that of the book with room after
-- the same events, and its records are an in-order part of the standing ones. A creation that is refused for room is one
-- that is dropped at once.
pub record GapWithin (g : Gap) (b : Book) : Type 0 where
  pub context : g.before.context ≡ b.context
  pub before : InOrderPart (records g.before.table) (standing b.notes)
  pub after : InOrderPart (records g.after.table) (standing b.notes)

pub data AllWithin : List Gap → List Book → Type 0 where
  none : AllWithin [] []
  more : {g : Gap} {gs : List Gap} {b : Book} {bs : List Book} → GapWithin g b → AllWithin gs bs → AllWithin (g ∷ gs) (b ∷ bs)

abbrev pub WithinRoom : Type 0
WithinRoom =
    (c : Context) (es : List (List ℕ)) (removals : ℕ → List Bool) (a b : List ℕ)
    → limit ≤ length a
    → limit ≤ length b
    → AllWithin (second_gaps removals (started c a b) es) (roomy_books (opened c) es)
