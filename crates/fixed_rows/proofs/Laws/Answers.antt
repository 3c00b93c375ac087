-- What export and import report and leave, by the answer.
use Rattle.std.specs.Prelude.{ℕ, min, ◌*◌, ◌%◌, ◌≤◌, ◌<◌, cond, ◌&&◌, ◌||◌, List, [], ◌∷◌, ◌++◌, map, ◌≡◌, length}
use Rattle.std.proofs.Math.Bool.{true, false}
use Rattle.std.proofs.Math.Path.{refl}
use Rattle.std.proofs.Common.{sym, ap, ◌∙◌, arith, length-append}
use borrow.Author.Tests.{ne_eqb, eq-eqb, ltb-false, lt-ltb, le-ltb}
use Rattle.std.proofs.Math.Dec.{eqb, ltb}
use Rattle.model.specs.Buffers.{put}
use Rattle.model.specs.Context.{linear_width_in_range}
use Rattle.model.specs.Mappings.{mapping}
use Rattle.model.specs.Tables.{limit, joined, records, whole}
use Rattle.model.specs.Answers.{first, stored_grounds}
use Rattle.laws.specs.Answers.{first_append_some, first_append_none, stored_valid, valid_table_parts}
use Rattle.laws.specs.Refusals.{refusal_number_some}
use Rattle.laws.specs.Tables.{length_valid, records_valid, length_joined_records}
use Rattle.laws.specs.Steps.{below_either}
use Rattle.row_fields.specs.Rows.{row_of}
use Rattle.row_fields.proofs.Laws.Rows.{length_row}
use Rattle.fixed_rows.specs.declared.Converted.{Converted}
use Rattle.fixed_rows.specs.FixedRows.{exported, export_grounds, export_answer, exporting, exporting_written, first_bad, imported, import_grounds, import_answer, importing, importing_written}

-- "32 bytes a record": the rows of some records
length_rows : (rs : List (List ℕ)) → length (joined (map row_of rs)) ≡ 32 * length rs
unfolding joined
length_rows [] = refl
length_rows (r ∷ rs) = omega (arith, length-append (row_of r) (joined (map row_of rs)), length_row (mapping r), length_rows rs)

pub length_exported : (t : List ℕ) → length (exported t) ≡ 32 * length (records t)
unfolding exported
length_exported t = length_rows (records t)

pub records_few : (t : List ℕ) → length (records t) ≤ length t
records_few t = omega (arith, length_valid (records_valid t), length_joined_records t)

-- what is reported of a refusal
abbrev pub refused : ℕ → ℕ → Converted
refused answer row = record { answer = answer; row = row; length = 0 }

-- ---- export
module _ (w : ℕ) (t : List ℕ) (room : ℕ) where
  -- an answer other than 0
  unexported : (n : ℕ) → export_answer w t room ≡ n → (n ≡ 0 → ⊥) → exporting w t room ≡ refused n 0
  unfolding exporting
  unexported n is some = rw (is, ne_eqb n 0 some)

  pub export_width : linear_width_in_range w ≡ false → exporting w t room ≡ refused 1 0
  unfolding export_answer export_grounds first
  export_width out = unexported 1 (rw out) (λ z. omega arith)

  module _ (on : linear_width_in_range w ≡ true) where
    table_answer : export_answer w t room ≡ first (stored_grounds w t ++ ((12, ltb room (length (exported t))) ∷ []))
    unfolding export_answer export_grounds first
    table_answer = rw on

    pub export_invalid : (n : ℕ) → n ≡ first (stored_grounds w t) → (n ≡ 0 → ⊥) → exporting w t room ≡ refused n 0
    export_invalid n is some =
        unexported n (table_answer ∙ first_append_some (stored_grounds w t) ((12, ltb room (length (exported t))) ∷ []) (λ none. some (is ∙ none)) ∙ sym is) some

    module _ (valid : first (stored_grounds w t) ≡ 0) where
      by_room : export_answer w t room ≡ cond (ltb room (length (exported t))) 12 0
      unfolding first
      by_room = table_answer ∙ first_append_none (stored_grounds w t) ((12, ltb room (length (exported t))) ∷ []) refl valid

      pub export_no_room : room < length (exported t) → exporting w t room ≡ refused 12 0
      export_no_room short = unexported 12 (by_room ∙ rw (lt-ltb room (length (exported t)) short)) (λ z. omega arith)

      pub export_accepted : length (exported t) ≤ room → exporting w t room ≡ record { answer = 0; row = 0; length = length (exported t) }
      unfolding exporting
      export_accepted enough = let none : export_answer w t room ≡ 0 = by_room ∙ rw (le-ltb room (length (exported t)) enough) in rw none

      pub exported_whole : whole t ≡ true
      exported_whole = (valid_table_parts _ _ (stored_valid w t valid).1).0

      pub exported_few : length (records t) ≤ limit
      exported_few = omega (arith, records_few t, (stored_valid w t valid).0)

-- a refusal leaves the buffer; else the rows are put to its front
module _ (w : ℕ) (t b : List ℕ) (r : Converted) (is : r ≡ exporting w t (length b)) where
  told : r.answer ≡ export_answer w t (length b)
  unfolding exporting
  told = ap (λ r. r.answer) is

  pub exported_none_written : (r.answer ≡ 0 → ⊥) → exporting_written w t b ≡ b
  unfolding exporting_written
  exported_none_written some = rw (← told, ne_eqb r.answer 0 some)

  pub exported_written : r.answer ≡ 0 → exporting_written w t b ≡ put 0 (exported t) b
  unfolding exporting_written
  exported_written none = rw (← told, none)

-- ---- import
module _ (w : ℕ) (rows : List ℕ) (room : ℕ) where
  -- an answer other than 0
  unimported : (n row : ℕ) → import_answer w rows room ≡ n → (n ≡ 0 → ⊥) → row ≡ cond (eqb n 4 && eqb (length rows % 32) 0) (first_bad w rows) 0
      → importing w rows room ≡ refused n row
  unfolding importing
  unimported n row is some at = rw (at, is, ne_eqb n 0 some)

  pub import_width : linear_width_in_range w ≡ false → importing w rows room ≡ refused 1 0
  unfolding import_answer import_grounds first
  import_width out = unimported 1 0 (rw out) (λ z. omega arith) refl

  module _ (on : linear_width_in_range w ≡ true) where
    pub import_cut : (length rows % 32 ≡ 0 → ⊥) → importing w rows room ≡ refused 4 0
    unfolding import_answer import_grounds first
    import_cut odd =
        let uneven : eqb (length rows % 32) 0 ≡ false = ne_eqb (length rows % 32) 0 odd in
        unimported 4 0 (rw (on, uneven)) (λ z. omega arith) (rw uneven)

    module _ (even : length rows % 32 ≡ 0) where
      pub import_bad : (n : ℕ) → n ≡ first_bad w rows → 0 < n → importing w rows room ≡ refused 4 n
      unfolding import_answer import_grounds first
      import_bad n is some =
          let bad : eqb (first_bad w rows) 0 ≡ false = ne_eqb (first_bad w rows) 0 (λ z. omega arith) in
          let all : eqb (length rows % 32) 0 ≡ true = eq-eqb (length rows % 32) 0 even in
          unimported 4 n (rw (on, all, bad)) (λ z. omega arith) (is ∙ rw all)

      module _ (clean : first_bad w rows ≡ 0) where
        import_room : import_answer w rows room ≡ cond (ltb (min room limit) (length (imported rows))) 12 0
        unfolding import_answer import_grounds first
        import_room = rw (on, eq-eqb (length rows % 32) 0 even, clean)

        pub import_no_room : (ltb room (length (imported rows)) || ltb limit (length (imported rows))) ≡ true → importing w rows room ≡ refused 12 0
        import_no_room short =
            unimported 12 0 (import_room ∙ rw (sym (below_either room (length (imported rows))) ∙ short)) (λ z. omega arith) refl

        module _ (long : (ltb room (length (imported rows)) || ltb limit (length (imported rows))) ≡ false) where
          enough : ltb (min room limit) (length (imported rows)) ≡ false
          enough = sym (below_either room (length (imported rows))) ∙ long

          pub import_fits : length (imported rows) ≤ room
          import_fits = omega (arith, ltb-false (min room limit) (length (imported rows)) enough)

          pub import_accepted : importing w rows room ≡ record { answer = 0; row = 0; length = length (imported rows) }
          unfolding importing
          import_accepted = let none : import_answer w rows room ≡ 0 = import_room ∙ rw enough in rw none

-- a refusal leaves the buffer; else the table is put to its front
module _ (w : ℕ) (rows b : List ℕ) (r : Converted) (is : r ≡ importing w rows (length b)) where
  import_told : r.answer ≡ import_answer w rows (length b)
  unfolding importing
  import_told = ap (λ r. r.answer) is

  pub imported_none_written : (r.answer ≡ 0 → ⊥) → importing_written w rows b ≡ b
  unfolding importing_written
  imported_none_written some = rw (← import_told, ne_eqb r.answer 0 some)

  pub imported_written : r.answer ≡ 0 → importing_written w rows b ≡ put 0 (imported rows) b
  unfolding importing_written
  imported_written none = rw (← import_told, none)

-- what the answers on a length to be exported or imported rest on
pub ruleset exports = (export_width, export_invalid, export_no_room, export_accepted, exported_whole, exported_few, length_exported, refusal_number_some)

pub ruleset imports = (import_width, import_cut, import_bad, import_no_room, import_accepted, import_fits)
