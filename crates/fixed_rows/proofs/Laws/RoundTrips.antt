-- The theorem, proved: rows cut out of rows end to end are those, and so tables and rows go there and back.
use Rattle.std.specs.Prelude.{ℕ, zero, suc, min, ◌+◌, ◌*◌, ◌/◌, ◌%◌, ◌≤◌, true, List, [], ◌∷◌, ◌++◌, map, ◌≡◌, take, drop}
use Rattle.std.proofs.Math.Path.{refl}
use Rattle.std.proofs.Common.{sym, ap, ap₂, ◌∙◌, arith, length-drop, take-append-drop, length-take-le, take_at, drop_at}
use borrow.Author.Tests.{eqb-true, ltb-false, le-ltb, not-false}
use Rattle.std.proofs.Math.Dec.{ltb}
use Rattle.std.proofs.Math.ListN.{length}
use Rattle.model.specs.Context.{linear_width_in_range}
use Rattle.model.specs.Mappings.{mapping}
use Rattle.model.specs.Tables.{limit, joined, records, whole}
use Rattle.model.specs.Answers.{first, valid_table, stored_grounds}
use Rattle.laws.specs.Lists.{Every, none, more, every_head, every_tail, every_take, every_drop, every_append_front, Bytes}
use Rattle.laws.specs.Buffers.{take_put_front}
use Rattle.laws.specs.Mappings.{Valid}
use Rattle.laws.specs.Tables.{length_joined_cons, records_none, records_cons, records_induction, records_valid, records_joined, joined_whole, whole_joined}
use Rattle.laws.specs.Answers.{OfWidth, first_zero, valid_table_parts, valid_table_made}
use Rattle.row_fields.specs.Rows.{row_of, good_row}
use Rattle.row_fields.proofs.Laws.Rows.{good_parts, record_valid, record_own, length_row}
use Rattle.row_fields.proofs.Laws.RoundTrips.{record_of_row, row_good, row_of_record}
use Rattle.fixed_rows.specs.FixedRows.{exported, export_grounds, export_answer, exporting, exporting_written, rows_within, rows_in, first_bad_from, first_bad, record_named, imported, import_grounds, import_answer, importing, importing_written}
use Rattle.fixed_rows.specs.Theorem.{rows_left, table_left, Exports, Imports, RoundTrips}
use Rattle.fixed_rows.proofs.Laws.Rows.{all_good}
use Rattle.fixed_rows.proofs.Laws.Answers.{length_exported}

-- ---- rows end to end
abbrev pub Long : List ℕ → Type 0
Long r = length r ≡ 32

pub length_of_rows : {rs : List (List ℕ)} → Every Long rs → length (joined rs) ≡ 32 * length rs
unfolding joined
length_of_rows none = refl
length_of_rows (more {x} {xs} h hs) = omega (arith, length_joined_cons x xs, length_of_rows hs)

rows_within_joined : {rs : List (List ℕ)} → Every Long rs → rows_within (length rs) (joined rs) ≡ rs
unfolding rows_within joined
rows_within_joined none = refl
rows_within_joined (more {x} {xs} h hs) =
    ap₂ (λ first others. first ∷ rows_within (length xs) others) (take_at x (joined xs) 32 h) (drop_at x (joined xs) 32 h)
    ∙ ap (λ others. x ∷ others) (rows_within_joined hs)

-- are read back
pub rows_joined : {rs : List (List ℕ)} → Every Long rs → rows_in (joined rs) ≡ rs
unfolding rows_in
rows_joined {rs} h =
    let many : length (joined rs) / 32 ≡ length rs = omega (arith, length_of_rows h) in
    rw many (rows_within_joined h)

-- and whole rows are the bytes that they are cut out of
joined_within : (n : ℕ) (b : List ℕ) → length b ≡ 32 * n → joined (rows_within n b) ≡ b
unfolding joined rows_within
joined_within zero [] long = refl
joined_within zero (x ∷ b) long = absurd (omega arith)
joined_within (suc n) b long =
    ap (λ others. take 32 b ++ others) (joined_within n (drop 32 b) (omega (arith, length-drop 32 b))) ∙ take-append-drop 32 b

joined_rows : (b : List ℕ) → length b % 32 ≡ 0 → joined (rows_in b) ≡ b
unfolding rows_in
joined_rows b even = joined_within (length b / 32) b (omega arith)

long_within : (n : ℕ) (b : List ℕ) → length b ≡ 32 * n → Every Long (rows_within n b)
unfolding rows_within
long_within zero b long = none
long_within (suc n) b long =
    more (length-take-le 32 b (omega arith)) (long_within n (drop 32 b) (omega (arith, length-drop 32 b)))

long_rows : (b : List ℕ) → length b % 32 ≡ 0 → Every Long (rows_in b)
unfolding rows_in
long_rows b even = long_within (length b / 32) b (omega arith)

bytes_within : (n : ℕ) (b : List ℕ) → Bytes b → Every Bytes (rows_within n b)
unfolding rows_within
bytes_within zero b h = none
bytes_within (suc n) b h = more (every_take 32 h) (bytes_within n (drop 32 b) (every_drop 32 h))

bytes_rows : (b : List ℕ) → Bytes b → Every Bytes (rows_in b)
unfolding rows_in
bytes_rows b h = bytes_within (length b / 32) b h

bytes_records : (t : List ℕ) → Bytes t → Every Bytes (records t)
bytes_records =
    records_induction (λ t. Bytes t → Every Bytes (records t)) (λ t e h. rw (records_none t e) none)
    (λ t n e ih h. rw (records_cons t n e) (more (every_take (suc n) h) (ih (every_drop (suc n) h))))

-- ---- each record there and back
long_each : (rs : List (List ℕ)) → Every Long (map row_of rs)
long_each [] = none
long_each (r ∷ rs) = more (length_row (mapping r)) (long_each rs)

named_each : {rs : List (List ℕ)} → Every Bytes rs → Every Valid rs → map record_named (map row_of rs) ≡ rs
named_each none none = refl
named_each (more {x} b bs) (more v vs) = ap₂ (λ first others. first ∷ others) (record_of_row x b v) (named_each bs vs)

good_each : (w n : ℕ) {rs : List (List ℕ)} → Every Bytes rs → Every Valid rs → Every (OfWidth w) rs → first_bad_from w n (map row_of rs) ≡ 0
unfolding first_bad_from
good_each w n none none none = refl
good_each w n (more {x} b bs) (more v vs) (more o os) = rw (row_good x b v w o) (good_each w (n + 1) bs vs os)

row_each : (w : ℕ) {rs : List (List ℕ)} → Every Bytes rs → Every Long rs → Every (λ r. good_row w r ≡ true) rs → map row_of (map record_named rs) ≡ rs
row_each w none none none = refl
row_each w (more {x} b bs) (more l ls) (more g gs) = ap₂ (λ first others. first ∷ others) (row_of_record w x b l g) (row_each w bs ls gs)

valid_each : (w : ℕ) {rs : List (List ℕ)} → Every (λ r. good_row w r ≡ true) rs → Every Valid (map record_named rs)
valid_each w none = none
valid_each w (more {x} g gs) = more (record_valid w x (good_parts w x g)) (valid_each w gs)

own_each : (w : ℕ) {rs : List (List ℕ)} → Every (λ r. good_row w r ≡ true) rs → Every (OfWidth w) (map record_named rs)
own_each w none = none
own_each w (more {x} g gs) = more (record_own w x (good_parts w x g)) (own_each w gs)

-- ---- what is left at the front of the buffer
rows_left_are : (w : ℕ) (t buffer : List ℕ) → export_answer w t (length buffer) ≡ 0 → rows_left w t buffer ≡ exported t
unfolding exporting exporting_written
rows_left_are w t buffer accepted = rw accepted (take_put_front (exported t) buffer)

table_left_is : (w : ℕ) (b buffer : List ℕ) → import_answer w b (length buffer) ≡ 0 → table_left w b buffer ≡ imported b
unfolding importing importing_written
table_left_is w b buffer accepted = rw accepted (take_put_front (imported b) buffer)

-- ---- export, then import
module _ (w : ℕ) (t : List ℕ) (room : ℕ) (b : Bytes t) (accepted : export_answer w t room ≡ 0) where
  record Exported : Type 0 where
    width : linear_width_in_range w ≡ true
    short : length t ≤ limit
    whole : whole t ≡ true
    own : Every (OfWidth w) (records t)

  passed : Exported
  unfolding export_answer export_grounds
  passed =
      let all = first_zero (export_grounds w t room) refl accepted in
      let stored = every_append_front (stored_grounds w t) ((12, ltb room (length (exported t))) ∷ []) (every_tail all) in
      let good = valid_table_parts w t (not-false (valid_table w t) (every_head (every_tail stored))) in
      record {
        width = not-false (linear_width_in_range w) (every_head all);
        short = ltb-false limit (length t) (every_head stored);
        whole = good.0;
        own = good.1;
      }

  cut : rows_in (exported t) ≡ map row_of (records t)
  unfolding exported
  cut = rows_joined (long_each (records t))

  imports_same : imported (exported t) ≡ t
  unfolding imported
  imports_same = rw (cut, named_each (bytes_records t b) (records_valid t)) (whole_joined t passed.whole)

  imports : (room' : ℕ) → length t ≤ room' → import_answer w (exported t) room' ≡ 0
  unfolding import_answer import_grounds first first_bad
  imports room' fits =
      let even : length (exported t) % 32 ≡ 0 = omega (arith, length_exported t) in
      let clean = good_each w 1 (bytes_records t b) (records_valid t) passed.own in
      rw (passed.width, even, cut, clean, imports_same, le-ltb (min room' limit) (length t) (omega (arith, passed.short)))

-- ---- import, then export
module _ (w : ℕ) (b : List ℕ) (room : ℕ) (h : Bytes b) (accepted : import_answer w b room ≡ 0) where
  record Imported : Type 0 where
    width : linear_width_in_range w ≡ true
    even : length b % 32 ≡ 0
    good : Every (λ r. good_row w r ≡ true) (rows_in b)
    short : length (imported b) ≤ limit

  passed_rows : Imported
  unfolding import_answer import_grounds
  passed_rows =
      let all = first_zero (import_grounds w b room) refl accepted in
      let two = every_tail all in
      let three = every_tail two in
      record {
        width = not-false (linear_width_in_range w) (every_head all);
        even = eqb-true (length b % 32) 0 (not-false _ (every_head two));
        good = all_good w b (eqb-true (first_bad w b) 0 (not-false _ (every_head three)));
        short = omega (arith, ltb-false (min room limit) (length (imported b)) (every_head (every_tail three)));
      }

  made : records (imported b) ≡ map record_named (rows_in b)
  unfolding imported
  made = records_joined (valid_each w passed_rows.good)

  exports_same : exported (imported b) ≡ b
  unfolding exported
  exports_same =
      rw (made, row_each w (bytes_rows b h) (long_rows b passed_rows.even) passed_rows.good) (joined_rows b passed_rows.even)

  valid_made : valid_table w (imported b) ≡ true
  unfolding imported
  valid_made =
      valid_table_made w (imported b) (joined_whole (valid_each w passed_rows.good)) (rw made (own_each w passed_rows.good))

  exports : (room' : ℕ) → length b ≤ room' → export_answer w (imported b) room' ≡ 0
  unfolding export_answer export_grounds first
  exports room' fits =
      rw (passed_rows.width, le-ltb limit (length (imported b)) passed_rows.short, valid_made, exports_same, le-ltb room' (length b) fits)

-- ---- the theorem
exports_hold : (w : ℕ) (t buffer : List ℕ) → Bytes t → export_answer w t (length buffer) ≡ 0 → Exports w t buffer
unfolding exporting importing
exports_hold w t buffer b accepted =
    let left = rows_left_are w t buffer accepted in
    record {
      count = ap length left ∙ length_exported t;
      accepted = λ new fits. rw left (imports w t (length buffer) b accepted (length new) fits);
      same =
          λ other new again. table_left_is other (rows_left w t buffer) new again
          ∙ ap imported left
          ∙ imports_same w t (length buffer) b accepted;
    }

imports_hold : (w : ℕ) (rows buffer : List ℕ) → Bytes rows → import_answer w rows (length buffer) ≡ 0 → Imports w rows buffer
unfolding exporting importing
imports_hold w rows buffer b accepted =
    let left = table_left_is w rows buffer accepted in
    let back = exports_same w rows (length buffer) b accepted in
    record {
      count = sym (ap length back) ∙ length_exported (imported rows) ∙ ap (λ t. 32 * length (records t)) (sym left);
      accepted = λ new fits. rw left (exports w rows (length buffer) b accepted (length new) fits);
      same = λ other new again. rows_left_are other (table_left w rows buffer) new again ∙ ap exported left ∙ back;
    }

pub round_trips_hold : RoundTrips
unfolding exporting importing
round_trips_hold =
    record {
      out_and_in = exports_hold;
      in_and_out = imports_hold;
      good =
          λ w r b long good. record {
            same = row_of_record w r b long good;
            valid = record_valid w r (good_parts w r good);
            own = record_own w r (good_parts w r good);
          };
      exact = λ w r b v own. row_good r b v w own;
    }
