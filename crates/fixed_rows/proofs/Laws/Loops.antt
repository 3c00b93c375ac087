-- The three loops: the one that writes the rows of a table, the one that judges rows, and the one that writes the
-- records that rows name.
use Rattle.std.specs.Prelude.{ℕ, ◌+◌, ◌%◌, ◌≤◌, ◌<◌, true, cond, List, [], ◌∷◌, ◌++◌, ◌≡◌, refl, length, take, drop}
use Rattle.std.proofs.Common.{append_assoc, ap, ◌∙◌, arith, length-append, length-take-le, take_at}
use Rattle.std.proofs.lemmas.List.{take-append-drop, nil_from_length, append-nil}
use Rattle.std.proofs.Math.Path.{sym}
use Rattle.model.specs.Bits.{bytes}
use Rattle.model.specs.Buffers.{put}
use Rattle.model.specs.Layouts.{length_of}
use Rattle.model.specs.Tables.{joined, records}
use Rattle.laws.specs.Lists.{Every, every_head, every_tail}
use Rattle.laws.specs.Layouts.{length_of_mapping_le}
use Rattle.laws.specs.Buffers.{length_put, length_bytes, put_nil, put_split}
use Rattle.laws.specs.Writing.{Progress, progress_start, progress_room, progress_turn, progress_end}
use Rattle.row_fields.specs.Rows.{Column, column, row_of, good_row, named_length}
use Rattle.row_fields.proofs.Laws.Overlaps.{put_over, within}
use Rattle.fixed_rows.specs.FixedRows.{exported, rows_in, first_bad_from, first_bad, record_named, imported, Fitting, Named}
use Rattle.fixed_rows.proofs.Laws.Rows.{length_record_named, rows_first, rows_none, imported_first, imported_none, named_some, named_none, length_named, length_named_le}

-- ---- bytes written piece by piece
module _ {all rest buffer : List ℕ} {to : ℕ} {new : List ℕ} (s : Progress all rest buffer to new) (piece others : List ℕ) (split : rest ≡ piece ++ others) where
  -- what is written too much behind it, those behind it will write over
  pub progress_over : (pad : List ℕ) → length pad ≤ length others → {to' : ℕ} {new' : List ℕ} → to' ≡ to + length piece → new' ≡ put to (piece ++ pad) new
      → Progress all others buffer to' new'
  progress_over pad covered {to'} {new'} is made =
      let size = length-append piece pad in
      let long : length new' ≡ length new = ap length made ∙ length_put to (piece ++ pad) new (omega (arith, progress_room s piece others split, size)) in
      let behind : put to' others new' ≡ put to (piece ++ others) new =
      rw (is, made)
      (put_over to (length piece) (piece ++ pad) others new (omega (arith, progress_room s piece others split)) (omega (arith, size)) (omega (arith, size))
      ∙ ap (λ (xs : List ℕ). put to (xs ++ others) new) (take_at piece pad (length piece) refl)) in
      record {
        long = long ∙ s.long;
        size = omega (arith, s.size, is, ap length split, length-append piece others);
        room = omega (arith, s.room, long);
        bytes = behind ∙ rw (← split) s.bytes;
      }

-- ---- the rows of a table: of its first record, and of the rest
pub exported_first : (rest r behind : List ℕ) → records rest ≡ r ∷ records behind → exported rest ≡ row_of r ++ exported behind
unfolding exported joined
exported_first rest r behind first = rw first

pub exported_none : (rest : List ℕ) → records rest ≡ [] → exported rest ≡ []
unfolding exported joined
exported_none rest none = rw none

-- ---- rows judged, with a rest of them left after so many
pub record Judging (width : ℕ) (b rest : List ℕ) (before size : ℕ) : Type 0 where
  pub few : size + length rest ≤ length b
  pub bad : first_bad_from width (before + 1) (rows_in rest) ≡ first_bad width b
  pub all : size + length (imported rest) ≡ length (imported b)

pub judging_start : (width : ℕ) (b rest : List ℕ) (before : ℕ) → rest ≡ b → before ≡ 0 → Judging width b rest before 0
unfolding first_bad
judging_start width b rest before is none =
    record { few = omega (arith, ap length is); bad = rw (is, none); all = omega (arith, ap (λ (xs : List ℕ). length (imported xs)) is) }

module _ {width : ℕ} {b rest : List ℕ} {before size : ℕ} (s : Judging width b rest before size) (r behind : List ℕ) (cut : rest ≡ r ++ behind) (long : length r ≡ 32) where
  split : first_bad width b ≡ cond (good_row width r) (first_bad_from width (before + 1 + 1) (rows_in behind)) (before + 1)
  unfolding first_bad_from
  split = sym s.bad ∙ rw (rows_first rest r behind cut long)

  pub judging_bad : named_length width r ≡ 0 → before + 1 ≡ first_bad width b
  judging_bad zero_long = sym (split ∙ rw (named_none width r zero_long))

  pub judging_turn : {n : ℕ} → 0 < n → n ≡ named_length width r → Judging width b behind (before + 1) (size + n)
  judging_turn {n} some is =
      let good : good_row width r ≡ true = named_some width r (λ z. omega arith) in
      record {
        few = omega (arith, s.few, is, length_named_le width r good, ap length cut, length-append r behind, long);
        bad = sym (split ∙ rw good);
        all =
            omega (arith, s.all, is, length_named width r good, ap length (imported_first rest r behind cut long), length-append (record_named r) (imported behind));
      }

module _ {width : ℕ} {b rest : List ℕ} {before size : ℕ} (s : Judging width b rest before size) (done : length rest < 32) where
  pub judging_clean : first_bad width b ≡ 0
  unfolding first_bad_from
  judging_clean = sym (rw (rows_none rest done) at s.bad)

  pub judging_size : size ≡ length (imported b)
  judging_size = omega (arith, s.all, ap length (imported_none rest done))

-- ---- the records that rows name, with some rows and the last one left
pub record Importing (b buffer front last : List ℕ) (to : ℕ) (new : List ℕ) : Type 0 where
  pub even : length front % 32 ≡ 0
  pub row : length last ≡ 32
  pub fitting : Every Fitting (rows_in (front ++ last))
  pub wrote : Progress (imported b) (imported (front ++ last)) buffer to new

pub importing_start : (b buffer front last : List ℕ) → length b % 32 ≡ 0 → Named b → length (imported b) ≤ length buffer → b ≡ front ++ last → length last ≡ 32
    → Importing b buffer front last 0 buffer
importing_start b buffer front last rows known room cut row =
    record {
      even = omega (arith, ap length cut, length-append front last);
      row = row;
      fitting = rw cut at known.each;
      wrote = progress_start (imported b) buffer (ap imported (sym cut)) room;
    }

-- no row
pub importing_none : (b buffer : List ℕ) → length b < 32 → buffer ≡ put 0 (imported b) buffer
importing_none b buffer short = rw (imported_none b short) (sym (put_nil 0 buffer))

-- a record covers three bytes
covers_three : (b : List ℕ) → 32 ≤ length b → Every Fitting (rows_in b) → 3 ≤ length (imported b)
covers_three b long fitting =
    let r = take 32 b in
    let behind = drop 32 b in
    let cut : b ≡ r ++ behind = sym (take-append-drop 32 b) in
    let size : length r ≡ 32 = length-take-le 32 b long in
    let row = every_head (rw (rows_first b r behind cut size) at fitting) in
    omega (arith, ap length (imported_first b r behind cut size), length-append (record_named r) (imported behind), length_record_named r, (within (column Column.kind r) row.known).frame)

module _ {b buffer front last : List ℕ} {to : ℕ} {new : List ℕ} (s : Importing b buffer front last to new) (r behind : List ℕ) (cut : front ≡ r ++ behind) (long : length r ≡ 32) where
  those : Every Fitting (r ∷ rows_in (behind ++ last))
  those = rw (rows_first (front ++ last) r (behind ++ last) (rw (cut, append_assoc)) long) at s.fitting

  pub importing_fitting : Fitting r
  importing_fitting = every_head those

  first_split : imported (front ++ last) ≡ record_named r ++ imported (behind ++ last)
  first_split = imported_first (front ++ last) r (behind ++ last) (rw (cut, append_assoc)) long

  covered : 3 ≤ length (imported (behind ++ last))
  covered = covers_three (behind ++ last) (omega (arith, length-append behind last, s.row)) (every_tail those)

  pub importing_room : to + length_of (column Column.kind r) + 3 ≤ length new
  importing_room =
      omega (arith, length_record_named r, covered, progress_room s.wrote (record_named r) (imported (behind ++ last)) first_split)

  pub importing_turn : {to' : ℕ} {new' : List ℕ} → to' ≡ to + length_of (column Column.kind r) → new' ≡ put to (record_named r ++ bytes 3 0) new
      → Importing b buffer behind last to' new'
  importing_turn is made =
      record {
        even = omega (arith, s.even, ap length cut, length-append r behind, long);
        row = s.row;
        fitting = every_tail those;
        wrote = progress_over s.wrote (record_named r) (imported (behind ++ last)) first_split (bytes 3 0) (omega (arith, length_bytes 3 0, covered)) (is ∙ rw (length_record_named r)) made;
      }

-- the last record, of which nothing is written too much
module _ {b buffer front last : List ℕ} {to : ℕ} {new : List ℕ} (s : Importing b buffer front last to new) (done : length front < 32) where
  alone : front ++ last ≡ last ++ []
  alone = rw (nil_from_length front (omega (arith, s.even)), append-nil)

  pub importing_last_fitting : Fitting last
  importing_last_fitting = every_head (rw (rows_first (front ++ last) last [] alone s.row) at s.fitting)

  last_split : imported (front ++ last) ≡ record_named last ++ imported []
  last_split = imported_first (front ++ last) last [] alone s.row

  pub importing_last_room : to + length (record_named last) ≤ length new
  importing_last_room = omega (arith, progress_room s.wrote (record_named last) (imported []) last_split)

  pub importing_last : {new' : List ℕ} → new' ≡ put to (record_named last) new → new' ≡ put 0 (imported b) buffer
  importing_last made =
      progress_end (progress_turn s.wrote (record_named last) (imported []) last_split refl made) (imported_none [] (omega arith))

-- bytes that are put with others behind them, cut out again
pub put_cut : (n : ℕ) (xs pad b : List ℕ) → n ≡ length xs → take n (put 0 (xs ++ pad) b) ≡ xs
put_cut n xs pad b is = rw (put_split 0 (xs ++ pad) b, append_assoc) (take_at xs (pad ++ drop (length (xs ++ pad)) b) n (sym is))

-- what the answers on the last record rest on
pub ruleset cutting = (put_cut, length_record_named, length_of_mapping_le)
