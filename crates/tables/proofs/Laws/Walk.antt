-- The walk over a table, record by record: where it stands, and what each turn does.
use Prim.Native.Nat.{ℕ, zero, suc, ◌+◌, ◌-◌, ◌≤◌, ◌<◌}
use Rattle.std.specs.Prelude.{Bool, ◌≡◌, List, take, drop}
use Rattle.std.proofs.Math.Bool.{true, false, and-true, and-false}
use Rattle.std.proofs.lemmas.Bool.{false≢true}
use Rattle.std.proofs.Math.Path.{refl, sym}
use Rattle.std.proofs.Common.{ap, ◌∙◌, arith}
use borrow.Author.Tests.{ne_eqb}
use Rattle.std.proofs.Math.Dec.{eqb}
use Rattle.std.proofs.Math.ListN.{length}
use Rattle.model.specs.Layouts.{kind_of}
use Rattle.model.specs.Mappings.{Held, other_width, record_length}
use Rattle.model.specs.Tables.{joined, records, whole, of_width}
use Rattle.model.specs.Answers.{valid_table}
use Rattle.laws.specs.Mappings.{kind_of_take, held_record_length}
use Rattle.laws.specs.Tables.{rest_of_drop, records_none, length_joined_cons, Next, next_of_length}
use Rattle.valid_records.specs.Lengths.{length_at}
use Rattle.valid_records.proofs.Laws.Lengths.{length_at_own, length_at_other}
use Rattle.tables.specs.Walk.{Tells}

-- up to the position stand so many whole, valid records of the linear width: the bytes and the records of the table are
-- those up to the position and those of the rest, and the rest decides on the width
pub record Walked (w : ℕ) (t : List ℕ) (at k : ℕ) : Type 0 where
  pub within : at ≤ length t
  pub few : k ≤ at
  pub bytes : at + length (joined (records (drop at t))) ≡ length (joined (records t))
  pub number : k + length (records (drop at t)) ≡ length (records t)
  pub width : of_width w (records (drop at t)) ≡ of_width w (records t)

pub walk_start : (w : ℕ) (t : List ℕ) → Walked w t 0 0
walk_start w t =
    record { within = omega arith; few = omega arith; bytes = omega arith; number = omega arith; width = refl }

module _ {w : ℕ} {t : List ℕ} {at k : ℕ} (walked : Walked w t at k) where
  -- no record stands at the position: all were passed
  walk_none : length (joined (records (drop at t))) ≡ 0 → length (records (drop at t)) ≡ 0 → of_width w (records (drop at t)) ≡ true → Tells w t at k
  unfolding valid_table whole
  walk_none no_bytes none own =
      let bytes : at ≡ length (joined (records t)) = omega (arith, walked.bytes) in
      record {
        valid = rw (sym walked.width ∙ own, and-true) (ap (λ (n : ℕ). eqb n (length t)) bytes);
        number = λ v. omega (arith, walked.number);
      }

  -- nothing is read as the length of a record at the position
  module _ (read : length_at w (take (length t - at) (drop at t)) ≡ 0) where
    none_read : length_at w (drop at t) ≡ 0
    none_read = sym (ap (length_at w) (rest_of_drop at t)) ∙ read

    -- a record of the other width stands at the position: the table is not valid
    walk_other : (m : ℕ) → record_length (drop at t) ≡ suc m → other_width w (kind_of (drop at t)) ≡ true → Tells w t at k
    unfolding valid_table of_width
    walk_other m is other =
        let next : Next t at (suc m) = next_of_length t at (suc m) is (omega arith) in
        let same : kind_of (take (suc m) (drop at t)) ≡ kind_of (drop at t) = kind_of_take (suc m) (drop at t) (λ z. omega arith) in
        let off : of_width w (records t) ≡ false = sym walked.width ∙ rw (next.split, same, other) in
        record {
          valid = rw (off, and-false, ne_eqb at (length t) (λ all. omega (arith, next.within, all)));
          number = λ v. absurd (false≢true (rw (off, and-false) at v));
        }

    pub walk_stop : Tells w t at k
    unfolding joined of_width
    walk_stop = go (record_length (drop at t)) refl (other_width w (kind_of (drop at t))) refl
      where
        go : (m : ℕ) → record_length (drop at t) ≡ m → (b : Bool) → other_width w (kind_of (drop at t)) ≡ b → Tells w t at k
        go zero is b other = let none = records_none (drop at t) is in walk_none (rw none) (rw none) (rw none)
        go (suc m) is true other = walk_other m is other
        go (suc m) is false own = absurd (omega (arith, length_at_own w (drop at t) own, none_read, is))

  -- n is what is read as the length of the record at the position
  module _ {n : ℕ} (read : (0 < n) × (n ≡ length_at w (take (length t - at) (drop at t)))) where
    length_read : length_at w (drop at t) ≡ n
    length_read = sym (read.1 ∙ ap (length_at w) (rest_of_drop at t))

    own_width : other_width w (kind_of (drop at t)) ≡ false
    own_width = go (other_width w (kind_of (drop at t))) refl
      where
        go : (b : Bool) → other_width w (kind_of (drop at t)) ≡ b → b ≡ false
        go true other = absurd (omega (arith, read.0, length_read, length_at_other w (drop at t) other))
        go false own = refl

    -- a record of n bytes stands there
    pub walk_read : record_length (drop at t) ≡ n
    walk_read = sym (length_at_own w (drop at t) own_width) ∙ length_read

    next : Next t at n
    next = next_of_length t at n walk_read read.0

    pub walk_held : Held (take (length t - at) (drop at t))
    walk_held = rw rest_of_drop (held_record_length (drop at t) (omega (arith, walk_read, read.0)))

    pub walk_on : Walked w t (at + n) (k + 1)
    unfolding of_width
    walk_on =
        let same : kind_of (take n (drop at t)) ≡ kind_of (drop at t) = kind_of_take n (drop at t) (λ none. omega (arith, none, read.0)) in
        let first = length_joined_cons (take n (drop at t)) (records (drop (at + n) t)) in
        let bytes = rw next.split at walked.bytes in
        let number = rw next.split at walked.number in
        record {
          within = next.within;
          few = omega (arith, walked.few, read.0);
          bytes = omega (arith, next.size);
          number = omega arith;
          width = rw (next.split, same, own_width) at walked.width;
        }
