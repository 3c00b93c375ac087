-- Bytes written to the front of a buffer piece by piece, and the loop that writes what a function makes of each record
-- of a table.
use Rattle.std.specs.Prelude.{ℕ, ◌+◌, ◌≤◌, true, List, [], ◌++◌, map, ◌≡◌, refl, length, take, drop}
use Rattle.std.proofs.Common.{sym, ap, ◌∙◌, arith, length-append}
use Rattle.model.specs.Buffers.{put}
use Rattle.model.specs.Tables.{joined, records, whole}
use Rattle.laws.specs.Buffers.{length_put, put_put, put_nil}
use Rattle.laws.specs.Tables.{Next, whole_rest, records_drop_end}

-- ---- bytes written to the front of a buffer, piece by piece: what is left of them is put at a position
pub record Progress (all rest buffer : List ℕ) (to : ℕ) (new : List ℕ) : Type 0 where
  pub long : length new ≡ length buffer
  pub size : to + length rest ≡ length all
  pub room : length all ≤ length new
  pub bytes : put to rest new ≡ put 0 all buffer

pub progress_start : (all buffer : List ℕ) {rest : List ℕ} → rest ≡ all → length all ≤ length buffer → Progress all rest buffer 0 buffer
progress_start all buffer is room =
    record { long = refl; size = omega (arith, ap length is); room = room; bytes = ap (λ (xs : List ℕ). put 0 xs buffer) is }

module _ {all rest buffer : List ℕ} {to : ℕ} {new : List ℕ} (s : Progress all rest buffer to new) (piece others : List ℕ) (split : rest ≡ piece ++ others) where
  -- there is room for the next piece, and for those after it
  pub progress_room : to + length piece + length others ≤ length new
  progress_room = omega (arith, s.size, s.room, ap length split, length-append piece others)

  pub progress_turn : {to' : ℕ} {new' : List ℕ} → to' ≡ to + length piece → new' ≡ put to piece new → Progress all others buffer to' new'
  progress_turn {to'} {new'} is made =
      let long : length new' ≡ length new = ap length made ∙ length_put to piece new (omega (arith, progress_room)) in
      let after : put to' others new' ≡ put to (piece ++ others) new = rw (is, made) (put_put to piece others new (omega (arith, progress_room))) in
      record {
        long = long ∙ s.long;
        size = omega (arith, s.size, is, ap length split, length-append piece others);
        room = omega (arith, s.room, long);
        bytes = after ∙ rw (← split) s.bytes;
      }

pub progress_end : {all rest buffer : List ℕ} {to : ℕ} {new : List ℕ} → Progress all rest buffer to new → rest ≡ [] → new ≡ put 0 all buffer
progress_end {to = to} {new} s done = sym (put_nil to new) ∙ rw done at s.bytes

-- ---- what a function makes of the records from a position of a table on, end to end
unfoldable pub made_from : (List ℕ → List ℕ) → List ℕ → ℕ → List ℕ
made_from make t at = joined (map make (records (drop at t)))

pub made_from_start : (make : List ℕ → List ℕ) (t : List ℕ) → made_from make t 0 ≡ joined (map make (records t))
unfolding made_from
made_from_start make t = refl

pub made_from_next : (make : List ℕ → List ℕ) {t : List ℕ} {at n : ℕ} → Next t at n → made_from make t at ≡ make (take n (drop at t)) ++ made_from make t (at + n)
unfolding made_from joined
made_from_next make next = rw next.split

pub made_from_end : (make : List ℕ → List ℕ) (t : List ℕ) (at : ℕ) → length t ≤ at → made_from make t at ≡ []
unfolding made_from joined
made_from_end make t at done = rw (records_drop_end t at done)

-- the loop that writes them
pub record Writing (make : List ℕ → List ℕ) (t buffer : List ℕ) (at to : ℕ) (new : List ℕ) : Type 0 where
  pub inside : at ≤ length t
  pub rest : whole (drop at t) ≡ true
  pub wrote : Progress (joined (map make (records t))) (made_from make t at) buffer to new

pub writing_start : (make : List ℕ → List ℕ) (t buffer : List ℕ) → whole t ≡ true → length (joined (map make (records t))) ≤ length buffer → Writing make t buffer 0 0 buffer
writing_start make t buffer w room =
    record { inside = omega arith; rest = w; wrote = progress_start (joined (map make (records t))) buffer (made_from_start make t) room }

module _ {make : List ℕ → List ℕ} {t buffer : List ℕ} {at to : ℕ} {new : List ℕ} (s : Writing make t buffer at to new) {n : ℕ} (next : Next t at n) where
  -- there is room for what is made of the next record
  pub writing_room : to + length (make (take n (drop at t))) ≤ length new
  writing_room = omega (arith, progress_room s.wrote (make (take n (drop at t))) (made_from make t (at + n)) (made_from_next make next))

  pub writing_turn : {to' : ℕ} {new' : List ℕ} → to' ≡ to + length (make (take n (drop at t))) → new' ≡ put to (make (take n (drop at t))) new
      → Writing make t buffer (at + n) to' new'
  writing_turn is made =
      record {
        inside = next.within;
        rest = whole_rest s.rest next;
        wrote = progress_turn s.wrote (make (take n (drop at t))) (made_from make t (at + n)) (made_from_next make next) is made;
      }

pub writing_end : {make : List ℕ → List ℕ} {t buffer : List ℕ} {at to : ℕ} {new : List ℕ} → Writing make t buffer at to new → length t ≤ at
    → new ≡ put 0 (joined (map make (records t))) buffer
writing_end {make} {t} {at = at} s done = progress_end s.wrote (made_from_end make t at done)
