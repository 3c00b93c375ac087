-- The loop of `filter`: what holds at each position of its walk, how a record out of scope and one in
-- scope carry it on, and what it says at the end.
use Rattle.std.specs.Prelude.{ℕ, ◌+◌, ◌-◌, ◌≤◌, Bool, true, false, List, [], ◌++◌, ◌≡◌, refl, length, take, drop}
use Rattle.std.proofs.Common.{append_assoc, append-nil, ap, ◌∙◌, arith, length-append, length-drop, drop_of_length-le, length-take-le, drop-drop, take-add}
use Rattle.model.specs.declared.Mapping.{Mapping}
use Rattle.model.specs.Buffers.{put}
use Rattle.model.specs.Mappings.{mapping}
use Rattle.model.specs.Tables.{whole}
use Rattle.laws.specs.Buffers.{put_put, length_put}
use Rattle.laws.specs.Tables.{Next, whole_rest}
use Rattle.filters.specs.Filters.{filtered, scoped, Filters}
use Rattle.filters.proofs.Laws.Filters.{filtered_nil, scoped_nil, filtered_out, filtered_in, scoped_out, scoped_in}

-- the bytes of a table from one position up to another: records out of scope, not copied yet
abbrev pub run_of : List ℕ → ℕ → ℕ → List ℕ
run_of t from at = take (at - from) (drop from t)

pub length_run_of : (t : List ℕ) (from at : ℕ) → at ≤ length t → length (run_of t from at) ≡ at - from
length_run_of t from at h = length-take-le (at - from) (drop from t) (omega (arith, length-drop from t))

module _ (test : Mapping → Bool) where
  -- The walk stands at a position of the table. With the run that is not copied yet, and what is left
  -- filtered, the new buffer, the length and the count are the whole filter's.
  pub record Filtering (t buffer : List ℕ) (at from to dropped : ℕ) (new : List ℕ) : Type 0 where
    pub run : from ≤ at
    pub inside : at ≤ length t
    pub behind : to ≤ from
    pub few : dropped ≤ at
    pub room : length t ≤ length new
    pub long : length new ≡ length buffer
    pub rest : whole (drop at t) ≡ true
    pub size : to + length (run_of t from at ++ filtered test (drop at t)) ≡ length (filtered test t)
    pub bytes : put to (run_of t from at ++ filtered test (drop at t)) new ≡ put 0 (filtered test t) buffer
    pub number : dropped + scoped test (drop at t) ≡ scoped test t

  pub filtering_start : (t buffer : List ℕ) → whole t ≡ true → length t ≤ length buffer → Filtering t buffer 0 0 0 0 buffer
  filtering_start t buffer w room =
      record {
        run = omega arith;
        inside = omega arith;
        behind = omega arith;
        few = omega arith;
        room = room;
        long = refl;
        rest = w;
        size = omega arith;
        bytes = refl;
        number = omega arith;
      }

  module _ {t buffer : List ℕ} {at from to dropped : ℕ} {new : List ℕ} (s : Filtering t buffer at from to dropped new) where
    -- there is room for the run
    pub filtering_room : to + length (run_of t from at) ≤ length new
    filtering_room = omega (arith, length_run_of t from at s.inside, s.run, s.behind, s.inside, s.room)

    -- one more record behind the run
    run_more : (n : ℕ) → run_of t from (at + n) ≡ run_of t from at ++ take n (drop at t)
    run_more n =
        let here : at + n - from ≡ (at - from) + n = omega (arith, s.run) in
        let there : from + (at - from) ≡ at = omega (arith, s.run) in
        rw (here, take-add (at - from) n (drop from t), drop-drop (at - from) from t, there)

    -- the record at the position is out of scope: the run goes on
    pub filtering_out : {n : ℕ} → Next t at n → test (mapping (drop at t)) ≡ false → Filtering t buffer (at + n) from to dropped new
    filtering_out {n} next out =
        let same : run_of t from (at + n) ++ filtered test (drop (at + n) t) ≡ run_of t from at ++ filtered test (drop at t) =
        rw (run_more n, append_assoc, filtered_out test next out) in
        record {
          run = omega (arith, s.run);
          inside = next.within;
          behind = s.behind;
          few = omega (arith, s.few);
          room = s.room;
          long = s.long;
          rest = whole_rest s.rest next;
          size = rw same s.size;
          bytes = rw same s.bytes;
          number = rw (← (scoped_out test next out)) s.number;
        }

    -- the record at the position is in scope: the run is copied, and the next one starts behind it
    pub filtering_in : {n : ℕ} → Next t at n → test (mapping (drop at t)) ≡ true → {to' : ℕ} {new' : List ℕ}
        → to' ≡ to + length (run_of t from at) → new' ≡ put to (run_of t from at) new
        → Filtering t buffer (at + n) (at + n) to' (dropped + 1) new'
    filtering_in {n} next inside {to'} {new'} is made =
        let run = run_of t from at in
        let others = filtered test (drop (at + n) t) in
        let none : at + n - (at + n) ≡ 0 = omega arith in
        let left : filtered test (drop at t) ≡ others = filtered_in test next inside in
        let long : length new' ≡ length new = ap length made ∙ length_put to run new filtering_room in
        let behind : put to' others new' ≡ put to (run ++ others) new =
        rw (is, made) (put_put to run others new (omega (arith, filtering_room))) in
        record {
          run = omega arith;
          inside = next.within;
          behind = omega (arith, s.behind, s.run, length_run_of t from at s.inside);
          few = omega (arith, s.few, next.some);
          room = omega (arith, s.room, long);
          long = long ∙ s.long;
          rest = whole_rest s.rest next;
          size = rw none (omega (arith, s.size, ap length left, length-append run (filtered test (drop at t))));
          bytes = rw none (behind ∙ rw (← left) s.bytes);
          number = omega (arith, s.number, scoped_in test next inside);
        }

    -- the walk is at the end: the last run is copied, and all is told
    pub filtering_end : length t ≤ at → {to' : ℕ} {new' : List ℕ}
        → to' ≡ to + length (run_of t from at) → new' ≡ put to (run_of t from at) new
        → Filters test t buffer (record { length = to'; dropped = dropped }) new'
    filtering_end done {to'} {new'} is made =
        let end : drop at t ≡ [] = drop_of_length-le t done in
        let left : run_of t from at ++ filtered test (drop at t) ≡ run_of t from at = rw (end, filtered_nil, append-nil) in
        let none : scoped test (drop at t) ≡ 0 = rw (end, scoped_nil) in
        record {
          size = is ∙ rw left at s.size;
          dropped = omega (arith, s.number, none);
          buffer = made ∙ rw left at s.bytes;
        }
