-- The walk over a table that counts: the records before its position are counted by kind and span, and struck off by PCID.
use Rattle.std.specs.Prelude.{ℕ, ◌+◌, ◌-◌, ◌≤◌, ◌<◌, Bool, true, false, List, [], ◌∷◌, ◌++◌, ◌≡◌, refl, length, take, drop}
use Rattle.std.proofs.lemmas.Bool.{false≢true}
use Rattle.std.proofs.Common.{append_assoc, append-nil, sym, ◌∙◌, arith, length-append, eqb-true}
use Rattle.model.specs.Mappings.{mapping, record_length}
use Rattle.model.specs.Tables.{records}
use Rattle.model.specs.Answers.{valid_table}
use Rattle.laws.specs.Lists.{every_head}
use Rattle.laws.specs.Mappings.{Valid, starts_record_length, valid_starts}
use Rattle.laws.specs.Tables.{Next, next_of_length, records_valid, records_drop_end, rest_of_drop}
use Rattle.tables.specs.Walk.{Tells}
use Rattle.valid_records.specs.Lengths.{length_at}
use Rattle.tables.proofs.Laws.Walk.{Walked, walk_on, walk_read}
use Rattle.tallies.specs.Tallies.{cells_with, pcids_struck, Struck, Strikable}
use Rattle.tallies.proofs.Laws.Struck.{struck_with, struck_strikable}

pub record Counting (t : List ℕ) (at : ℕ) (pcids₀ cells pcids : List ℕ) : Type 0 where
  pub before : List (List ℕ)
  pub split : records t ≡ before ++ records (drop at t)
  pub few : length before ≤ at
  pub struck : Struck pcids₀ before cells pcids

pub counting_start : (t : List ℕ) {pcids₀ cells pcids : List ℕ} → Struck pcids₀ [] cells pcids → Counting t 0 pcids₀ cells pcids
counting_start t none = record { before = []; split = refl; few = omega arith; struck = none }

module _ {t : List ℕ} {at : ℕ} {pcids₀ cells pcids : List ℕ} (c : Counting t at pcids₀ cells pcids) where
  all : Struck pcids₀ (c.before ++ []) cells pcids
  all = rw append-nil c.struck

  -- a record of n bytes stands at the position
  module _ {n : ℕ} (read : record_length (drop at t) ≡ n) (some : 0 < n) where
    next : Next t at n
    next = next_of_length t at n read some

    valid : Valid (take n (drop at t))
    valid = every_head (rw next.split at (records_valid (drop at t)))

    pub counting_ready : at < 65535 → Strikable (drop at t) cells pcids
    counting_ready small =
        struck_strikable pcids₀ c.before [] (drop at t) (starts_record_length (drop at t) (omega (arith, read, some))) all
        (omega (arith, c.few, length-append c.before [], small))

    pub counting_next : Counting t (at + n) pcids₀ (cells_with (mapping (drop at t)) cells) (pcids_struck (mapping (drop at t)) pcids)
    counting_next =
        record {
          before = c.before ++ take n (drop at t) ∷ [];
          split = c.split ∙ rw (next.split, append_assoc);
          few = omega (arith, c.few, some, length-append c.before (take n (drop at t) ∷ []));
          struck = rw next.same at (struck_with pcids₀ c.before [] (take n (drop at t)) (valid_starts (take n (drop at t)) valid) all);
        }

  pub counting_end : length t ≤ at → Struck pcids₀ (records t) cells pcids
  counting_end end = rw (c.split, records_drop_end t at end, append-nil) c.struck

-- ---- the loop of the walk, which counts or not

pub record WalkedCounting (w : ℕ) (t : List ℕ) (counting : Bool) (pcids₀ cells pcids : List ℕ) (at k : ℕ) : Type 0 where
  pub walked : Walked w t at k
  pub counts : counting ≡ true → Counting t at pcids₀ cells pcids

module _ {w : ℕ} {t : List ℕ} {counting : Bool} {pcids₀ cells pcids : List ℕ} {at k : ℕ} (c : WalkedCounting w t counting pcids₀ cells pcids at k) where
  -- a walk that stops in a valid table has counted its records
  pub walked_all : Tells w t at k → counting ≡ true → valid_table w t ≡ true → Struck pcids₀ (records t) cells pcids
  walked_all told on valid = counting_end (c.counts on) (omega (arith, eqb-true at (length t) (told.valid ∙ valid)))

  module _ {n : ℕ} (read : (0 < n) × (n ≡ length_at w (take (length t - at) (drop at t)))) where
    -- the record at the position was counted
    pub walked_counted : {cells' pcids' : List ℕ} → counting ≡ true
        → cells' ≡ cells_with (mapping (take (length t - at) (drop at t))) cells
        → pcids' ≡ pcids_struck (mapping (take (length t - at) (drop at t))) pcids
        → WalkedCounting w t counting pcids₀ cells' pcids' (at + n) (k + 1)
    walked_counted {cells'} {pcids'} on kinds tags =
        let m = mapping (drop at t) in
        let kinds_here : cells' ≡ cells_with m cells = rw rest_of_drop at kinds in
        let tags_here : pcids' ≡ pcids_struck m pcids = rw rest_of_drop at tags in
        record {
          walked = walk_on c.walked read;
          counts = λ counts. rw (kinds_here, tags_here) (counting_next (c.counts on) (walk_read c.walked read) read.0);
        }

    -- it was not, as nothing is counted
    pub walked_uncounted : counting ≡ false → WalkedCounting w t counting pcids₀ cells pcids (at + n) (k + 1)
    walked_uncounted off = record { walked = walk_on c.walked read; counts = λ on. absurd (false≢true (sym off ∙ on)) }
