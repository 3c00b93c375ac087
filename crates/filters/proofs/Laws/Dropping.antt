-- The loop of `filter` where the records are counted: those before its position that are left, and all from it on, are
-- the counted ones.
use Rattle.std.specs.Prelude.{ℕ, ◌+◌, ◌-◌, ◌≤◌, Bool, true, false, not, List, [], ◌∷◌, ◌++◌, ◌≡◌, refl, length, take, drop}
use Rattle.std.proofs.lemmas.Bool.{false≢true}
use Rattle.std.proofs.Common.{append_assoc, sym, ap, ◌∙◌}
use Rattle.model.specs.declared.Mapping.{Mapping}
use Rattle.model.specs.Mappings.{mapping, Held}
use Rattle.model.specs.Tables.{records, only}
use Rattle.laws.specs.Lists.{every_head}
use Rattle.laws.specs.Mappings.{Valid, valid_starts}
use Rattle.laws.specs.Tables.{Next, records_valid, records_drop_end, rest_of_drop, only_true, only_false}
use Rattle.tallies.specs.Tallies.{cells_without, pcids_without, Tallied, Counted}
use Rattle.tallies.proofs.Laws.Tallied.{length_cells_without, length_pcids_without, tallied_without, tallied_counted}
use Rattle.filters.specs.Filters.{left}
use Rattle.filters.proofs.Laws.Filtering.{Filtering}

module _ (test : Mapping → Bool) where
  pub record Dropping (t : List ℕ) (at : ℕ) (cells pcids : List ℕ) : Type 0 where
    pub before : List (List ℕ)
    pub split : left test t ≡ before ++ left test (drop at t)
    pub tallied : Tallied (before ++ records (drop at t)) cells pcids

  pub dropping_start : (t : List ℕ) {cells pcids : List ℕ} → Tallied (records t) cells pcids → Dropping t 0 cells pcids
  dropping_start t all = record { before = []; split = refl; tallied = all }

  module _ {t : List ℕ} {at : ℕ} {cells pcids : List ℕ} (d : Dropping t at cells pcids) where
    pub dropping_end : length t ≤ at → Tallied (left test t) cells pcids
    unfolding only
    dropping_end end = let none = records_drop_end t at end in rw (d.split, none) (rw none at d.tallied)

    -- the record at the position
    module _ {n : ℕ} (next : Next t at n) where
      valid : Valid (take n (drop at t))
      valid = every_head (rw next.split at (records_valid (drop at t)))

      here : Tallied (d.before ++ take n (drop at t) ∷ records (drop (at + n) t)) cells pcids
      here = rw next.split at d.tallied

      pub dropping_ready : Held (drop at t) → Counted (drop at t) cells pcids
      dropping_ready held =
          let counted : Counted (take n (drop at t)) cells pcids = tallied_counted d.before (records (drop (at + n) t)) (take n (drop at t)) (valid_starts (take n (drop at t)) valid) here in
          record {
            held = held;
            long = counted.long;
            place = rw next.same at counted.place;
            some = rw next.same at counted.some;
            pcid_place = rw next.same at counted.pcid_place;
            pcid_some = rw next.same at counted.pcid_some;
          }

      -- it is left
      pub dropping_out : test (mapping (drop at t)) ≡ false → Dropping t (at + n) cells pcids
      dropping_out out =
          let held : not (test (mapping (take n (drop at t)))) ≡ true = rw (next.same, out) in
          record {
            before = d.before ++ take n (drop at t) ∷ [];
            split = d.split ∙ rw (next.split, only_true (λ r. not (test (mapping r))) (take n (drop at t)) (records (drop (at + n) t)) held, append_assoc);
            tallied = rw append_assoc here;
          }

      -- it is dropped, and taken off
      pub dropping_in : test (mapping (drop at t)) ≡ true
          → Dropping t (at + n) (cells_without (mapping (drop at t)) cells) (pcids_without (mapping (drop at t)) pcids)
      dropping_in inside =
          let held : not (test (mapping (take n (drop at t)))) ≡ false = rw (next.same, inside) in
          record {
            before = d.before;
            split = d.split ∙ rw (next.split, only_false (λ r. not (test (mapping r))) (take n (drop at t)) (records (drop (at + n) t)) held);
            tallied = rw next.same at (tallied_without d.before (records (drop (at + n) t)) (take n (drop at t)) (valid_starts (take n (drop at t)) valid) here);
          }

  -- ---- the loop, which counts or not

  pub record FilteringCounting (t buffer : List ℕ) (counting : Bool) (cells₀ pcids₀ cells pcids : List ℕ) (at from to dropped : ℕ) (new : List ℕ) : Type 0 where
    pub filtering : Filtering test t buffer at from to dropped new
    pub cells_long : length cells ≡ length cells₀
    pub pcids_long : length pcids ≡ length pcids₀
    pub counts : counting ≡ true → Dropping t at cells pcids
    pub kept : counting ≡ false → (cells ≡ cells₀) × (pcids ≡ pcids₀)

  module _ {t buffer : List ℕ} {counting : Bool} {cells₀ pcids₀ cells pcids : List ℕ} {at from to dropped : ℕ} {new : List ℕ} (f : FilteringCounting t buffer counting cells₀ pcids₀ cells pcids at from to dropped new) {n : ℕ} (next : Next t at n) where
    -- the record at the position is left
    pub filtering_left : test (mapping (drop at t)) ≡ false → Filtering test t buffer (at + n) from to dropped new
        → FilteringCounting t buffer counting cells₀ pcids₀ cells pcids (at + n) from to dropped new
    filtering_left out on =
        record {
          filtering = on;
          cells_long = f.cells_long;
          pcids_long = f.pcids_long;
          counts = λ yes. dropping_out (f.counts yes) next out;
          kept = f.kept;
        }

    module _ (inside : test (mapping (drop at t)) ≡ true) {from' to' dropped' : ℕ} {new' : List ℕ} (on : Filtering test t buffer (at + n) from' to' dropped' new') {cells' pcids' : List ℕ} where
      -- it is dropped, and taken off
      pub filtering_counted : counting ≡ true → cells' ≡ cells_without (mapping (take (length t - at) (drop at t))) cells
          → pcids' ≡ pcids_without (mapping (take (length t - at) (drop at t))) pcids
          → FilteringCounting t buffer counting cells₀ pcids₀ cells' pcids' (at + n) from' to' dropped' new'
      filtering_counted counting kinds tags =
          let m = mapping (drop at t) in
          let kinds_here : cells' ≡ cells_without m cells = rw rest_of_drop at kinds in
          let tags_here : pcids' ≡ pcids_without m pcids = rw rest_of_drop at tags in
          record {
            filtering = on;
            cells_long = ap length kinds_here ∙ length_cells_without m cells ∙ f.cells_long;
            pcids_long = ap length tags_here ∙ length_pcids_without m pcids ∙ f.pcids_long;
            counts = λ yes. rw (kinds_here, tags_here) (dropping_in (f.counts yes) next inside);
            kept = λ no. absurd (false≢true (sym no ∙ counting));
          }

      -- it is dropped, and nothing is counted
      pub filtering_uncounted : counting ≡ false → cells' ≡ cells → pcids' ≡ pcids
          → FilteringCounting t buffer counting cells₀ pcids₀ cells' pcids' (at + n) from' to' dropped' new'
      filtering_uncounted off kinds tags =
          record {
            filtering = on;
            cells_long = ap length kinds ∙ f.cells_long;
            pcids_long = ap length tags ∙ f.pcids_long;
            counts = λ yes. absurd (false≢true (sym off ∙ yes));
            kept = λ no. let same = f.kept no in (kinds ∙ same.0, tags ∙ same.1);
          }
