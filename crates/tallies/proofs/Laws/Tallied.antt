-- The counts of some records: of none, with one record more, and with one less.
use Rattle.std.specs.Prelude.{◌≡◌, ℕ, ◌+◌, ◌-◌, ◌<◌, ◌≤◌, Bool, true, false, cond, List, [], ◌∷◌, ◌++◌, length, set, replicate, ◌==◌, nat_eq, nat_le, nat_lt, slice_index, slice_index_or, slice_set}
use Rattle.std.proofs.Math.Bool.{and-eq-true_iff}
use Rattle.std.proofs.Math.Path.{refl, sym, ap}
use Rattle.std.proofs.Common.{◌∙◌, leb-true, ltb-true, length-set, get_or-set_same}
use native.Mathlib.Omega.{arith}
use Rattle.std.proofs.lemmas.List.{set-get_or}
use Rattle.model.specs.declared.Mapping.{Mapping}
use Rattle.model.specs.Context.{pcid_in_range}
use Rattle.model.specs.Layouts.{mapping_kind}
use Rattle.model.specs.Mappings.{mapping, Held, linear, guest_physical, structure_cache, span_in_range, page_in_range, fields_in_range, starts_record}
use Rattle.model.specs.Tables.{count}
use Rattle.laws.specs.Layouts.{of_mapping_kind}
use Rattle.laws.specs.Tables.{count_nil}
use Rattle.laws.specs.Mappings.{Starts, starts_parts, span_in_range_le}
use Rattle.tallies.specs.Tallies.{row_of, cell_of, of_pcid, cell_counts, pcid_counts, raised, lowered, raised_by, lowered_by, by_pcid, cells_with, cells_without, pcids_with, pcids_without, Tallied, Strikable, Countable, Counted}
use Rattle.tallies.proofs.Laws.Lists.{length_tabulate, tabulate_constant}
use Rattle.tallies.proofs.Laws.Counts.{counts_raised, counts_lowered, counts_same, counted_some, counts_few}

-- ---- the places of a valid record

row_below : (k : ℕ) → mapping_kind k ≡ true → row_of k < 6
unfolding row_of linear guest_physical structure_cache
row_below k known = ltb-true (row_of k) 6 (of_mapping_kind (λ k. nat_lt (row_of k) 6) refl k known)

module _ (m : Mapping) (fields : fields_in_range m ≡ true) where
  parts : (pcid_in_range m.pcid ≡ true) × (span_in_range m.kind m.span ≡ true)
  unfolding fields_in_range
  parts =
      let three = (and-eq-true_iff _ (page_in_range m.kind m.span m.page)).0 fields in
      let two = (and-eq-true_iff _ (span_in_range m.kind m.span)).0 three.0 in
      let one = (and-eq-true_iff (nat_le m.global 1) (pcid_in_range m.pcid)).0 two.0 in
      (one.1, two.1)

  pub pcid_below : m.pcid < 4096
  pcid_below = omega (arith, leb-true m.pcid 4095 parts.0)

  pub span_below : m.span < 5
  span_below = omega (arith, span_in_range_le m.kind m.span parts.1)

  pub cell_below : mapping_kind m.kind ≡ true → cell_of m < 30
  unfolding cell_of
  cell_below known = omega (arith, row_below m.kind known, span_below)

-- ---- lists of counts keep their lengths

length_pcids : (b : Bool) (pcids : List ℕ) (at v : ℕ) → length (cond b pcids (slice_set pcids at v)) ≡ length pcids
length_pcids true pcids at v = refl
length_pcids false pcids at v = length-set pcids at v

pub length_cells_with : (m : Mapping) (cells : List ℕ) → length (cells_with m cells) ≡ length cells
unfolding cells_with raised_by
length_cells_with m cells = length-set cells (cell_of m) _

pub length_cells_without : (m : Mapping) (cells : List ℕ) → length (cells_without m cells) ≡ length cells
unfolding cells_without lowered_by
length_cells_without m cells = length-set cells (cell_of m) _

pub length_pcids_without : (m : Mapping) (pcids : List ℕ) → length (pcids_without m pcids) ≡ length pcids
unfolding pcids_without lowered_by
length_pcids_without m pcids = length_pcids (guest_physical m.kind) pcids m.pcid _

-- what `Countable` is for: a record that can be counted leaves counts of 16 bits, with its own one more
module _ (part cells pcids : List ℕ) (h : Countable part cells pcids) where
  pub cells_with_fits : slice_index_or (cells_with (mapping part) cells) (cell_of (mapping part)) 0 < 65536
  unfolding cells_with raised_by
  cells_with_fits = rw (get_or-set_same cells (cell_of (mapping part)) (slice_index cells (cell_of (mapping part)) + 1) 0 (omega (arith, h.strikable.long, h.strikable.place))) (omega (arith, h.strikable.few))

  pub pcids_with_fits : slice_index_or (raised (mapping part).pcid pcids) (mapping part).pcid 0 < 65536
  unfolding raised_by
  pcids_with_fits = rw (get_or-set_same pcids (mapping part).pcid (slice_index pcids (mapping part).pcid + 1) 0 h.strikable.pcid_place) (omega (arith, h.pcid_few))

-- ---- one record more, or one less, as the program has it: by its PCID with no test of its kind

pub by_pcid_once : (kind : ℕ) → by_pcid kind ≤ 1
unfolding by_pcid
by_pcid_once kind = go (guest_physical kind)
  where
    go : (b : Bool) → cond b 0 1 ≤ 1
    go true = omega arith
    go false = omega arith

pub cells_with_made : (m : Mapping) (cells : List ℕ) → slice_set cells (cell_of m) (slice_index cells (cell_of m) + 1) ≡ cells_with m cells
unfolding cells_with raised_by
cells_with_made m cells = refl

pub cells_without_made : (m : Mapping) (cells : List ℕ) → slice_set cells (cell_of m) (slice_index cells (cell_of m) - 1) ≡ cells_without m cells
unfolding cells_without lowered_by
cells_without_made m cells = refl

pub pcids_with_made : (m : Mapping) (pcids : List ℕ) → slice_set pcids m.pcid (slice_index pcids m.pcid + by_pcid m.kind) ≡ pcids_with m pcids
unfolding pcids_with raised_by by_pcid
pcids_with_made m pcids = go (guest_physical m.kind)
  where
    go : (b : Bool) → slice_set pcids m.pcid (slice_index pcids m.pcid + cond b 0 1) ≡ cond b pcids (slice_set pcids m.pcid (slice_index pcids m.pcid + 1))
    go true = ap (set pcids m.pcid) (omega arith) ∙ set-get_or pcids m.pcid 0
    go false = refl

pub pcids_without_made : (m : Mapping) (pcids : List ℕ) → slice_set pcids m.pcid (slice_index pcids m.pcid - by_pcid m.kind) ≡ pcids_without m pcids
unfolding pcids_without lowered_by by_pcid
pcids_without_made m pcids = go (guest_physical m.kind)
  where
    go : (b : Bool) → slice_set pcids m.pcid (slice_index pcids m.pcid - cond b 0 1) ≡ cond b pcids (slice_set pcids m.pcid (slice_index pcids m.pcid - 1))
    go true = ap (set pcids m.pcid) (omega arith) ∙ set-get_or pcids m.pcid 0
    go false = refl

-- the kind of a held record is a mapping's
pub held_known : (r : List ℕ) → Held r → mapping_kind (mapping r).kind ≡ true
unfolding mapping
held_known r held = held.known

-- what the counting of a record rests on
pub ruleset places = (held_known, by_pcid_once, cells_with_made, cells_without_made, pcids_with_made, pcids_without_made)

-- ---- no record

pub tallied_nil : Tallied [] (replicate 30 0) (replicate 4096 0)
unfolding cell_counts pcid_counts
tallied_nil =
    record {
      cells = sym (tabulate_constant 30 _ 0 (λ i. count_nil _));
      pcids = sym (tabulate_constant 4096 _ 0 (λ i. count_nil _));
    }

-- ---- the counts are as many as there are cells and PCIDs

pub length_tallied : {rs : List (List ℕ)} {cells pcids : List ℕ} → Tallied rs cells pcids → (length cells ≡ 30) × (length pcids ≡ 4096)
unfolding cell_counts pcid_counts
length_tallied t = (ap length t.cells ∙ length_tabulate 30 _, ap length t.pcids ∙ length_tabulate 4096 _)

-- ---- one record among the others

module _ (rs ss : List (List ℕ)) (r : List ℕ) (start : starts_record r ≡ true) where
  starts : Starts r
  starts = starts_parts r start

  known : mapping_kind (mapping r).kind ≡ true
  unfolding mapping
  known = starts.held.known

  cell_small : cell_of (mapping r) < 30
  cell_small = cell_below (mapping r) starts.fields known

  -- where it is counted under its PCID
  under : guest_physical (mapping r).kind ≡ false → (i : ℕ) → of_pcid i r ≡ ((mapping r).pcid == i)
  unfolding of_pcid
  under other i = rw other

  nowhere : guest_physical (mapping r).kind ≡ true → (i : ℕ) → of_pcid i r ≡ false
  unfolding of_pcid
  nowhere physical i = rw physical

  pub cell_counts_with : cell_counts (rs ++ r ∷ ss) ≡ cells_with (mapping r) (cell_counts (rs ++ ss))
  unfolding cell_counts cells_with
  cell_counts_with = counts_raised 30 (λ cell r. nat_eq (cell_of (mapping r)) cell) rs ss r (cell_of (mapping r)) cell_small (λ i. refl)

  cell_counts_without : cell_counts (rs ++ ss) ≡ cells_without (mapping r) (cell_counts (rs ++ r ∷ ss))
  unfolding cell_counts cells_without
  cell_counts_without = counts_lowered 30 (λ cell r. nat_eq (cell_of (mapping r)) cell) rs ss r (cell_of (mapping r)) cell_small (λ i. refl)

  pub pcid_small : (mapping r).pcid < 4096
  pcid_small = pcid_below (mapping r) starts.fields

  pcid_counts_with : pcid_counts (rs ++ r ∷ ss) ≡ pcids_with (mapping r) (pcid_counts (rs ++ ss))
  unfolding pcid_counts pcids_with
  pcid_counts_with = go (guest_physical (mapping r).kind) refl
    where
      go : (b : Bool) → guest_physical (mapping r).kind ≡ b → pcid_counts (rs ++ r ∷ ss) ≡ cond b (pcid_counts (rs ++ ss)) (raised (mapping r).pcid (pcid_counts (rs ++ ss)))
      go true physical = counts_same 4096 of_pcid rs ss r (nowhere physical)
      go false other = counts_raised 4096 of_pcid rs ss r (mapping r).pcid pcid_small (under other)

  pcid_counts_without : pcid_counts (rs ++ ss) ≡ pcids_without (mapping r) (pcid_counts (rs ++ r ∷ ss))
  unfolding pcid_counts pcids_without
  pcid_counts_without = go (guest_physical (mapping r).kind) refl
    where
      go : (b : Bool) → guest_physical (mapping r).kind ≡ b → pcid_counts (rs ++ ss) ≡ cond b (pcid_counts (rs ++ r ∷ ss)) (lowered (mapping r).pcid (pcid_counts (rs ++ r ∷ ss)))
      go true physical = sym (counts_same 4096 of_pcid rs ss r (nowhere physical))
      go false other = counts_lowered 4096 of_pcid rs ss r (mapping r).pcid pcid_small (under other)

  counted_by_pcid : by_pcid (mapping r).kind ≤ slice_index (pcid_counts (rs ++ r ∷ ss)) (mapping r).pcid
  unfolding by_pcid pcid_counts
  counted_by_pcid = go (guest_physical (mapping r).kind) refl
    where
      go : (b : Bool) → guest_physical (mapping r).kind ≡ b → cond b 0 1 ≤ slice_index (pcid_counts (rs ++ r ∷ ss)) (mapping r).pcid
      go true physical = omega arith
      go false other = omega (arith, counted_some 4096 of_pcid rs ss r (mapping r).pcid pcid_small (under other))

  module _ {cells pcids : List ℕ} where
    pub strikable : cells ≡ cell_counts (rs ++ ss) → length pcids ≡ 4096 → length (rs ++ ss) < 65535 → Strikable r cells pcids
    unfolding cell_counts
    strikable is long few =
        record {
          held = starts.held;
          long = ap length is ∙ length_tabulate 30 _;
          place = cell_small;
          few = rw is (omega (arith, few, counts_few 30 (λ cell r. nat_eq (cell_of (mapping r)) cell) (rs ++ ss) (cell_of (mapping r)) cell_small));
          pcids_long = long;
          pcid_place = omega (arith, long, pcid_small);
        }

    pub tallied_with : Tallied (rs ++ ss) cells pcids → Tallied (rs ++ r ∷ ss) (cells_with (mapping r) cells) (pcids_with (mapping r) pcids)
    tallied_with t =
        record {
          cells = ap (cells_with (mapping r)) t.cells ∙ sym cell_counts_with;
          pcids = ap (pcids_with (mapping r)) t.pcids ∙ sym pcid_counts_with;
        }

    pub tallied_without : Tallied (rs ++ r ∷ ss) cells pcids → Tallied (rs ++ ss) (cells_without (mapping r) cells) (pcids_without (mapping r) pcids)
    tallied_without t =
        record {
          cells = ap (cells_without (mapping r)) t.cells ∙ sym cell_counts_without;
          pcids = ap (pcids_without (mapping r)) t.pcids ∙ sym pcid_counts_without;
        }

    -- it can be counted where there are not too many, and is counted where it stands among them
    pub tallied_countable : Tallied (rs ++ ss) cells pcids → length (rs ++ ss) < 65535 → Countable r cells pcids
    unfolding cell_counts pcid_counts
    tallied_countable t few =
        record {
          strikable = strikable t.cells (ap length t.pcids ∙ length_tabulate 4096 _) few;
          pcid_few = rw t.pcids (omega (arith, few, counts_few 4096 of_pcid (rs ++ ss) (mapping r).pcid pcid_small));
        }

    pub tallied_counted : Tallied (rs ++ r ∷ ss) cells pcids → Counted r cells pcids
    unfolding cell_counts pcid_counts
    tallied_counted t =
        record {
          held = starts.held;
          long = ap length t.cells ∙ length_tabulate 30 _;
          place = cell_small;
          some = rw t.cells (counted_some 30 (λ cell r. nat_eq (cell_of (mapping r)) cell) rs ss r (cell_of (mapping r)) cell_small (λ i. refl));
          pcid_place = omega (arith, ap length t.pcids, length_tabulate 4096 (λ pcid. count (of_pcid pcid) (rs ++ r ∷ ss)), pcid_small);
          pcid_some = rw t.pcids counted_by_pcid;
        }
