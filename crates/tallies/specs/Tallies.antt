-- Document 02, Ask 7: "Keep a count of records for each of six kinds by four spans, and a count for each of the 4,096
-- PCIDs over kinds 1, 3, 4 and 6". Ask 12: "Tally spans run to 4"; the new kinds are counted "in the same six rows".
use Rattle.std.specs.Prelude.{◌≡◌, ℕ, zero, suc, ◌+◌, ◌-◌, ◌*◌, ◌%◌, ◌<◌, ◌≤◌, Bool, true, false, cond, not, ◌&&◌, List, [], ◌∷◌, length, ◌==◌, nat_eq, slice_index, slice_index_or, slice_set}
use Rattle.model.specs.declared.Mapping.{Mapping}
use Rattle.model.specs.Mappings.{mapping, Held, linear, guest_physical, structure_cache}
use Rattle.model.specs.Tables.{count}

-- the values of a function at 0 up to, and not at, a number
unfoldable pub tabulate : {A : Type 0} → ℕ → (ℕ → A) → List A
tabulate zero f = []
tabulate (suc n) f = f 0 ∷ tabulate n (λ i. f (suc i))

-- the row of a kind: kinds 1 to 6 are rows 0 to 5, and kinds 7 to 10 have the rows of their 48-bit siblings
unfoldable pub row_of : ℕ → ℕ
row_of kind = cond (linear kind) 0 (cond (guest_physical kind) 1 2) + cond (structure_cache kind) 3 0

-- a record is counted under a PCID; a global one under its own
unfoldable pub of_pcid : ℕ → List ℕ → Bool
of_pcid pcid r = not (guest_physical (mapping r).kind) && (mapping r).pcid == pcid

unfoldable pub pcid_counts : List (List ℕ) → List ℕ
pcid_counts rs = tabulate 4096 (λ pcid. count (of_pcid pcid) rs)

-- the cell of a record among the thirty counts of rows and spans, row by row
unfoldable pub cell_of : Mapping → ℕ
cell_of m = 5 * row_of m.kind + m.span

-- the thirty counts of some records
unfoldable pub cell_counts : List (List ℕ) → List ℕ
cell_counts rs = tabulate 30 (λ cell. count (λ r. nat_eq (cell_of (mapping r)) cell) rs)

-- so many more, or less, at a place
unfoldable pub raised_by : ℕ → ℕ → List ℕ → List ℕ
raised_by at n counts = slice_set counts at (slice_index counts at + n)

unfoldable pub lowered_by : ℕ → ℕ → List ℕ → List ℕ
lowered_by at n counts = slice_set counts at (slice_index counts at - n)

-- one more, or one less
abbrev pub raised : ℕ → List ℕ → List ℕ
raised at counts = raised_by at 1 counts

abbrev pub lowered : ℕ → List ℕ → List ℕ
lowered at counts = lowered_by at 1 counts

-- so many less than a count of 16 bits, which wraps; and so many less at a place
unfoldable pub wrapped_less : ℕ → ℕ → ℕ
wrapped_less a n = (a + 65535 * n) % 65536

unfoldable pub struck_by : ℕ → ℕ → List ℕ → List ℕ
struck_by at n counts = slice_set counts at (wrapped_less (slice_index counts at) n)

-- how often a record of a kind is counted by PCID
unfoldable pub by_pcid : ℕ → ℕ
by_pcid kind = cond (guest_physical kind) 0 1

-- the counts with one record more, or one less
unfoldable pub cells_with : Mapping → List ℕ → List ℕ
cells_with m cells = raised (cell_of m) cells

unfoldable pub cells_without : Mapping → List ℕ → List ℕ
cells_without m cells = lowered (cell_of m) cells

unfoldable pub pcids_with : Mapping → List ℕ → List ℕ
pcids_with m pcids = cond (guest_physical m.kind) pcids (raised m.pcid pcids)

unfoldable pub pcids_without : Mapping → List ℕ → List ℕ
pcids_without m pcids = cond (guest_physical m.kind) pcids (lowered m.pcid pcids)

-- the counts by PCID with one record struck off, and what is left of them when some records are
unfoldable pub pcids_struck : Mapping → List ℕ → List ℕ
pcids_struck m pcids = struck_by m.pcid (by_pcid m.kind) pcids

unfoldable pub pcids_left : List ℕ → List (List ℕ) → List ℕ
pcids_left pcids rs = tabulate 4096 (λ pcid. wrapped_less (slice_index pcids pcid) (count (of_pcid pcid) rs))

-- how many were struck off counts that were 0, by what is left of them
unfoldable pub struck_off : List ℕ → List ℕ
struck_off left = tabulate (length left) (λ i. wrapped_less 0 (slice_index left i))

-- the thirty counts, and those by PCID, are those of some records
pub record Tallied (rs : List (List ℕ)) (xs ys : List ℕ) : Type 0 where
  pub cells : xs ≡ cell_counts rs
  pub pcids : ys ≡ pcid_counts rs

-- so they are where records are counted, and else they stay
pub record Carries (counting : Bool) (rs : List (List ℕ)) (cells pcids cells' pcids' : List ℕ) : Type 0 where
  pub counted : counting ≡ true → Tallied rs cells' pcids'
  pub kept : counting ≡ false → (cells' ≡ cells) × (pcids' ≡ pcids)

-- a count of 16 bits for each of the 4,096 PCIDs
pub record PcidCounts (pcids : List ℕ) : Type 0 where
  pub long : length pcids ≡ 4096
  pub small : (i : ℕ) → slice_index pcids i < 65536

-- the thirty counts are those of some records, and the counts by PCID what is left of given ones when these are struck off
pub record Struck (pcids : List ℕ) (rs : List (List ℕ)) (xs ys : List ℕ) : Type 0 where
  pub cells : xs ≡ cell_counts rs
  pub left : ys ≡ pcids_left pcids rs

-- a held record can be counted by kind and span, where the count is not at the end of its type, and struck off by PCID
pub record Strikable (part cells pcids : List ℕ) : Type 0 where
  pub held : Held part
  pub long : length cells ≡ 30
  pub place : cell_of (mapping part) < 30
  pub few : slice_index_or cells (cell_of (mapping part)) 0 < 65535
  pub pcids_long : length pcids ≡ 4096
  pub pcid_place : (mapping part).pcid < length pcids

-- it can be counted by PCID too, where the count is not at the end of its type either
pub record Countable (part cells pcids : List ℕ) : Type 0 where
  pub strikable : Strikable part cells pcids
  pub pcid_few : slice_index_or pcids (mapping part).pcid 0 < 65535

-- a held record is counted
pub record Counted (part cells pcids : List ℕ) : Type 0 where
  pub held : Held part
  pub long : length cells ≡ 30
  pub place : cell_of (mapping part) < 30
  pub some : 0 < slice_index cells (cell_of (mapping part))
  pub pcid_place : (mapping part).pcid < length pcids
  pub pcid_some : by_pcid (mapping part).kind ≤ slice_index pcids (mapping part).pcid
