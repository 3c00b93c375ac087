-- Records struck off counts by PCID: what is left, and what that tells.
use Rattle.std.specs.Prelude.{◌≡◌, ℕ, zero, suc, ◌+◌, ◌-◌, ◌%◌, ◌<◌, Bool, true, false, cond, not, ◌&&◌, List, [], ◌∷◌, ◌++◌, length, replicate, ◌==◌, slice_index, slice_set}
use Rattle.std.proofs.Math.Bool.{and-false}
use Rattle.std.proofs.Math.Path.{refl, sym, ap}
use Rattle.std.proofs.Common.{◌∙◌, arith, eqb-true, eq-eqb, ne_eqb, length-set, ext_get_or}
use Rattle.std.proofs.lemmas.Bool.{eqb-false}
use Rattle.std.proofs.lemmas.List.{length-replicate, set-get_or}
use Rattle.model.specs.declared.Mapping.{Mapping}
use Rattle.model.specs.Mappings.{mapping, guest_physical, starts_record}
use Rattle.model.specs.Tables.{count}
use Rattle.laws.specs.Tables.{count_nil, count_le}
use Rattle.tallies.specs.Tallies.{of_pcid, pcid_counts, by_pcid, wrapped_less, struck_by, struck_off, cells_with, pcids_struck, pcids_left, Tallied, PcidCounts, Struck, Strikable}
use Rattle.tallies.proofs.Laws.Lists.{length_tabulate, get_d_tabulate, tabulate_agree, set_tabulate}
use Rattle.tallies.proofs.Laws.Counts.{count_among}
use Rattle.tallies.proofs.Laws.Tallied.{held_known, by_pcid_once, cells_with_made, strikable, cell_counts_with, pcid_small, tallied_nil}

-- ---- so many less, wrapping

-- as the program has it
pub wrapped_less_made : (a n : ℕ) → n < 65536 → (a + (65536 - n)) % 65536 ≡ wrapped_less a n
unfolding wrapped_less
wrapped_less_made a n few = omega (arith, few)

wrapped_less_none : (a : ℕ) → a < 65536 → a ≡ wrapped_less a 0
unfolding wrapped_less
wrapped_less_none a small = omega (arith, small)

wrapped_less_again : (a m n : ℕ) → wrapped_less (wrapped_less a m) n ≡ wrapped_less a (n + m)
unfolding wrapped_less
wrapped_less_again a m n = omega arith

-- what is left of 0 tells how many were struck off
wrapped_less_back : (n : ℕ) → n < 65536 → wrapped_less 0 (wrapped_less 0 n) ≡ n
unfolding wrapped_less
wrapped_less_back n small = omega (arith, small)

-- nothing is left exactly where all were struck off
pub wrapped_less_eqb : (a n : ℕ) → a < 65536 → n < 65536 → (wrapped_less a n == 0) ≡ (a == n)
unfolding wrapped_less
wrapped_less_eqb a n small few = go (a == n) refl
  where
    go : (b : Bool) → (a == n) ≡ b → (wrapped_less a n == 0) ≡ b
    go true e = eq-eqb (wrapped_less a n) 0 (omega (arith, eqb-true a n e))
    go false e = ne_eqb (wrapped_less a n) 0 (λ none. eqb-false a n e (omega (arith, none, small, few)))

-- none less at a place leaves the counts
struck_by_none : {pcids : List ℕ} → PcidCounts pcids → (at : ℕ) → struck_by at 0 pcids ≡ pcids
unfolding struck_by
struck_by_none {pcids} counts at = ap (slice_set pcids at) (sym (wrapped_less_none (slice_index pcids at) (counts.small at))) ∙ set-get_or pcids at 0

-- so the place of a record that has no PCID may be any
pub struck_by_bytes : (m : Mapping) {pcids : List ℕ} (x : ℕ) → PcidCounts pcids → (guest_physical m.kind ≡ false → x ≡ m.pcid) → m.pcid < 4096
    → struck_by (x % 4096) (by_pcid m.kind) pcids ≡ pcids_struck m pcids
unfolding pcids_struck by_pcid
struck_by_bytes m {pcids} x counts has small = go (guest_physical m.kind) refl
  where
    go : (b : Bool) → guest_physical m.kind ≡ b → struck_by (x % 4096) (cond b 0 1) pcids ≡ struck_by m.pcid (cond b 0 1) pcids
    go true lacks = struck_by_none counts (x % 4096) ∙ sym (struck_by_none counts m.pcid)
    go false other = ap (λ (at : ℕ). struck_by at 1 pcids) (omega (arith, has other, small))

-- as the program has it
pub struck_made : (m : Mapping) (pcids : List ℕ) (x : ℕ) → length pcids ≡ 4096 → ((i : ℕ) → slice_index pcids i < 65536) → (guest_physical m.kind ≡ false → x ≡ m.pcid) → m.pcid < length pcids
    → slice_set pcids (x % 4096) ((slice_index pcids (x % 4096) + (65536 - by_pcid m.kind)) % 65536) ≡ pcids_struck m pcids
unfolding struck_by
struck_made m pcids x long small has place =
    ap (slice_set pcids (x % 4096)) (wrapped_less_made _ _ (omega (arith, by_pcid_once m.kind)))
    ∙ struck_by_bytes m x (record { long = long; small = small }) has (omega arith)

-- what striking a record off rests on
pub ruleset struck_places = (held_known, cells_with_made, struck_made)

-- ---- lists keep their lengths

pub length_pcids_struck : (m : Mapping) (pcids : List ℕ) → length (pcids_struck m pcids) ≡ length pcids
unfolding pcids_struck struck_by
length_pcids_struck m pcids = length-set pcids m.pcid _

pub length_struck : {pcids : List ℕ} {rs : List (List ℕ)} {cells left : List ℕ} → Struck pcids rs cells left → length left ≡ 4096
unfolding pcids_left
length_struck s = ap length s.left ∙ length_tabulate 4096 _

-- ---- no record

pub struck_nil : {pcids : List ℕ} → PcidCounts pcids → Struck pcids [] (replicate 30 0) pcids
unfolding pcids_left
struck_nil {pcids} counts =
    record {
      cells = tallied_nil.cells;
      left =
          ext_get_or 0 pcids (pcids_left pcids []) (counts.long ∙ sym (length_tabulate 4096 _))
          (λ i h. wrapped_less_none (slice_index pcids i) (counts.small i)
          ∙ ap (wrapped_less (slice_index pcids i)) (sym (count_nil (of_pcid i)))
          ∙ sym (get_d_tabulate 4096 (λ pcid. wrapped_less (slice_index pcids pcid) (count (of_pcid pcid) [])) i 0 (omega (arith, h, counts.long))));
    }

getD_zeros : (n i : ℕ) → ◌≡◌ {A = ℕ} (slice_index (replicate n 0) i) 0
getD_zeros zero i = refl
getD_zeros (suc n) zero = refl
getD_zeros (suc n) (suc i) = getD_zeros n i

pub no_pcid_counts : PcidCounts (replicate 4096 0)
no_pcid_counts = record { long = length-replicate {A = ℕ} 4096 0; small = λ i. omega (arith, getD_zeros 4096 i) }

-- ---- one record among the others

module _ (pcids : List ℕ) (rs ss : List (List ℕ)) (r : List ℕ) (start : starts_record r ≡ true) where
  own : cond (of_pcid (mapping r).pcid r) 1 0 ≡ by_pcid (mapping r).kind
  unfolding of_pcid by_pcid
  own = rw (eq-eqb (mapping r).pcid (mapping r).pcid refl) (go (guest_physical (mapping r).kind))
    where
      go : (b : Bool) → ◌≡◌ {A = ℕ} (cond (not b && true) 1 0) (cond b 0 1)
      go true = refl
      go false = refl

  away : (i : ℕ) → ((mapping r).pcid == i) ≡ false → of_pcid i r ≡ false
  unfolding of_pcid
  away i e = rw (e, and-false)

  other : (i : ℕ) → ((mapping r).pcid == i) ≡ false → count (of_pcid i) (rs ++ ss) ≡ count (of_pcid i) (rs ++ r ∷ ss)
  other i e = omega (arith, rw (away i e) at (count_among (of_pcid i) rs ss r))

  pcids_left_with : pcids_left pcids (rs ++ r ∷ ss) ≡ pcids_struck (mapping r) (pcids_left pcids (rs ++ ss))
  unfolding pcids_left pcids_struck struck_by
  pcids_left_with =
      let at = (mapping r).pcid in
      let here = get_d_tabulate 4096 (λ pcid. wrapped_less (slice_index pcids pcid) (count (of_pcid pcid) (rs ++ ss))) at 0 (pcid_small rs ss r start) in
      sym (set_tabulate 4096 (λ pcid. wrapped_less (slice_index pcids pcid) (count (of_pcid pcid) (rs ++ ss))) (λ pcid. wrapped_less (slice_index pcids pcid) (count (of_pcid pcid) (rs ++ r ∷ ss)))
      at _ (pcid_small rs ss r start)
      (ap (λ (n : ℕ). wrapped_less n (by_pcid (mapping r).kind)) here
      ∙ wrapped_less_again (slice_index pcids at) (count (of_pcid at) (rs ++ ss)) (by_pcid (mapping r).kind)
      ∙ ap (wrapped_less (slice_index pcids at)) (sym (count_among (of_pcid at) rs ss r ∙ ap (λ (n : ℕ). n + count (of_pcid at) (rs ++ ss)) own)))
      (λ i e. ap (wrapped_less (slice_index pcids i)) (other i e)))

  module _ {cells left : List ℕ} (s : Struck pcids (rs ++ ss) cells left) where
    pub struck_with : Struck pcids (rs ++ r ∷ ss) (cells_with (mapping r) cells) (pcids_struck (mapping r) left)
    struck_with =
        record {
          cells = ap (cells_with (mapping r)) s.cells ∙ sym (cell_counts_with rs ss r start);
          left = ap (pcids_struck (mapping r)) s.left ∙ sym pcids_left_with;
        }

    -- it can be struck off where there are not too many
    pub struck_strikable : length (rs ++ ss) < 65535 → Strikable r cells left
    struck_strikable few = strikable rs ss r start s.cells (length_struck s) few

-- ---- all records, struck off counts of 0

pub struck_tallied : {rs : List (List ℕ)} {cells left : List ℕ} → length rs < 65536 → Struck (replicate 4096 0) rs cells left → Tallied rs cells (struck_off left)
unfolding struck_off pcids_left pcid_counts
struck_tallied {rs} {cells} {left} few s =
    record {
      cells = s.cells;
      pcids =
          rw (length_struck s)
          (tabulate_agree 4096 (λ i. wrapped_less 0 (slice_index left i)) (λ pcid. count (of_pcid pcid) rs)
          (λ i h. ap (λ (xs : List ℕ). wrapped_less 0 (slice_index xs i)) s.left
          ∙ ap (wrapped_less 0) (get_d_tabulate 4096 (λ pcid. wrapped_less (slice_index (replicate 4096 0) pcid) (count (of_pcid pcid) rs)) i 0 h)
          ∙ ap (λ (n : ℕ). wrapped_less 0 (wrapped_less n (count (of_pcid i) rs))) (getD_zeros 4096 i)
          ∙ wrapped_less_back (count (of_pcid i) rs) (omega (arith, few, count_le (of_pcid i) rs))));
    }

-- ---- how many were struck off, written

pub struck_off_written : (left to : List ℕ) → length left ≡ length to → ((i : ℕ) → i < length to → slice_index to i ≡ wrapped_less 0 (slice_index left i)) → to ≡ struck_off left
unfolding struck_off
struck_off_written left to long written =
    ext_get_or 0 to _ (sym long ∙ sym (length_tabulate (length left) _))
    (λ i h. written i h ∙ sym (get_d_tabulate (length left) (λ i. wrapped_less 0 (slice_index left i)) i 0 (omega (arith, h, long))))

-- what the writing rests on
pub ruleset written = (wrapped_less_made, struck_off_written)
