-- What is left of counts by PCID when records are struck off: nothing, exactly if the counts are those of the records.
use Prim.Native.Nat.{ℕ, zero, suc, ◌+◌, ◌<◌, ◌≤◌}
use Rattle.std.specs.Prelude.{Bool, true, false, ◌&&◌, List, [], ◌∷◌, ◌≡◌, refl, eqb, length, get_or, drop}
use Rattle.std.proofs.Math.Bool.{and-true, and_assoc}
use Rattle.std.proofs.Common.{ap₂, eqb-true, eq-eqb, ne_eqb, drop_of_length-le, drop-cons}
use native.Mathlib.Omega.{arith}
use Rattle.std.proofs.lemmas.Bool.{eqb-false}
use Rattle.std.specs.Int.Bits.{bit_or, or_add_and}
use Rattle.std.proofs.lemmas.Nat.{and_le_l, and_le_r}
use Rattle.model.specs.Tables.{count}
use Rattle.laws.specs.Tables.{count_le}
use Rattle.tallies.specs.Tallies.{tabulate, of_pcid, pcid_counts, wrapped_less, pcids_left, PcidCounts}
use Rattle.tallies.proofs.Laws.Struck.{wrapped_less_eqb}
use Rattle.tally_rows.specs.Rows.{same, none_left}

-- the bits of two numbers together are 0 exactly if both numbers are
or_eqb : (a b : ℕ) → eqb (bit_or a b) 0 ≡ (eqb a 0 && eqb b 0)
or_eqb a b = go (eqb a 0) (eqb b 0) refl refl
  where
    go : (p q : Bool) → eqb a 0 ≡ p → eqb b 0 ≡ q → eqb (bit_or a b) 0 ≡ (p && q)
    go true true e f = eq-eqb (bit_or a b) 0 (omega (arith, or_add_and a b, eqb-true a 0 e, eqb-true b 0 f))
    go true false e f = ne_eqb (bit_or a b) 0 (λ none. eqb-false b 0 f (omega (arith, none, or_add_and a b, and_le_l a b)))
    go false q e f = ne_eqb (bit_or a b) 0 (λ none. eqb-false a 0 e (omega (arith, none, or_add_and a b, and_le_r a b)))

-- counts looked at one after the other: the rest decides, where the bits of those before together are 0
pub looked_next : (left : List ℕ) (at all : ℕ) → at < length left
    → (eqb (bit_or all (get_or left at 0)) 0 && none_left (drop (at + 1) left)) ≡ (eqb all 0 && none_left (drop at left))
unfolding none_left
looked_next left at all within =
    let one : at + 1 ≡ suc at = omega arith in
    rw (one, or_eqb, and_assoc, drop-cons left at 0 within)

pub looked_end : (left : List ℕ) (at all : ℕ) → length left ≤ at → (eqb all 0 && none_left (drop at left)) ≡ eqb all 0
unfolding none_left
looked_end left at all end = rw (drop_of_length-le left end, and-true)

-- what the test that none is left rests on
pub ruleset looked = (looked_next, looked_end)

-- ---- counts of 16 bits, and no more records than such a count can have

none_left_tabulate : (n : ℕ) (xs : List ℕ) (f : ℕ → ℕ) → length xs ≡ n → ((i : ℕ) → get_or xs i 0 < 65536) → ((i : ℕ) → f i < 65536)
    → none_left (tabulate n (λ i. wrapped_less (get_or xs i 0) (f i))) ≡ same xs (tabulate n f)
unfolding tabulate none_left same
none_left_tabulate zero [] f long small few = refl
none_left_tabulate zero (x ∷ xs) f long small few = absurd (omega (arith, long))
none_left_tabulate (suc n) [] f long small few = absurd (omega (arith, long))
none_left_tabulate (suc n) (x ∷ xs) f long small few =
    ap₂ ◌&&◌ (wrapped_less_eqb x (f 0) (small 0) (few 0)) (none_left_tabulate n xs (λ i. f (suc i)) (omega (arith, long)) (λ i. small (suc i)) (λ i. few (suc i)))

pub none_left_same : {pcids : List ℕ} (rs : List (List ℕ)) → PcidCounts pcids → length rs < 65536 → none_left (pcids_left pcids rs) ≡ same pcids (pcid_counts rs)
unfolding pcids_left pcid_counts
none_left_same {pcids} rs counts few =
    none_left_tabulate 4096 pcids (λ pcid. count (of_pcid pcid) rs) counts.long counts.small (λ i. omega (arith, few, count_le (of_pcid i) rs))
