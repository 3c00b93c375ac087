-- The kinds of mappings, and fields: each lies within its record or event, so the bytes behind that
-- do not matter.
use Rattle.std.specs.Prelude.{ℕ, zero, suc, ◌+◌, ◌*◌, ◌≤◌, ◌<◌, ◌≡◌, refl, Bool, true, false, cond, not, ◌&&◌, ◌||◌, List, [], ◌∷◌, ◌++◌, map, eqb, leb, ltb}
use Rattle.std.proofs.Common.{sym, ap, ap₂, subst, arith, eqb-true, leb-true, ltb-true, lit<}
use Rattle.std.proofs.Math.Bool.{and-eq-true_iff}
use Rattle.std.proofs.lemmas.Bool.{false≢true, eqb-false}
use Rattle.model.specs.Bits.{bit, number}
use Rattle.model.specs.Layouts.{Field, Body, Row, field_number, mapping_kinds, mapping_bodies, other_event_kinds, bytes_of, offset_in, width_in, row_test, known_in, kind_of, mapping_kind, event_kind, body_of, length_of, field}
use Rattle.laws.specs.Lists.{Agree}

-- one row of a table that is read by a number: the number is the row's, or the rows after it have it
pub row_cases : (P : ℕ → Type 0) (n k : ℕ) (here rest : Bool) → P n → (rest ≡ true → P k) → cond (eqb k n) here rest ≡ true → P k
row_cases P n k here rest p q = go (eqb k n) refl
  where
    go : (b : Bool) → eqb k n ≡ b → cond b here rest ≡ true → P k
    go true e h = subst P (sym (eqb-true k n e)) p
    go false e h = q h

-- ---- a test computed at each row of a table

-- the test holds of the kind of each row
abbrev pub at_rows : (ℕ → Bool) → List (ℕ × Body) → Bool
at_rows test [] = true
at_rows test (row ∷ rows) = test row.0 && at_rows test rows

-- then it holds of each kind that has a row
pub at_rows_known : (test : ℕ → Bool) (rows : List (ℕ × Body)) → at_rows test rows ≡ true → (k : ℕ) → known_in rows k ≡ true → test k ≡ true
at_rows_known test [] all k = λ known. absurd (false≢true known)
at_rows_known test (row ∷ rows) all k =
    let both = (and-eq-true_iff (test row.0) (at_rows test rows)).0 all in
    row_cases (λ k. test k ≡ true) row.0 k true (known_in rows k) both.0 (at_rows_known test rows both.1 k)

pub of_mapping_kind : (test : ℕ → Bool) → at_rows test mapping_bodies ≡ true → (k : ℕ) → mapping_kind k ≡ true → test k ≡ true
unfolding mapping_kind
of_mapping_kind test = at_rows_known test mapping_bodies

pub of_event_kind : (test : ℕ → Bool) → at_rows test (mapping_bodies ++ other_event_kinds) ≡ true → (k : ℕ) → event_kind k ≡ true → test k ≡ true
unfolding event_kind
of_event_kind test = at_rows_known test (mapping_bodies ++ other_event_kinds)

-- a test that holds of a row holds of known kinds alone
pub row_test_known : (test : Row → Bool) (k : ℕ) → row_test test mapping_kinds k ≡ true → mapping_kind k ≡ true
unfolding mapping_kind
row_test_known test k = go mapping_kinds
  where
    go : (rows : List Row) → row_test test rows k ≡ true → known_in (map (λ row. (row.kind, row.body)) rows) k ≡ true
    go [] = λ holds. absurd (false≢true holds)
    go (row ∷ rows) = pass (eqb k row.kind) (go rows)
      where
        pass : (b : Bool) → (row_test test rows k ≡ true → known_in (map (λ row. (row.kind, row.body)) rows) k ≡ true)
            → cond b (test row) (row_test test rows k) ≡ true → cond b true (known_in (map (λ row. (row.kind, row.body)) rows) k) ≡ true
        pass true rest holds = refl
        pass false rest holds = rest holds

-- ---- a test computed at each number

-- the test holds of each number below n
abbrev pub below : (ℕ → Bool) → ℕ → Bool
below test zero = true
below test (suc n) = test n && below test n

pub below_at : (test : ℕ → Bool) (n : ℕ) → below test n ≡ true → (k : ℕ) → k < n → test k ≡ true
below_at test zero all k h = absurd (omega arith)
below_at test (suc n) all k h =
    let both = (and-eq-true_iff (test n) (below test n)).0 all in
    go (eqb k n) refl both.0 (below_at test n both.1 k)
  where
    go : (b : Bool) → eqb k n ≡ b → test n ≡ true → (k < n → test k ≡ true) → test k ≡ true
    go true e here rest = subst (λ (k : ℕ). test k ≡ true) (sym (eqb-true k n e)) here
    go false e here rest = rest (omega (arith, eqb-false k n e))

-- two tests that agree below n, and hold of no number from n on, are one
abbrev pub agrees : Bool → Bool → Bool
agrees true b = b
agrees false b = not b

pub agrees_true : (a b : Bool) → agrees a b ≡ true → a ≡ b
agrees_true true b e = sym e
agrees_true false true e = e
agrees_true false false e = refl

pub agrees_below : (f g : ℕ → Bool) (n : ℕ) → below (λ k. agrees (f k) (g k)) n ≡ true → ((k : ℕ) → f k ≡ true → k < n) → ((k : ℕ) → g k ≡ true → k < n) → (k : ℕ) → f k ≡ g k
agrees_below f g n all f_below g_below k = go (f k) (g k) refl refl
  where
    go : (a b : Bool) → f k ≡ a → g k ≡ b → a ≡ b
    go true true p q = refl
    go false false p q = refl
    go true false p q =
        absurd (false≢true (rw (p, q) at (below_at (λ k. agrees (f k) (g k)) n all k (f_below k p))))
    go false true p q =
        absurd (false≢true (rw (p, q) at (below_at (λ k. agrees (f k) (g k)) n all k (g_below k q))))

-- ---- the kinds of mappings

pub mapping_kind_below : (k : ℕ) → mapping_kind k ≡ true → k < 64
mapping_kind_below k known = ltb-true k 64 (of_mapping_kind (λ k. ltb k 64) refl k known)

-- tests that hold of numbers below 64 alone
abbrev pub Small : (ℕ → Bool) → Type 0
Small f = (k : ℕ) → f k ≡ true → k < 64

pub small_eqb : (n : ℕ) → n < 64 → Small (λ k. eqb k n)
small_eqb n h k is = omega (arith, eqb-true k n is)

pub small_range : (m n : ℕ) → n < 64 → Small (λ k. leb m k && leb k n)
small_range m n h k is = omega (arith, leb-true k n ((and-eq-true_iff (leb m k) (leb k n)).0 is).1)

pub small_or : (f g : ℕ → Bool) → Small f → Small g → Small (λ k. f k || g k)
small_or f g p q k = go (f k) refl
  where
    go : (b : Bool) → f k ≡ b → (b || g k) ≡ true → k < 64
    go true is h = p k is
    go false is h = q k h

-- a test of kinds is one by numbers if they agree below 64
pub by_test : (f g : ℕ → Bool) → ((k : ℕ) → f k ≡ true → mapping_kind k ≡ true) → Small g → below (λ k. agrees (f k) (g k)) 64 ≡ true → (k : ℕ) → f k ≡ g k
by_test f g known small all = agrees_below f g 64 all (λ k holds. mapping_kind_below k (known k holds)) small

-- they are those from 1 to 10
pub mapping_kind_range : (k : ℕ) → mapping_kind k ≡ (leb 1 k && leb k 10)
unfolding mapping_kind
mapping_kind_range = agrees_below mapping_kind (λ k. leb 1 k && leb k 10) 64 refl mapping_kind_below (small_range 1 10 (lit< tt))

pub mapping_kind_ge : (k : ℕ) → mapping_kind k ≡ true → 1 ≤ k
mapping_kind_ge k known = leb-true 1 k (of_mapping_kind (λ k. leb 1 k) refl k known)

pub mapping_kind_le : (k : ℕ) → mapping_kind k ≡ true → k ≤ 10
mapping_kind_le k known = leb-true k 10 (of_mapping_kind (λ k. leb k 10) refl k known)

-- a test of kinds as a set of bits: kind k's is bit k
abbrev pub in_set : ℕ → ℕ → Bool
in_set set k = ltb k 64 && bit k set

pub by_set : (f : ℕ → Bool) (set : ℕ) → ((k : ℕ) → f k ≡ true → mapping_kind k ≡ true) → below (λ k. agrees (f k) (in_set set k)) 64 ≡ true
    → (k : ℕ) → f k ≡ in_set set k
by_set f set known = by_test f (in_set set) known (λ k holds. ltb-true k 64 ((and-eq-true_iff (ltb k 64) (bit k set)).0 holds).0)

-- a record or event has a kind byte
pub length_of_positive : (kind : ℕ) → 0 < length_of kind
unfolding length_of
length_of_positive kind = omega arith

-- a mapping's record has at most 23 bytes
pub length_of_mapping_le : (kind : ℕ) → mapping_kind kind ≡ true → length_of kind ≤ 23
unfolding length_of body_of
length_of_mapping_le k known = leb-true (length_of k) 23 (of_mapping_kind (λ k. leb (length_of k) 23) refl k known)

-- a field of a body ends within it
pub field_within : (b : Body) (f : Field) → offset_in b f + width_in b f ≤ bytes_of b
field_within [] f = omega arith
field_within (g ∷ gs) f = go (eqb (field_number f) (field_number g.0)) (field_within gs f)
  where
    go : (same : Bool) → offset_in gs f + width_in gs f ≤ bytes_of gs
        → cond same 0 (g.1 + offset_in gs f) + cond same g.1 (width_in gs f) ≤ g.1 + bytes_of gs
    go true h = omega arith
    go false h = omega arith

-- kind k has the field, of w bytes at a place; kind k lacks it
abbrev pub has_field : Field → ℕ → ℕ → ℕ → Bool
has_field f w at k = eqb (width_in (body_of k) f) w && eqb (1 + offset_in (body_of k) f) at

abbrev pub lacks_field : Field → ℕ → Bool
lacks_field f k = eqb (width_in (body_of k) f) 0

pub field_has : (f : Field) (w at : ℕ) (r : List ℕ) → has_field f w at (kind_of r) ≡ true → field f r ≡ number w at r
unfolding field
field_has f w at r has =
    let both = (and-eq-true_iff (eqb (width_in (body_of (kind_of r)) f) w) (eqb (1 + offset_in (body_of (kind_of r)) f) at)).0 has in
    ap₂ (λ (w at : ℕ). number w at r) (eqb-true _ w both.0) (eqb-true _ at both.1)

pub field_lacks : (f : Field) (r : List ℕ) → lacks_field f (kind_of r) ≡ true → field f r ≡ 0
unfolding field
field_lacks f r lacks = ap (λ (w : ℕ). number w (1 + offset_in (body_of (kind_of r)) f) r) (eqb-true (width_in (body_of (kind_of r)) f) 0 lacks)

-- a field that the kinds of a test have at one place, and the others lack
pub field_by_test : (f : Field) (w at : ℕ) (test : ℕ → Bool) → at_rows (λ k. cond (test k) (has_field f w at k) (lacks_field f k)) mapping_bodies ≡ true
    → (r : List ℕ) → mapping_kind (kind_of r) ≡ true → field f r ≡ cond (test (kind_of r)) (number w at r) 0
field_by_test f w at test all r known =
    go (test (kind_of r)) (of_mapping_kind (λ k. cond (test k) (has_field f w at k) (lacks_field f k)) all (kind_of r) known)
  where
    go : (b : Bool) → cond b (has_field f w at (kind_of r)) (lacks_field f (kind_of r)) ≡ true → field f r ≡ cond b (number w at r) 0
    go true has = field_has f w at r has
    go false lacks = field_lacks f r lacks

-- a number, a kind and a field are read off the bytes on which two lists agree
pub number_agree : (m : ℕ) (r t : List ℕ) → Agree m r t → (n at : ℕ) → at + n ≤ m → number n at r ≡ number n at t
number_agree m r t h zero at fits = refl
number_agree m r t h (suc zero) at fits = h at (omega arith)
number_agree m r t h (suc (suc n)) at fits =
    ap₂ (λ (x y : ℕ). x + 256 * y) (h at (omega arith)) (number_agree m r t h (suc n) (at + 1) (omega arith))

pub kind_agree : (r t : List ℕ) → Agree (length_of (kind_of t)) r t → kind_of r ≡ kind_of t
unfolding kind_of
kind_agree r t h = h 0 (length_of_positive (kind_of t))

pub field_agree : (f : Field) (r t : List ℕ) → Agree (length_of (kind_of t)) r t → field f r ≡ field f t
unfolding field length_of
field_agree f r t h =
    rw (kind_agree r t h)
    (number_agree (length_of (kind_of t)) r t h
    (width_in (body_of (kind_of t)) f)
    (1 + offset_in (body_of (kind_of t)) f)
    (omega (arith, field_within (body_of (kind_of t)) f)))
