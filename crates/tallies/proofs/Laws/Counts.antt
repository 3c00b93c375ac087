-- How many records are counted at each place of a list: one more record, and one less.
use Rattle.std.specs.Prelude.{◌≡◌, ℕ, ◌+◌, ◌-◌, ◌<◌, ◌≤◌, Bool, false, cond, List, ◌∷◌, ◌++◌, length, ◌==◌, slice_index, refl}
use Rattle.std.proofs.Math.Path.{sym}
use Rattle.std.proofs.Common.{ap, ◌∙◌, arith, eq-eqb}
use Rattle.model.specs.Tables.{count}
use Rattle.laws.specs.Tables.{count_append, count_cons, count_le}
use Rattle.tallies.specs.Tallies.{tabulate, raised, lowered, raised_by, lowered_by}
use Rattle.tallies.proofs.Laws.Lists.{get_d_tabulate, tabulate_agree, set_tabulate}

-- a test for each place of a list of counts
abbrev pub Places : Type 0
Places = ℕ → List ℕ → Bool

abbrev pub counts : ℕ → Places → List (List ℕ) → List ℕ
counts n test rs = tabulate n (λ i. count (test i) rs)

-- a record among the others
pub count_among : (p : List ℕ → Bool) (rs ss : List (List ℕ)) (r : List ℕ) → count p (rs ++ r ∷ ss) ≡ cond (p r) 1 0 + count p (rs ++ ss)
count_among p rs ss r = omega (arith, count_append p rs (r ∷ ss), count_append p rs ss, count_cons p r ss)

module _ (n : ℕ) (test : Places) where
  -- a record that is counted at one place, among the others
  module _ (rs ss : List (List ℕ)) (r : List ℕ) (at : ℕ) (within : at < n) (here : (i : ℕ) → test i r ≡ (at == i)) where
    one_more : (i : ℕ) → count (test i) (rs ++ r ∷ ss) ≡ cond (at == i) 1 0 + count (test i) (rs ++ ss)
    one_more i = rw (here i) at (count_among (test i) rs ss r)

    itself : count (test at) (rs ++ r ∷ ss) ≡ count (test at) (rs ++ ss) + 1
    itself = omega (arith, rw (eq-eqb at at refl) at (one_more at))

    other : (i : ℕ) → (at == i) ≡ false → count (test i) (rs ++ ss) ≡ count (test i) (rs ++ r ∷ ss)
    other i not_here = sym (rw not_here at (one_more i) ∙ omega arith)

    pub counts_raised : counts n test (rs ++ r ∷ ss) ≡ raised at (counts n test (rs ++ ss))
    unfolding raised_by
    counts_raised =
        sym (set_tabulate n (λ i. count (test i) (rs ++ ss)) (λ i. count (test i) (rs ++ r ∷ ss)) at _ within
        (ap (λ (k : ℕ). k + 1) (get_d_tabulate n (λ i. count (test i) (rs ++ ss)) at 0 within) ∙ sym itself)
        other)

    pub counts_lowered : counts n test (rs ++ ss) ≡ lowered at (counts n test (rs ++ r ∷ ss))
    unfolding lowered_by
    counts_lowered =
        sym (set_tabulate n (λ i. count (test i) (rs ++ r ∷ ss)) (λ i. count (test i) (rs ++ ss)) at _ within
        (ap (λ (k : ℕ). k - 1) (get_d_tabulate n (λ i. count (test i) (rs ++ r ∷ ss)) at 0 within ∙ itself) ∙ omega arith)
        (λ i e. sym (other i e)))

    -- some of it is counted there
    pub counted_some : 0 < slice_index (counts n test (rs ++ r ∷ ss)) at
    counted_some = omega (arith, get_d_tabulate n (λ i. count (test i) (rs ++ r ∷ ss)) at 0 within, itself)

  -- at every place there are few enough
  pub counts_few : (rs : List (List ℕ)) (at : ℕ) → at < n → slice_index (counts n test rs) at ≤ length rs
  counts_few rs at within = omega (arith, get_d_tabulate n (λ i. count (test i) rs) at 0 within, count_le (test at) rs)

  -- a record that is counted nowhere
  pub counts_same : (rs ss : List (List ℕ)) (r : List ℕ) → ((i : ℕ) → test i r ≡ false) → counts n test (rs ++ r ∷ ss) ≡ counts n test (rs ++ ss)
  counts_same rs ss r nowhere =
      tabulate_agree n (λ i. count (test i) (rs ++ r ∷ ss)) (λ i. count (test i) (rs ++ ss))
      (λ i h. omega (arith, rw (nowhere i) at (count_among (test i) rs ss r)))
