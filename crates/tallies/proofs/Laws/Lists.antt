-- Lists of counts: tabulated, and changed at one place.
use Rattle.std.specs.Prelude.{◌≡◌, ℕ, zero, suc, ◌<◌, Bool, true, false, length, replicate, ◌==◌, slice_index, slice_index_or, slice_set, refl}
use Rattle.std.proofs.lemmas.Bool.{false≢true}
use Rattle.std.proofs.Common.{sym, ap, ◌∙◌, arith, eqb-true, eq-eqb, length-set, ext_get_or, get_or-set_same, get_or-set_other}
use Rattle.tallies.specs.Tallies.{tabulate}

pub length_tabulate : {A : Type 0} (n : ℕ) (f : ℕ → A) → length (tabulate n f) ≡ n
unfolding tabulate
length_tabulate zero f = refl
length_tabulate (suc n) f = ap suc (length_tabulate n (λ i. f (suc i)))

pub get_d_tabulate : {A : Type 0} (n : ℕ) (f : ℕ → A) (i : ℕ) (d : A) → i < n → slice_index_or (tabulate n f) i d ≡ f i
unfolding tabulate
get_d_tabulate zero f i d h = absurd (omega (arith, h))
get_d_tabulate (suc n) f zero d h = refl
get_d_tabulate (suc n) f (suc i) d h = get_d_tabulate n (λ i. f (suc i)) i d (omega (arith, h))

pub tabulate_agree : {A : Type 0} (n : ℕ) (f g : ℕ → A) → ((i : ℕ) → i < n → f i ≡ g i) → tabulate n f ≡ tabulate n g
unfolding tabulate
tabulate_agree zero f g same = refl
tabulate_agree (suc n) f g same = rw (same 0 (omega arith), tabulate_agree n (λ i. f (suc i)) (λ i. g (suc i)) (λ i h. same (suc i) (omega (arith, h))))

pub tabulate_constant : {A : Type 0} (n : ℕ) (f : ℕ → A) (v : A) → ((i : ℕ) → f i ≡ v) → tabulate n f ≡ replicate n v
unfolding tabulate
tabulate_constant zero f v same = refl
tabulate_constant (suc n) f v same = rw (same 0, tabulate_constant n (λ i. f (suc i)) v (λ i. same (suc i)))

-- a tabulated list with another value at one place
pub set_tabulate : (n : ℕ) (f g : ℕ → ℕ) (at v : ℕ) → at < n → v ≡ g at → ((i : ℕ) → ((at == i) ≡ false) → f i ≡ g i)
    → slice_set (tabulate n f) at v ≡ tabulate n g
set_tabulate n f g at v within is others =
    ext_get_or 0 (slice_set (tabulate n f) at v) (tabulate n g)
    (length-set (tabulate n f) at v ∙ length_tabulate n f ∙ sym (length_tabulate n g))
    (λ i h. go i (at == i) refl (omega (arith, h, length-set (tabulate n f) at v, length_tabulate n f)))
  where
    go : (i : ℕ) (b : Bool) → (at == i) ≡ b → i < n → slice_index (slice_set (tabulate n f) at v) i ≡ slice_index (tabulate n g) i
    go i true e h =
        rw (← (eqb-true at i e)) (get_or-set_same (tabulate n f) at v 0 (omega (arith, within, length_tabulate n f)) ∙ is ∙ sym (get_d_tabulate n g at 0 within))
    go i false e h =
        get_or-set_other (tabulate n f) at i v 0 (λ is. false≢true (sym e ∙ eq-eqb at i (sym is)))
        ∙ get_d_tabulate n f i 0 h ∙ others i e ∙ sym (get_d_tabulate n g i 0 h)
