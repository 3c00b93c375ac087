-- Tables: records end to end, the records at the front of some bytes, the records of which a test
-- holds, and the record at a position.
use Rattle.std.specs.Prelude.{ℕ, zero, suc, ◌+◌, ◌-◌, ◌*◌, ◌≤◌, ◌<◌, ◌≡◌, refl, Bool, true, false, cond, not, List, [], ◌∷◌, ◌++◌, length, take, drop, replicate}
use Rattle.std.proofs.Common.{sym, ap, ap₂, ◌∙◌, append_assoc, append-nil, arith, le_refl, zero-mul, suc-mul, length-append, length-take, length-drop, drop_of_length-le, take_all, length-take-le, take_at, drop_at, drop-drop, take-add, eqb-true, eq-eqb}
use Rattle.std.proofs.Math.Seq.{take-length}
use Rattle.model.specs.Layouts.{kind_of, length_of}
use Rattle.model.specs.Mappings.{mapping, Held, record_length}
use Rattle.model.specs.Tables.{joined, cut, records_within, records, whole, only, count}
use Rattle.laws.specs.Lists.{Every, none, more, cond_append}
use Rattle.laws.specs.Mappings.{Valid, kind_of_take, mapping_take, held_record_length, record_length_kind, record_length_le, valid_take, valid_append}

-- records end to end
pub joined_append : (rs ss : List (List ℕ)) → joined (rs ++ ss) ≡ joined rs ++ joined ss
unfolding joined
joined_append [] ss = refl
joined_append (r ∷ rs) ss = rw (joined_append rs ss, append_assoc)

pub length_joined_cons : (r : List ℕ) (rs : List (List ℕ)) → length (joined (r ∷ rs)) ≡ length r + length (joined rs)
unfolding joined
length_joined_cons r rs = rw length-append

-- one record, many times
pub length_repeated : (n : ℕ) (r : List ℕ) → length (joined (replicate n r)) ≡ n * length r
unfolding joined
length_repeated zero r = sym (zero-mul (length r))
length_repeated (suc n) r = length_joined_cons r (replicate n r) ∙ omega (arith, length_repeated n r, suc-mul n (length r))

pub joined_one : (r : List ℕ) → joined (r ∷ []) ≡ r
unfolding joined
joined_one r = append-nil r

-- the records of which a test holds
pub only_true : (p : List ℕ → Bool) (r : List ℕ) (rs : List (List ℕ)) → p r ≡ true → only p (r ∷ rs) ≡ r ∷ only p rs
unfolding only
only_true p r rs e = rw e

pub only_false : (p : List ℕ → Bool) (r : List ℕ) (rs : List (List ℕ)) → p r ≡ false → only p (r ∷ rs) ≡ only p rs
unfolding only
only_false p r rs e = rw e

pub only_all : (p : List ℕ → Bool) (rs : List (List ℕ)) → ((r : List ℕ) → p r ≡ true) → only p rs ≡ rs
unfolding only
only_all p [] h = refl
only_all p (r ∷ rs) h = only_true p r rs (h r) ∙ ap (λ others. r ∷ others) (only_all p rs h)

pub only_none : (p : List ℕ → Bool) (rs : List (List ℕ)) → ((r : List ℕ) → p r ≡ false) → only p rs ≡ []
unfolding only
only_none p [] h = refl
only_none p (r ∷ rs) h = only_false p r rs (h r) ∙ only_none p rs h

pub only_append : (p : List ℕ → Bool) (rs ss : List (List ℕ)) → only p (rs ++ ss) ≡ only p rs ++ only p ss
unfolding only
only_append p [] ss = refl
only_append p (r ∷ rs) ss = rw (only_append p rs ss) (cond_append (p r) r (only p rs) (only p ss))

-- two tests in either order
pub only_swap : (p q : List ℕ → Bool) (rs : List (List ℕ)) → only p (only q rs) ≡ only q (only p rs)
unfolding only
only_swap p q [] = refl
only_swap p q (r ∷ rs) = go (p r) (q r) refl refl (only_swap p q rs)
  where
    go : (a b : Bool) → p r ≡ a → q r ≡ b → only p (only q rs) ≡ only q (only p rs)
        → only p (cond b (r ∷ only q rs) (only q rs)) ≡ only q (cond a (r ∷ only p rs) (only p rs))
    go true true e f h = rw (e, f, h)
    go true false e f h = rw (f, h)
    go false true e f h = rw (e, h)
    go false false e f h = h

pub only_agree : {P : List ℕ → Type 0} (p q : List ℕ → Bool) {rs : List (List ℕ)} → Every P rs → ((r : List ℕ) → P r → p r ≡ q r) → only p rs ≡ only q rs
unfolding only
only_agree p q none same = refl
only_agree p q (more {x} {xs} h hs) same = rw (same x h, only_agree p q hs same)

pub every_only : {P : List ℕ → Type 0} (p : List ℕ → Bool) {rs : List (List ℕ)} → Every P rs → Every P (only p rs)
unfolding only
every_only p none = none
every_only {P} p (more {x} {xs} h hs) = go (p x) (every_only p hs)
  where
    go : (b : Bool) → Every P (only p xs) → Every P (cond b (x ∷ only p xs) (only p xs))
    go true k = more h k
    go false k = k

-- how many they are
pub count_complement : (p : List ℕ → Bool) (rs : List (List ℕ)) → count p rs + count (λ r. not (p r)) rs ≡ length rs
unfolding count only
count_complement p [] = refl
count_complement p (r ∷ rs) = go (p r) (count_complement p rs)
  where
    go : (b : Bool) → count p rs + count (λ r. not (p r)) rs ≡ length rs
        → length (cond b (r ∷ only p rs) (only p rs)) + length (cond (not b) (r ∷ only (λ r. not (p r)) rs) (only (λ r. not (p r)) rs)) ≡ suc (length rs)
    go true h = omega arith
    go false h = omega arith

pub count_one : (p : List ℕ → Bool) (r : List ℕ) → count p (r ∷ []) ≡ cond (p r) 1 0
unfolding count only
count_one p r = go (p r)
  where
    go : (b : Bool) → length (cond b (r ∷ []) []) ≡ cond b 1 0
    go true = refl
    go false = refl

-- counts of records add up
pub count_nil : (p : List ℕ → Bool) → count p [] ≡ 0
unfolding count only
count_nil p = refl

pub count_append : (p : List ℕ → Bool) (rs ss : List (List ℕ)) → count p (rs ++ ss) ≡ count p rs + count p ss
unfolding count
count_append p rs ss = rw (only_append p rs ss) (length-append (only p rs) (only p ss))

pub count_cons : (p : List ℕ → Bool) (r : List ℕ) (rs : List (List ℕ)) → count p (r ∷ rs) ≡ cond (p r) 1 0 + count p rs
unfolding count
count_cons p r rs = go (p r) refl
  where
    go : (b : Bool) → p r ≡ b → length (only p (r ∷ rs)) ≡ cond b 1 0 + length (only p rs)
    go true e = rw (only_true p r rs e) (omega arith)
    go false e = rw (only_false p r rs e) (omega arith)

pub count_le : (p : List ℕ → Bool) (rs : List (List ℕ)) → count p rs ≤ length rs
count_le p rs = omega (arith, count_complement p rs)

-- of the records of which another test holds and of those of which it does not
pub count_split : (p q : List ℕ → Bool) (rs : List (List ℕ)) → count p rs ≡ count p (only q rs) + count p (only (λ r. not (q r)) rs)
unfolding only
count_split p q [] = omega (arith, count_nil p)
count_split p q (r ∷ rs) = go (q r) (count_split p q rs)
  where
    go : (b : Bool) → count p rs ≡ count p (only q rs) + count p (only (λ r. not (q r)) rs)
        → count p (r ∷ rs) ≡ count p (cond b (r ∷ only q rs) (only q rs)) + count p (cond (not b) (r ∷ only (λ r. not (q r)) rs) (only (λ r. not (q r)) rs))
    go true h = omega (arith, h, count_cons p r rs, count_cons p r (only q rs))
    go false h = omega (arith, h, count_cons p r rs, count_cons p r (only (λ r. not (q r)) rs))

pub length_joined_only : (p : List ℕ → Bool) (rs : List (List ℕ)) → length (joined (only p rs)) ≤ length (joined rs)
unfolding only
length_joined_only p [] = le_refl _
length_joined_only p (r ∷ rs) = go (p r) (length_joined_only p rs)
  where
    go : (b : Bool) → length (joined (only p rs)) ≤ length (joined rs)
        → length (joined (cond b (r ∷ only p rs) (only p rs))) ≤ length (joined (r ∷ rs))
    go true h = omega (arith, length_joined_cons r rs, length_joined_cons r (only p rs))
    go false h = omega (arith, length_joined_cons r rs)

-- the records at the front of some bytes: none where none starts, else the first and those behind it
records_within_none : (n : ℕ) (t : List ℕ) → record_length t ≡ 0 → records_within n t ≡ []
unfolding records_within cut
records_within_none zero t e = refl
records_within_none (suc n) t e = rw e

records_within_cons : (n : ℕ) (t : List ℕ) (k : ℕ) → record_length t ≡ suc k
    → records_within (suc n) t ≡ take (suc k) t ∷ records_within n (drop (suc k) t)
unfolding records_within cut
records_within_cons n t k e = rw e

-- any number of records that is at least the bytes' length allows all
pub records_within_enough : (n m : ℕ) (t : List ℕ) → length t ≤ n → length t ≤ m → records_within n t ≡ records_within m t
records_within_enough zero m t h k =
    let empty : record_length t ≡ 0 = omega (arith, record_length_le t) in
    records_within_none zero t empty ∙ sym (records_within_none m t empty)
records_within_enough (suc n) zero t h k =
    let empty : record_length t ≡ 0 = omega (arith, record_length_le t) in
    records_within_none (suc n) t empty ∙ sym (records_within_none zero t empty)
records_within_enough (suc n) (suc m) t h k = go (record_length t) refl (λ s. records_within_enough n m s)
  where
    go : (l : ℕ) → record_length t ≡ l
        → ((s : List ℕ) → length s ≤ n → length s ≤ m → records_within n s ≡ records_within m s)
        → records_within (suc n) t ≡ records_within (suc m) t
    go zero e ih = records_within_none (suc n) t e ∙ sym (records_within_none (suc m) t e)
    go (suc l) e ih =
        records_within_cons n t l e
        ∙ ap (λ rs. take (suc l) t ∷ rs)
        (ih (drop (suc l) t) (simp length-drop (omega arith)) (simp length-drop (omega arith)))
        ∙ sym (records_within_cons m t l e)

pub records_none : (t : List ℕ) → record_length t ≡ 0 → records t ≡ []
unfolding records
records_none t e = records_within_none (length t) t e

pub records_nil : records [] ≡ []
records_nil = records_none [] (omega (arith, record_length_le []))

pub records_cons : (t : List ℕ) (n : ℕ) → record_length t ≡ suc n → records t ≡ take (suc n) t ∷ records (drop (suc n) t)
unfolding records
records_cons [] n e = absurd (omega (arith, record_length_le []))
records_cons (x ∷ t) n e =
    records_within_cons (length t) (x ∷ t) n e
    ∙ ap (λ rs. (x ∷ take n t) ∷ rs)
    (records_within_enough (length t) (length (drop n t)) (drop n t) (simp length-drop (omega arith)) (le_refl _))

-- what holds where no record starts, and of bytes with a record at the front if of those behind it,
-- holds of all bytes
pub records_induction : (P : List ℕ → Type 0)
    → ((t : List ℕ) → record_length t ≡ 0 → P t)
    → ((t : List ℕ) (n : ℕ) → record_length t ≡ suc n → P (drop (suc n) t) → P t)
    → (t : List ℕ) → P t
records_induction P stop step t = upto (length t) t (le_refl _)
  where
    upto : (n : ℕ) (t : List ℕ) → length t ≤ n → P t
    upto zero t h = stop t (omega (arith, record_length_le t))
    upto (suc n) t h = at_front (record_length t) refl (λ s. upto n s)
      where
        at_front : (l : ℕ) → record_length t ≡ l → ((s : List ℕ) → length s ≤ n → P s) → P t
        at_front zero e ih = stop t e
        at_front (suc l) e ih = step t l e (ih (drop (suc l) t) (simp length-drop (omega arith)))

-- the records of a table are its front
pub joined_records_prefix : (t : List ℕ) → take (length (joined (records t))) t ≡ joined (records t)
unfolding joined
joined_records_prefix =
    records_induction (λ t. take (length (joined (records t))) t ≡ joined (records t)) (λ t e. rw (records_none t e))
    (λ t n e h.
    let others = joined (records (drop (suc n) t)) in
    let long : length (take (suc n) t) ≡ suc n = length-take-le (suc n) t (omega (arith, record_length_le t)) in
    rw (records_cons t n e, length-append (take (suc n) t) others, long, take-add (suc n) (length others) t, h))

pub length_joined_records : (t : List ℕ) → length (joined (records t)) ≤ length t
length_joined_records t = omega (arith, length-take (length (joined (records t))) t, ap length (joined_records_prefix t))

pub whole_joined : (t : List ℕ) → whole t ≡ true → joined (records t) ≡ t
unfolding whole
whole_joined t e = sym (joined_records_prefix t) ∙ ap (λ n. take n t) (eqb-true (length (joined (records t))) (length t) e) ∙ take-length t

-- each of them is exactly valid
pub records_valid : (t : List ℕ) → Every Valid (records t)
records_valid =
    records_induction (λ t. Every Valid (records t)) (λ t e. rw (records_none t e) none)
    (λ t n e h. rw (records_cons t n e) (more (valid_take t n e) h))

-- valid records are at most as many as their bytes
pub length_valid : {rs : List (List ℕ)} → Every Valid rs → length rs ≤ length (joined rs)
length_valid none = omega arith
length_valid (more {x} {xs} v vs) = omega (arith, length_valid vs, v.filled, length_joined_cons x xs)

-- exactly valid records end to end are read back
pub records_joined : {rs : List (List ℕ)} → Every Valid rs → records (joined rs) ≡ rs
unfolding joined
records_joined none = records_nil
records_joined (more {x = r} {xs = rs} v vs) = go (length r) refl (records_joined vs)
  where
    go : (n : ℕ) → length r ≡ n → records (joined rs) ≡ rs → records (r ++ joined rs) ≡ r ∷ rs
    go zero e ih = absurd (omega (arith, v.filled))
    go (suc n) e ih =
        records_cons (r ++ joined rs) n (valid_append r (joined rs) v ∙ e)
        ∙ ap₂ (λ first others. first ∷ records others) (take_at r (joined rs) (suc n) e) (drop_at r (joined rs) (suc n) e)
        ∙ ap (λ others. r ∷ others) ih

pub joined_whole : {rs : List (List ℕ)} → Every Valid rs → whole (joined rs) ≡ true
unfolding whole
joined_whole {rs} v = rw (records_joined v) (eq-eqb (length (joined rs)) (length (joined rs)) refl)

-- an exactly valid record is a whole table
pub records_one : (r : List ℕ) → Valid r → records r ≡ r ∷ []
records_one r v = rw joined_one at (records_joined (more v none))

pub whole_one : (r : List ℕ) → Valid r → whole r ≡ true
whole_one r v = rw joined_one at (joined_whole (more v none))

-- the rest of a table from a position on, as Rattle hands over `&t[at..]`
pub rest_of_drop : (at : ℕ) (t : List ℕ) → take (length t - at) (drop at t) ≡ drop at t
rest_of_drop at t = take_all (length t - at) (drop at t) (omega (arith, length-drop at t))

pub records_drop_end : (t : List ℕ) (at : ℕ) → length t ≤ at → records (drop at t) ≡ []
records_drop_end t at h = rw (drop_of_length-le t h) records_nil

-- a valid record of n bytes stands at a position of a table, with the other records behind it
pub record Next (t : List ℕ) (at n : ℕ) : Type 0 where
  pub some : 0 < n
  pub within : at + n ≤ length t
  pub size : length (take n (drop at t)) ≡ n
  pub same : mapping (take n (drop at t)) ≡ mapping (drop at t)
  pub split : records (drop at t) ≡ take n (drop at t) ∷ records (drop (at + n) t)

-- the record there, cut out, is held where its kind is known and it is as long as its kind says
pub held_of_next : {t : List ℕ} {at n : ℕ} → Next t at n → Held (drop at t) → n ≡ length_of (kind_of (drop at t)) → Held (take n (drop at t))
held_of_next {t} {at} {n} next held is =
    let same : kind_of (take n (drop at t)) ≡ kind_of (drop at t) = kind_of_take n (drop at t) (λ zero. omega (arith, next.some)) in
    record { known = rw same held.known; fits = rw same (omega (arith, is, next.size)) }

pub next_of_length : (t : List ℕ) (at n : ℕ) → record_length (drop at t) ≡ n → 0 < n → Next t at n
next_of_length t at zero e some = absurd (omega arith)
next_of_length t at (suc n) e some =
    let front : suc n ≤ length (drop at t) = omega (arith, record_length_le (drop at t)) in
    let starts : 0 < record_length (drop at t) = omega arith in
    record {
      some = some;
      within = omega (arith, length-drop at t);
      size = length-take-le (suc n) (drop at t) front;
      same = mapping_take (suc n) (drop at t) (omega (arith, record_length_kind (drop at t) starts));
      split = records_cons (drop at t) n e ∙ rw drop-drop;
    }

-- at each position before the end of a whole table a valid record stands, and the rest is whole
pub whole_starts : (t : List ℕ) → whole t ≡ true → 0 < length t → 0 < record_length t
unfolding whole joined
whole_starts t w some = go (record_length t) refl
  where
    go : (n : ℕ) → record_length t ≡ n → 0 < record_length t
    go zero e =
        absurd (omega (arith, eqb-true (length (joined (records t))) (length t) w, ap length (ap joined (records_none t e))))
    go (suc n) e = omega arith

pub whole_rest : {t : List ℕ} {at n : ℕ} → whole (drop at t) ≡ true → Next t at n → whole (drop (at + n) t) ≡ true
unfolding whole
whole_rest {t} {at} {n} w next =
    let full = eqb-true (length (joined (records (drop at t)))) (length (drop at t)) w in
    let split = ap length (ap joined next.split) ∙ length_joined_cons (take n (drop at t)) (records (drop (at + n) t)) in
    eq-eqb (length (joined (records (drop (at + n) t)))) (length (drop (at + n) t))
    (omega (arith, full, split, next.size, length-drop at t, length-drop (at + n) t))

module _ (t : List ℕ) (at : ℕ) (w : whole (drop at t) ≡ true) (before : at < length t) where
  starts : 0 < record_length (drop at t)
  starts = whole_starts (drop at t) w (omega (arith, length-drop at t))

  pub held_of_whole : Held (take (length t - at) (drop at t))
  held_of_whole = rw rest_of_drop (held_record_length (drop at t) starts)

  pub next_of_whole : {n : ℕ} → n ≡ length_of (kind_of (take (length t - at) (drop at t))) → Next t at n
  next_of_whole {n} read =
      let long : record_length (drop at t) ≡ n = record_length_kind (drop at t) starts ∙ sym (rw rest_of_drop at read) in
      next_of_length t at n long (omega (arith, starts))
