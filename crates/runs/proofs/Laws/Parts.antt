-- In-order parts: what a removal leaves of some records.
use Rattle.std.specs.Prelude.{ℕ, ◌≤◌, ◌≡◌, refl, Bool, true, false, cond, List, [], ◌∷◌, ◌++◌, length}
use Rattle.std.proofs.Common.{ap, arith, le_refl}
use Rattle.model.specs.Tables.{joined, only}
use Rattle.runs.specs.Runs.{without, InOrderPart}
use Rattle.laws.specs.Lists.{Every, none, more}
use Rattle.laws.specs.Tables.{length_joined_cons}

-- what holds of every record holds of those left, and their bytes are no more
pub every_without : {P : List ℕ → Type 0} (gone : List Bool) {rs : List (List ℕ)} → Every P rs → Every P (without gone rs)
unfolding without
every_without [] h = h
every_without (true ∷ gone) none = none
every_without (true ∷ gone) (more p h) = every_without gone h
every_without (false ∷ gone) none = none
every_without (false ∷ gone) (more p h) = more p (every_without gone h)

pub length_joined_without : (gone : List Bool) (rs : List (List ℕ)) → length (joined (without gone rs)) ≤ length (joined rs)
unfolding without
length_joined_without [] rs = le_refl _
length_joined_without (true ∷ gone) [] = le_refl _
length_joined_without (true ∷ gone) (r ∷ rs) = omega (arith, length_joined_without gone rs, length_joined_cons r rs)
length_joined_without (false ∷ gone) [] = le_refl _
length_joined_without (false ∷ gone) (r ∷ rs) =
    omega (arith, length_joined_without gone rs, length_joined_cons r rs, length_joined_cons r (without gone rs))

-- the whole is a part; a record more of the whole, and of both, leaves a part
pub part_refl : (rs : List (List ℕ)) → InOrderPart rs rs
unfolding InOrderPart without
part_refl rs = ([], refl)

pub part_skip : (part : List (List ℕ)) (r : List ℕ) (rs : List (List ℕ)) → InOrderPart part rs → InOrderPart part (r ∷ rs)
unfolding InOrderPart without
part_skip part r rs p = (true ∷ p.0, p.1)

pub part_keep : (part : List (List ℕ)) (r : List ℕ) (rs : List (List ℕ)) → InOrderPart part rs → InOrderPart (r ∷ part) (r ∷ rs)
unfolding InOrderPart without
part_keep part r rs p = (false ∷ p.0, ap (λ l. r ∷ l) p.1)

-- a part of a part is a part
without_nil : (gone : List Bool) → without gone [] ≡ []
unfolding without
without_nil [] = refl
without_nil (b ∷ gone) = refl

part_without : (gone later : List Bool) (rs : List (List ℕ)) → InOrderPart (without later (without gone rs)) rs
unfolding without InOrderPart
part_without [] later rs = (later, refl)
part_without (true ∷ gone) later [] = ([], without_nil later)
part_without (true ∷ gone) later (r ∷ rs) = part_skip (without later (without gone rs)) r rs (part_without gone later rs)
part_without (false ∷ gone) [] [] = part_refl []
part_without (false ∷ gone) [] (r ∷ rs) = (false ∷ gone, refl)
part_without (false ∷ gone) (b ∷ later) [] = part_refl []
part_without (false ∷ gone) (true ∷ later) (r ∷ rs) = part_skip (without later (without gone rs)) r rs (part_without gone later rs)
part_without (false ∷ gone) (false ∷ later) (r ∷ rs) = part_keep (without later (without gone rs)) r rs (part_without gone later rs)

pub part_trans : (least part rs : List (List ℕ)) → InOrderPart least part → InOrderPart part rs → InOrderPart least rs
unfolding InOrderPart
part_trans least part rs p q = rw (p.1, q.1) (part_without q.0 p.0 rs)

-- the records of which a test holds, and the same records behind both
pub part_only : (p : List ℕ → Bool) (part rs : List (List ℕ)) → InOrderPart part rs → InOrderPart (only p part) (only p rs)
unfolding InOrderPart without only
part_only p part rs q = rw q.1 (go q.0 rs)
  where
    here : (b : Bool) (r : List ℕ) (part rs : List (List ℕ)) → InOrderPart part rs
        → InOrderPart (cond b (r ∷ part) part) (cond b (r ∷ rs) rs)
    here true r part rs q = part_keep part r rs q
    here false r part rs q = q

    gone_here : (b : Bool) (r : List ℕ) (part rs : List (List ℕ)) → InOrderPart part rs → InOrderPart part (cond b (r ∷ rs) rs)
    gone_here true r part rs q = part_skip part r rs q
    gone_here false r part rs q = q

    go : (gone : List Bool) (rs : List (List ℕ)) → InOrderPart (only p (without gone rs)) (only p rs)
    go [] rs = part_refl (only p rs)
    go (b ∷ gone) [] = part_refl []
    go (true ∷ gone) (r ∷ rs) = gone_here (p r) r (only p (without gone rs)) (only p rs) (go gone rs)
    go (false ∷ gone) (r ∷ rs) = here (p r) r (only p (without gone rs)) (only p rs) (go gone rs)

pub part_append : (part rs ss : List (List ℕ)) → InOrderPart part rs → InOrderPart (part ++ ss) (rs ++ ss)
unfolding InOrderPart without
part_append part rs ss q = rw q.1 (go q.0 rs)
  where
    go : (gone : List Bool) (rs : List (List ℕ)) → InOrderPart (without gone rs ++ ss) (rs ++ ss)
    go [] rs = part_refl (rs ++ ss)
    go (b ∷ gone) [] = part_refl ss
    go (true ∷ gone) (r ∷ rs) = part_skip (without gone rs ++ ss) r (rs ++ ss) (go gone rs)
    go (false ∷ gone) (r ∷ rs) = part_keep (without gone rs ++ ss) r (rs ++ ss) (go gone rs)
