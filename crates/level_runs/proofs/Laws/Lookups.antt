-- A lookup in a second run finds nothing that is not usable in the first run's same level.
use Rattle.std.specs.Prelude.{ℕ, suc, Bool, cond, not, ◌&&◌, List, [], ◌∷◌, map, eqb, length, get_or}
use Rattle.std.proofs.Math.Bool.{true, false}
use Rattle.std.proofs.lemmas.Bool.{false≢true}
use Rattle.std.proofs.Math.Path.{◌≡◌, refl}
use Rattle.std.proofs.Common.{ap, arith}
use Rattle.model.specs.declared.Context.{Context}
use Rattle.model.specs.declared.Address.TheVariants.{Linear}
use Rattle.model.specs.Mappings.{mapping, structure_cache}
use Rattle.model.specs.Tables.{records, only}
use Rattle.model.specs.Lookups.{usable, usable_records}
use Rattle.level_lookups.specs.Levels.{usable_translation, usable_translations, some_of, lookup_levels_answer, lookup_levels_level, lookup_levels}
use Rattle.runs.specs.Runs.{Run, Gap, InOrderPart, UsableWithin, Compared, none, more}
use Rattle.runs.proofs.Laws.Parts.{part_refl, part_skip, part_keep, part_trans}
use Rattle.counted_runs.specs.Runs.{plain_gap}
use Rattle.level_runs.specs.Runs.{LevelNumber, one, two, LevelRun, LevelsGap, level_run, level_gap}
use Rattle.level_runs.specs.Theorem.{FoundWithin, LooksWithin, LevelsLookups}
use Rattle.level_runs.specs.Theorem as theorem
use Rattle.level_runs.proofs.Laws.Demand3.{levels_demand_3_holds}

-- ---- in-order parts

part_none : (rs : List (List ℕ)) → InOrderPart [] rs
part_none [] = part_refl []
part_none (r ∷ rs) = part_skip [] r rs (part_none rs)

part_and : (p q : List ℕ → Bool) (rs : List (List ℕ)) → InOrderPart (only (λ r. p r && q r) rs) (only p rs)
unfolding only
part_and p q [] = part_refl []
part_and p q (r ∷ rs) = go (p r) (q r) (part_and p q rs)
  where
    go : (b d : Bool) → InOrderPart (only (λ r. p r && q r) rs) (only p rs)
        → InOrderPart (cond (b && d) (r ∷ only (λ r. p r && q r) rs) (only (λ r. p r && q r) rs)) (cond b (r ∷ only p rs) (only p rs))
    go true true part = part_keep _ r _ part
    go true false part = part_skip _ r _ part
    go false d part = part

-- the first of some records is a part of them
part_first : (rs : List (List ℕ)) → some_of rs ≡ true → InOrderPart (get_or rs 0 [] ∷ []) rs
part_first [] some = absurd (false≢true some)
part_first (r ∷ rs) some = part_keep [] r rs (part_none rs)

-- ---- what a lookup finds

-- the first usable translation of a table is one of its usable records
translation_usable : (c : Context) (address : ℕ) (t : List ℕ) → some_of (usable_translations c address t) ≡ true
    → InOrderPart (get_or (usable_translations c address t) 0 [] ∷ []) (usable_records c (Linear address) t)
unfolding usable_translations usable_translation usable_records
translation_usable c address t some =
    part_trans _ (usable_translations c address t) _ (part_first (usable_translations c address t) some)
    (part_and (λ r. usable c (Linear address) (mapping r)) (λ r. not (structure_cache (mapping r).kind)) (records t))

-- the part that is found is that of its level
module _ (c : Context) (address : ℕ) (t u : List ℕ) where
  found_first : lookup_levels_level c address t u ≡ 1 → (some_of (usable_translations c address t) ≡ true) × (lookup_levels c address t u ≡ get_or (usable_translations c address t) 0 [])
  unfolding lookup_levels lookup_levels_level
  found_first is = (go (eqb (lookup_levels_answer c t u) 0) (some_of (usable_translations c address t)) (some_of (usable_translations c address u)) is, rw is)
    where
      go : (b s s' : Bool) → ◌≡◌ {A = ℕ} (cond b (cond s 1 (cond s' 2 0)) 0) 1 → s ≡ true
      go true true s' is = refl
      go true false true is = absurd (omega (arith, is))
      go true false false is = absurd (omega (arith, is))
      go false s s' is = absurd (omega (arith, is))

  found_second : lookup_levels_level c address t u ≡ 2 → (some_of (usable_translations c address u) ≡ true) × (lookup_levels c address t u ≡ get_or (usable_translations c address u) 0 [])
  unfolding lookup_levels lookup_levels_level
  found_second is = (go (eqb (lookup_levels_answer c t u) 0) (some_of (usable_translations c address t)) (some_of (usable_translations c address u)) is, rw is)
    where
      go : (b s s' : Bool) → ◌≡◌ {A = ℕ} (cond b (cond s 1 (cond s' 2 0)) 0) 2 → s' ≡ true
      go true true s' is = absurd (omega (arith, is))
      go true false true is = refl
      go true false false is = absurd (omega (arith, is))
      go false s s' is = absurd (omega (arith, is))

-- each level of a run has its usable records within those of another
found_within : (s full : LevelRun) → ((n : LevelNumber) → UsableWithin (level_run n s).run (level_run n full).run) → FoundWithin s full
unfolding UsableWithin level_run
found_within s full within address one is =
    let found = found_first s.context address (s.level one).table (s.level two).table is in
    part_trans _ _ _ (rw found.1 (translation_usable s.context address (s.level one).table found.0)) (within one (Linear address))
found_within s full within address two is =
    let found = found_second s.context address (s.level one).table (s.level two).table is in
    part_trans _ _ _ (rw found.1 (translation_usable s.context address (s.level two).table found.0)) (within two (Linear address))

-- ---- at every gap

same_length : {gs : List Gap} {ss : List Run} → Compared gs ss → length gs ≡ length ss
same_length none = refl
same_length (more same before after later) = ap suc (same_length later)

here : {x : Gap} {xs : List Gap} {y : Run} {ys : List Run} → Compared (x ∷ xs) (y ∷ ys) → UsableWithin x.before y × (UsableWithin x.after y × Compared xs ys)
here (more same before after later) = (before, (after, later))

looks_within : (gs : List LevelsGap) (ss : List LevelRun)
    → ((n : LevelNumber) → Compared (map plain_gap (map (level_gap n) gs)) (map (λ s. s.run) (map (level_run n) ss)))
    → LooksWithin gs ss
unfolding plain_gap level_gap
looks_within [] [] compared = theorem.none
looks_within [] (s ∷ ss) compared = absurd (omega (arith, same_length (compared one)))
looks_within (g ∷ gs) [] compared = absurd (omega (arith, same_length (compared one)))
looks_within (g ∷ gs) (s ∷ ss) compared =
    theorem.more (found_within g.before s (λ n. (here (compared n)).0)) (found_within g.after s (λ n. (here (compared n)).1.0)) (looks_within gs ss (λ n. (here (compared n)).1.1))

pub levels_lookups_hold : LevelsLookups
levels_lookups_hold c es a b h k removals a' b' h' k' room =
    looks_within _ _ (λ n. ((levels_demand_3_holds n c es a b h k).second_run removals a' b' h' k' room).usable)
