-- What the search of two tables finds is the lookup's part.
use Rattle.std.specs.Prelude.{ℕ, ◌+◌, Bool, cond, not, ◌≡◌, eqb, get_or}
use Rattle.std.proofs.Math.Bool.{true, false}
use Rattle.std.proofs.lemmas.Bool.{false≢true}
use mathlib.Core.List.{List, [], ◌∷◌}
use Rattle.std.specs.Prelude.{Option, Some, None, Ok, MatchOption, IsSomeAnd, IfSome, ◌<◌}
use Rattle.std.proofs.Math.Path.{refl, ap}
use Rattle.std.proofs.Common.{sym, ◌∙◌, arith}
use borrow.Author.Tests.{ne_eqb, eq-eqb, eqb-true}
use Rattle.std.proofs.Math.ListN.{length}
use Rattle.model.specs.declared.Context.{Context}
use Rattle.model.specs.Mappings.{mapping, linear, combined, structure_cache}
use Rattle.model.specs.Tables.{records, whole, only}
use Rattle.model.specs.Lookups.{lookup_answer, start_of}
use Rattle.laws.specs.Lists.{Every, none, more, end_of_part}
use Rattle.laws.specs.Lookups.{lookup_answer_whole}
use Rattle.laws.specs.Mappings.{Valid}
use Rattle.laws.specs.Tables.{records_valid, every_only}
use Rattle.lookups.specs.declared.Part.{Part}
use Rattle.lookups.specs.Search.{Sets, start_in, end_in, Searched}
use Rattle.level_lookups.specs.declared.FoundInLevels.{FoundInLevels}
use Rattle.level_lookups.specs.declared.FoundInLevels.TheVariants.{Second}
use Rattle.level_lookups.specs.Levels.{usable_translation, usable_translations, some_of, lookup_levels_answer, lookup_levels_level, lookup_levels, lookup_levels_start, FoundIn, found_in, in_numbers, Stands}

-- the two sets of kinds are those of translations
pub translations : Sets (λ k. not (structure_cache k)) 0x82 0x108
unfolding linear combined structure_cache
translations = record { linears = refl; combineds = refl }

-- where no record is found, the start told is 0
start_of_none : (p : List ℕ → Bool) (rs : List (List ℕ)) (at : ℕ) → some_of (only p rs) ≡ false → start_of p 0 rs at ≡ 0
unfolding only start_of
start_of_none p [] at empty = refl
start_of_none p (r ∷ rs) at empty = go (p r) empty (start_of_none p rs (at + length r))
  where
    go : (b : Bool) → some_of (cond b (r ∷ only p rs) (only p rs)) ≡ false
        → (some_of (only p rs) ≡ false → start_of p 0 rs (at + length r) ≡ 0)
        → cond b at (start_of p 0 rs (at + length r)) ≡ 0
    go true e later = absurd (false≢true (sym e))
    go false e later = later e

-- what a search of one table tells
module _ (c : Context) (address : ℕ) (t : List ℕ) (start end : ℕ) (found : Searched (usable_translation c address) t 0 start end) where
  pub found_end : end ≡ start + length (get_or (usable_translations c address t) 0 [])
  unfolding usable_translations
  found_end = end_of_part t _ start end found.ordered found.within found.part

  -- it ends at 0 exactly where there is no such record
  pub found_none : end ≡ 0 → some_of (usable_translations c address t) ≡ false
  unfolding usable_translations
  found_none zero = go (usable_translations c address t) found_end (every_only (λ r. usable_translation c address (mapping r)) (records_valid t))
    where
      go : (rs : List (List ℕ)) → end ≡ start + length (get_or rs 0 []) → Every Valid rs → some_of rs ≡ false
      go [] ends none = refl
      go (r ∷ rs) ends (more valid others) = absurd (omega (arith, zero, ends, valid.filled))

  pub found_some : (end ≡ 0 → ⊥) → some_of (usable_translations c address t) ≡ true
  unfolding usable_translations
  found_some some = go (usable_translations c address t) refl
    where
      go : (rs : List (List ℕ)) → usable_translations c address t ≡ rs → some_of rs ≡ true
      go [] are =
          let begins = found.place ∙ start_of_none (λ r. usable_translation c address (mapping r)) (records t) 0 (ap some_of are) in
          absurd (some (found_end ∙ ap (λ rs. start + length (get_or rs 0 [])) are ∙ rw begins))
      go (r ∷ rs) are = refl

-- the four ends of a lookup
module _ (c : Context) (address : ℕ) (t u : List ℕ) where
  -- what is told is what was found, and the part stands there
  abbrev Found : FoundIn → Type 0
  Found r = (r ≡ found_in c address t u) × Stands c address t u r

  nowhere : (n : ℕ) → n ≡ lookup_levels_answer c t u → lookup_levels_level c address t u ≡ 0 → Found (record { answer = n; level = 0; start = 0; end = 0 })
  unfolding found_in lookup_levels lookup_levels_start
  nowhere n is zero = (rw (← is, zero), record { ordered = omega arith; within = omega arith; part = rw zero })

  pub found_refused : {n : ℕ} → n ≡ lookup_levels_answer c t u → (n ≡ 0 → ⊥) → Found (record { answer = n; level = 0; start = 0; end = 0 })
  unfolding lookup_levels_level
  found_refused {n} is some = nowhere n is (rw (← is, ne_eqb n 0 some))

  module _ (passes : lookup_levels_answer c t u ≡ 0) where
    pub found_first : {start end : ℕ} → Searched (usable_translation c address) t 0 start end → (end ≡ 0 → ⊥) → Found (record { answer = 0; level = 1; start = start; end = end })
    unfolding found_in usable_translations lookup_levels_level lookup_levels lookup_levels_start
    found_first {start} {end} found some =
        let one = found_some c address t start end found some in (
          rw (passes, one, ← found.place, ← found_end c address t start end found),
          record { ordered = found.ordered; within = found.within; part = rw (passes, one) found.part },
        )

    module _ {start end : ℕ} (found : Searched (usable_translation c address) t 0 start end) (zero : end ≡ 0) where
      pub found_second : {start' end' : ℕ} → Searched (usable_translation c address) u 0 start' end' → (end' ≡ 0 → ⊥) → Found (record { answer = 0; level = 2; start = start'; end = end' })
      unfolding found_in usable_translations lookup_levels_level lookup_levels lookup_levels_start
      found_second {start'} {end'} other some =
          let not_one = found_none c address t start end found zero in
          let two = found_some c address u start' end' other some in (
            rw (passes, not_one, two, ← other.place, ← found_end c address u start' end' other),
            record { ordered = other.ordered; within = other.within; part = rw (passes, not_one, two) other.part },
          )

      pub found_neither : {start' end' : ℕ} → Searched (usable_translation c address) u 0 start' end' → end' ≡ 0 → Found (record { answer = 0; level = 0; start = 0; end = 0 })
      unfolding lookup_levels_level
      found_neither {start'} {end'} other nil =
          nowhere 0 (sym passes) (rw (passes, found_none c address t start end found zero, found_none c address u start' end' other nil))

      -- what the second search finds
      pub found_last : (r : Option Part) (s : Option FoundInLevels) → MatchOption r (s ≡ None) (λ part. IsSomeAnd s (λ f. f ≡ Second part))
          → Searched (usable_translation c address) u 0 (start_in r) (end_in r) → IfSome r (λ part. part.start < part.end)
          → Found (in_numbers (Ok s))
      found_last None s is other filled = rw is (found_neither other refl)
      found_last (Some part) None is other filled = absurd is
      found_last (Some part) (Some f) is other filled = rw is (found_second other (λ nil. absurd (omega (arith, filled, nil))))

  -- the level and the start that are told
  pub level_told : {r : FoundIn} → r ≡ found_in c address t u → lookup_levels_level c address t u ≡ r.level
  unfolding found_in
  level_told told = ap (λ (r : FoundIn). r.level) (sym told)

  pub start_told : {r : FoundIn} → r ≡ found_in c address t u → lookup_levels_start c address t u ≡ r.start
  unfolding found_in
  start_told told = ap (λ (r : FoundIn). r.start) (sym told)

-- an answer of 0 leaves two whole tables
pub both_whole : (c : Context) (t u : List ℕ) → lookup_levels_answer c t u ≡ 0 → (whole t ≡ true) × (whole u ≡ true)
unfolding lookup_levels_answer
both_whole c t u passes = go (eqb (lookup_answer c t) 0) refl passes
  where
    go : (b : Bool) → eqb (lookup_answer c t) 0 ≡ b → cond b (lookup_answer c u) (lookup_answer c t) ≡ 0 → (whole t ≡ true) × (whole u ≡ true)
    go true zero other = (lookup_answer_whole c t (eqb-true (lookup_answer c t) 0 zero), lookup_answer_whole c u other)
    go false some zero = absurd (false≢true (sym some ∙ eq-eqb (lookup_answer c t) 0 zero))
