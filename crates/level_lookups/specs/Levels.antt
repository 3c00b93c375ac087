-- Document 02, Ask 10: "Let a lookup of a linear address take two tables and hand back the first usable translation (kind
-- 1 or 3), from the first-level table if it has one and else from the second."
use Rattle.std.specs.Prelude.{ℕ, ◌+◌, ◌-◌, ◌≤◌, Bool, true, false, cond, not, ◌&&◌, List, [], ◌∷◌, Option, Some, None, Result, Ok, Err, ◌≡◌, eqb, length, get_or, take, drop}
use Rattle.model.specs.declared.Context.{Context}
use Rattle.model.specs.declared.Address.TheVariants.{Linear}
use Rattle.model.specs.declared.Mapping.{Mapping}
use Rattle.model.specs.declared.Refusal.{Refusal}
use Rattle.model.specs.Mappings.{mapping, structure_cache}
use Rattle.model.specs.Refusals.{refusal_number}
use Rattle.model.specs.Tables.{records, only}
use Rattle.model.specs.Lookups.{usable, lookup_answer, start_of}
use Rattle.level_lookups.specs.declared.FoundInLevels.{FoundInLevels}
use Rattle.level_lookups.specs.declared.FoundInLevels.TheVariants.{First, Second}

-- a usable translation: document 01's usable records that are no structure cache, so "kind 1 or 3", and at 57 bits 7 or 8
unfoldable pub usable_translation : Context → ℕ → Mapping → Bool
usable_translation c address m = usable c (Linear address) m && not (structure_cache m.kind)

-- the usable translations of a table, in order
unfoldable pub usable_translations : Context → ℕ → List ℕ → List (List ℕ)
usable_translations c address t = only (λ r. usable_translation c address (mapping r)) (records t)

-- there are some
abbrev pub some_of : List (List ℕ) → Bool
some_of [] = false
some_of (r ∷ rs) = true

-- "the number is the first table's, or the second's where that is 0"
abbrev pub first_or_second : ℕ → ℕ → ℕ
first_or_second n m = cond (eqb n 0) m n

unfoldable pub lookup_levels_answer : Context → List ℕ → List ℕ → ℕ
lookup_levels_answer c t u = first_or_second (lookup_answer c t) (lookup_answer c u)

-- which table has the part: 1 "the first-level table if it has one", 2 "else ... the second"; 0 where "there is none or
-- either table is refused"
unfoldable pub lookup_levels_level : Context → ℕ → List ℕ → List ℕ → ℕ
lookup_levels_level c address t u =
    cond (eqb (lookup_levels_answer c t u) 0)
    (cond (some_of (usable_translations c address t)) 1 (cond (some_of (usable_translations c address u)) 2 0))
    0

-- what is said of the table of a level, and of none
abbrev pub of_level : {A : Type 0} → ℕ → A → A → A → A
of_level level x y none = cond (eqb level 1) x (cond (eqb level 2) y none)

-- the part, and where it starts in its table: 0 where it is empty
unfoldable pub lookup_levels : Context → ℕ → List ℕ → List ℕ → List ℕ
lookup_levels c address t u =
    of_level (lookup_levels_level c address t u) (get_or (usable_translations c address t) 0 []) (get_or (usable_translations c address u) 0 []) []

unfoldable pub lookup_levels_start : Context → ℕ → List ℕ → List ℕ → ℕ
lookup_levels_start c address t u =
    of_level (lookup_levels_level c address t u)
    (start_of (λ r. usable_translation c address (mapping r)) 0 (records t) 0)
    (start_of (λ r. usable_translation c address (mapping r)) 0 (records u) 0)
    0

-- what a lookup tells, in numbers: its answer, the level that has the part, and where the part starts and ends there
pub record FoundIn : Type 0 where
  pub answer : ℕ
  pub level : ℕ
  pub start : ℕ
  pub end : ℕ

unfoldable pub found_in : Context → ℕ → List ℕ → List ℕ → FoundIn
found_in c address t u =
    record {
      answer = lookup_levels_answer c t u;
      level = lookup_levels_level c address t u;
      start = lookup_levels_start c address t u;
      end = lookup_levels_start c address t u + length (lookup_levels c address t u);
    }

-- the numbers of what is found: level 1 or 2, and 0, 0 and 0 where there is none or a table is refused
abbrev pub in_numbers : Result (Option FoundInLevels) Refusal → FoundIn
in_numbers (Ok None) = record { answer = 0; level = 0; start = 0; end = 0 }
in_numbers (Ok (Some (First part))) = record { answer = 0; level = 1; start = part.start; end = part.end }
in_numbers (Ok (Some (Second part))) = record { answer = 0; level = 2; start = part.start; end = part.end }
in_numbers (Err refusal) = record { answer = refusal_number refusal; level = 0; start = 0; end = 0 }

-- the part stands there, between start and end of the table of its level
pub record Stands (c : Context) (address : ℕ) (t u : List ℕ) (r : FoundIn) : Type 0 where
  pub ordered : r.start ≤ r.end
  pub within : r.end ≤ length (cond (eqb r.level 2) u t)
  pub part : take (r.end - r.start) (drop r.start (cond (eqb r.level 2) u t)) ≡ lookup_levels c address t u
