-- Rows about results as flat structs, all under one statement. The numbers of a row differ, so that none is taken
-- for another.
use Rattle.std.specs.Prelude.{ℕ, Bool, true, false, [], ◌∷◌, ◌≡◌, refl, replicate}
use Rattle.model.specs.declared.Context.{Context}
use Rattle.model.specs.declared.Place.TheVariants.{Root}
use Rattle.model.specs.declared.Address.TheVariants.{Linear}
use Rattle.logs.specs.declared.Replayed.{Replayed}
use Rattle.flat_contexts.specs.declared.FlatContext.{FlatContext}
use Rattle.flat_contexts.specs.Contexts.{is_known, flatten}
use Rattle.skuldrefn.specs.Flat.{flat_step, flat_written, flat_lookup, flat_explanation, flat_judgement, flat_walk, fresh, flat_replayed}

-- a context in root, the same as numbers, and numbers that stand for nothing
context : Context
context = record { capability = 11; width = 12; linear_width = 15; pcid = 13; cpl = 14; place = Root }

numbers : ℕ → FlatContext
numbers place = record { capability = 11; width = 12; linear_width = 15; pcid = 13; cpl = 14; place = place; vpid = 0; ept = 0; ep4ta = 0 }

-- a replay whose table is in the first buffer or in the second
replay : Bool → Replayed
replay first = record { context = context; length = 21; count = 22; first = first }

-- Every row holds.
record Rows : Type 0 where
  unknown : flat_step (numbers 3) [] (25 ∷ []) 64 ≡ record { answer = 1; rule = 0; context = numbers 3; length = 0; dropped = 0 }
  unwritten : flat_written (numbers 3) [] (25 ∷ []) (7 ∷ []) ≡ 7 ∷ []
  nowhere : flat_lookup (numbers 3) (Linear 0) [] 0 ≡ record { answer = 1; start = 0; length = 0 }
  unexplained : flat_explanation (numbers 3) [] [] ≡ record { reason = 1; answer = 1; rule = 0 }
  unjudged : flat_judgement (numbers 3) [] [] [] ≡ record { number = 1; answer = 1; rule = 0; position = 0 }
  unwalked : flat_walk (numbers 3) [] 0 0 0 0
      ≡ record { ending = record { number = 1; rule = 0; guest_level = 0; ept_level = 0; address = 0 }; read = 0; «record» = replicate 22 0 }
  first : flat_replayed (replay true) ≡ record { context = numbers 1; length = 21; first = 1; count = 22 }
  second : flat_replayed (replay false) ≡ record { context = numbers 1; length = 21; first = 0; count = 22 }
  begun : flatten (fresh 11 12 15)
      ≡ record { capability = 11; width = 12; linear_width = 15; pcid = 0; cpl = 0; place = 0; vpid = 0; ept = 0; ep4ta = 0 }

cards_hold : Rows
unfolding context numbers replay is_known flatten flat_step flat_written flat_lookup flat_explanation flat_judgement flat_walk flat_replayed
cards_hold =
    record {
      unknown = refl;
      unwritten = refl;
      nowhere = refl;
      unexplained = refl;
      unjudged = refl;
      unwalked = refl;
      first = refl;
      second = refl;
      begun = refl;
    }
