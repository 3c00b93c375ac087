-- Rows about contexts as numbers: which numbers stand for a context, for which, and back. The fields of a row
-- differ, so that none is taken for another.
use Rattle.std.specs.Prelude.{ℕ, Bool, true, not, ◌&&◌, ◌≡◌, refl}
use Rattle.model.specs.declared.Context.{Context}
use Rattle.model.specs.declared.Place.{Place}
use Rattle.model.specs.declared.Place.TheVariants.{Outside, Root, Guest}
use Rattle.model.specs.declared.Ept.TheVariants.{Off, On}
use Rattle.flat_contexts.specs.declared.FlatContext.{FlatContext}
use Rattle.flat_contexts.specs.Contexts.{is_known, unflatten, flatten}

-- capability 11, N = 12, linear width 18, PCID 13 and CPL 14, with a place as a number
numbers : ℕ → ℕ → ℕ → ℕ → FlatContext
numbers place vpid ept ep4ta =
    record { capability = 11; width = 12; linear_width = 18; pcid = 13; cpl = 14; place = place; vpid = vpid; ept = ept; ep4ta = ep4ta }

-- and with a place
context : Place → Context
context place = record { capability = 11; width = 12; linear_width = 18; pcid = 13; cpl = 14; place = place }

-- fields that the place lacks may hold anything
known : Bool
known =
    is_known (numbers 0 15 2 17)
    && is_known (numbers 1 15 2 17)
    && is_known (numbers 2 15 0 17)
    && is_known (numbers 2 15 1 17)
    && not (is_known (numbers 2 15 2 17))
    && not (is_known (numbers 3 15 0 17))
    && not (is_known (numbers 3 15 1 17))

-- Every row holds.
record Rows : Type 0 where
  which : known ≡ true
  outside : unflatten (numbers 0 15 1 17) ≡ context Outside
  root : unflatten (numbers 1 15 1 17) ≡ context Root
  guest : unflatten (numbers 2 15 0 17) ≡ context (Guest (record { vpid = 15; ept = Off }))
  ept_guest : unflatten (numbers 2 15 1 17) ≡ context (Guest (record { vpid = 15; ept = On 17 }))
  from_outside : flatten (context Outside) ≡ numbers 0 0 0 0
  from_root : flatten (context Root) ≡ numbers 1 0 0 0
  from_guest : flatten (context (Guest (record { vpid = 15; ept = Off }))) ≡ numbers 2 15 0 0
  from_ept_guest : flatten (context (Guest (record { vpid = 15; ept = On 17 }))) ≡ numbers 2 15 1 17

cards_hold : Rows
unfolding numbers context known is_known unflatten flatten
cards_hold =
    record {
      which = refl;
      outside = refl;
      root = refl;
      guest = refl;
      ept_guest = refl;
      from_outside = refl;
      from_root = refl;
      from_guest = refl;
      from_ept_guest = refl;
    }
