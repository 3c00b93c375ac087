-- Contexts as flat structs of numbers, for callers in other languages.
use Rattle.std.specs.Prelude.{ℕ, Bool, cond, ◌&&◌, ◌||◌, eqb, leb}
use Rattle.model.specs.declared.Context.{Context}
use Rattle.model.specs.declared.Place.{Place}
use Rattle.model.specs.declared.Place.TheVariants.{Outside, Root, Guest}
use Rattle.model.specs.declared.Ept.{Ept}
use Rattle.model.specs.declared.Ept.TheVariants.{Off, On}
use Rattle.flat_contexts.specs.declared.FlatContext.{FlatContext}

-- the place is 0, 1 or 2, and in a guest the EPT number 0 or 1
unfoldable pub is_known : FlatContext → Bool
is_known c = leb c.place 1 || (eqb c.place 2 && leb c.ept 1)

-- the context that such numbers stand for
unfoldable pub unflatten : FlatContext → Context
unflatten c =
    record {
      capability = c.capability;
      width = c.width;
      linear_width = c.linear_width;
      pcid = c.pcid;
      cpl = c.cpl;
      place =
          cond (eqb c.place 0) Outside
          (cond (eqb c.place 1) Root
          (Guest (record { vpid = c.vpid; ept = cond (eqb c.ept 1) (On c.ep4ta) Off })));
    }

-- a context as numbers; a field that the place lacks is 0
abbrev pub with_place : Context → ℕ → ℕ → ℕ → ℕ → FlatContext
with_place c place vpid ept ep4ta =
    record {
      capability = c.capability;
      width = c.width;
      linear_width = c.linear_width;
      pcid = c.pcid;
      cpl = c.cpl;
      place = place;
      vpid = vpid;
      ept = ept;
      ep4ta = ep4ta;
    }

abbrev pub flatten_guest : Context → ℕ → Ept → FlatContext
flatten_guest c vpid Off = with_place c 2 vpid 0 0
flatten_guest c vpid (On ep4ta) = with_place c 2 vpid 1 ep4ta

abbrev pub flatten_at : Context → Place → FlatContext
flatten_at c Outside = with_place c 0 0 0 0
flatten_at c Root = with_place c 1 0 0 0
flatten_at c (Guest g) = flatten_guest c g.vpid g.ept

unfoldable pub flatten : Context → FlatContext
flatten c = flatten_at c c.place
