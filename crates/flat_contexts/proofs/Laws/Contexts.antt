-- A context written out as numbers is known, and read back it is the same.
use Rattle.std.specs.Prelude.{ℕ, true, ◌≡◌, refl}
use Rattle.model.specs.declared.Context.{Context}
use Rattle.model.specs.declared.Place.{Place}
use Rattle.model.specs.declared.Place.TheVariants.{Outside, Root, Guest}
use Rattle.model.specs.declared.Ept.{Ept}
use Rattle.model.specs.declared.Ept.TheVariants.{Off, On}
use Rattle.model.specs.Context.{moved}
use Rattle.flat_contexts.specs.Contexts.{is_known, unflatten, flatten_guest, flatten_at, flatten}

-- the context with a place
abbrev at : Context → Place → Context
at c place = moved c c.pcid c.cpl place

unflatten_guest : (c : Context) (vpid : ℕ) (ept : Ept) → unflatten (flatten_guest c vpid ept) ≡ at c (Guest (record { vpid = vpid; ept = ept }))
unfolding unflatten
unflatten_guest c vpid Off = refl
unflatten_guest c vpid (On ep4ta) = refl

unflatten_at : (c : Context) (place : Place) → unflatten (flatten_at c place) ≡ at c place
unfolding unflatten
unflatten_at c Outside = refl
unflatten_at c Root = refl
unflatten_at c (Guest g) = unflatten_guest c g.vpid g.ept

pub unflatten_flatten : (c : Context) → unflatten (flatten c) ≡ c
unfolding flatten
unflatten_flatten c = unflatten_at c c.place

known_guest : (c : Context) (vpid : ℕ) (ept : Ept) → is_known (flatten_guest c vpid ept) ≡ true
unfolding is_known
known_guest c vpid Off = refl
known_guest c vpid (On ep4ta) = refl

known_at : (c : Context) (place : Place) → is_known (flatten_at c place) ≡ true
unfolding is_known
known_at c Outside = refl
known_at c Root = refl
known_at c (Guest g) = known_guest c g.vpid g.ept

pub is_known_flatten : (c : Context) → is_known (flatten c) ≡ true
unfolding flatten
is_known_flatten c = known_at c c.place
