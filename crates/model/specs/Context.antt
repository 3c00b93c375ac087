-- Document 01, "Context".
use Rattle.std.specs.Prelude.{ℕ, ◌^◌, Bool, true, false, ◌&&◌, ◌||◌, eqb, leb, ltb}
use Rattle.model.specs.declared.Context.{Context}
use Rattle.model.specs.declared.Place.{Place}
use Rattle.model.specs.declared.Place.TheVariants.{Outside, Root, Guest}
use Rattle.model.specs.declared.Ept.{Ept}
use Rattle.model.specs.declared.Ept.TheVariants.{Off, On}

-- "PCID: 0 to 4,095", of a context, a record and an event alike
abbrev pub pcid_in_range : ℕ → Bool
pcid_in_range pcid = leb pcid 4095

-- "CPL: 0 to 3"
abbrev pub cpl_in_range : ℕ → Bool
cpl_in_range cpl = leb cpl 3

-- an EPT state is off or "an EP4TA below 2^40"
abbrev pub ept_in_range : Ept → Bool
ept_in_range Off = true
ept_in_range (On ep4ta) = ltb ep4ta (2 ^ 40)

-- "A guest place carries a VPID and an EPT state"; "VPID: 0 to 65,535"
abbrev pub place_in_range : Place → Bool
place_in_range Outside = true
place_in_range Root = true
place_in_range (Guest guest) = leb guest.vpid 65535 && ept_in_range guest.ept

-- "a linear width, 48 or 57" (document 02, Ask 12)
abbrev pub linear_width_in_range : ℕ → Bool
linear_width_in_range width = eqb width 48 || eqb width 57

-- every field is in its range; the capability is any number
unfoldable pub in_range : Context → Bool
in_range c =
    leb 36 c.width
    && leb c.width 52
    && linear_width_in_range c.linear_width
    && pcid_in_range c.pcid
    && cpl_in_range c.cpl
    && place_in_range c.place

-- the three places, as tests
abbrev pub outside : Place → Bool
outside Outside = true
outside Root = false
outside (Guest guest) = false

abbrev pub in_root : Place → Bool
in_root Outside = false
in_root Root = true
in_root (Guest guest) = false

abbrev pub in_guest : Place → Bool
in_guest Outside = false
in_guest Root = false
in_guest (Guest guest) = true

-- "The current VPID is 0 outside and in root"; in a guest it is the guest's
abbrev pub current_vpid : Place → ℕ
current_vpid Outside = 0
current_vpid Root = 0
current_vpid (Guest guest) = guest.vpid

-- EPT is in use only in a guest whose EPT state is not off
abbrev pub current_ept : Place → Ept
current_ept Outside = Off
current_ept Root = Off
current_ept (Guest guest) = guest.ept

-- a context with another place, PCID and CPL
abbrev pub moved : Context → ℕ → ℕ → Place → Context
moved c pcid cpl place =
    record {
      capability = c.capability;
      width = c.width;
      linear_width = c.linear_width;
      pcid = pcid;
      cpl = cpl;
      place = place;
    }

-- "After a reset: outside, PCID 0, CPL 0; capability and N stay."; "A reset keeps the [linear] width." (Ask 12)
unfoldable pub after_reset : Context → Context
after_reset c = moved c 0 0 Outside
