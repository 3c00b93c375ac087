-- Document 01, "Events": what an event says, and when it is valid.
use Rattle.std.specs.Prelude.{ℕ, ◌-◌, ◌^◌, Bool, true, cond, not, ◌&&◌, ◌||◌, List, Option, Some, None, eqb, leb, ltb, length}
use Rattle.model.specs.declared.Event.{Event}
use Rattle.model.specs.declared.Event.TheVariants.{Creation, Invvpid, Invept, Invlpg, EptViolation, Entry, Exit, Vmxon, Vmxoff, NewPcid, Reset, Invpcid, MovToCr3}
use Rattle.model.specs.declared.Mapping.{Mapping}
use Rattle.model.specs.declared.Operands.{Operands}
use Rattle.model.specs.declared.Violation.{Violation}
use Rattle.model.specs.declared.Entry
use Rattle.model.specs.declared.NewPcid
use Rattle.model.specs.Bits.{bits, linear_bits, guest_physical_width, page_width}
use Rattle.model.specs.Context.{pcid_in_range, cpl_in_range}
use Rattle.model.specs.Layouts.{Field, field, kind_of, mapping_kind, event_kind, length_of}
use Rattle.model.specs.Mappings.{mapping, other_width, fields_in_range, covers}

-- "Canonical: bits 63 to 47 all equal." Document 02, Ask 12: "canonical then means bits 63:47 or 63:56 all equal", by
-- the linear width
unfoldable pub canonical : ℕ → ℕ → Bool
canonical width address =
    eqb (bits 63 (linear_bits width - 1) address) 0
    || eqb (bits 63 (linear_bits width - 1) address) (2 ^ (65 - linear_bits width) - 1)

-- "The page of an address is its bits 47 to 12."; "a linear page is bits 47:12 or 56:12" (Ask 12)
abbrev pub page_of : ℕ → ℕ → ℕ
page_of width address = bits (linear_bits width - 1) page_width address

-- a guest-physical page is bits 47:12 at any linear width
abbrev pub guest_physical_page_of : ℕ → ℕ
guest_physical_page_of address = bits (guest_physical_width - 1) page_width address

-- the mapping covers a linear address of that width, or a guest-physical address: `covers` with the page of either
abbrev pub covers_linear : ℕ → ℕ → Mapping → Bool
covers_linear width address m = covers m.span m.page (page_of width address)

abbrev pub covers_guest_physical : ℕ → Mapping → Bool
covers_guest_physical address m = covers m.span m.page (guest_physical_page_of address)

-- "the guest-physical address is below 2^48"
abbrev pub guest_physical_in_range : ℕ → Bool
guest_physical_in_range address = ltb address (2 ^ guest_physical_width)

-- "Flags are 0 or 1"
abbrev pub flag_in_range : ℕ → Bool
flag_in_range flag = leb flag 1

-- the fields of each event that has some, at the front of e
unfoldable pub operands : List ℕ → Operands
operands e = record { type_number = field Field.type_number e; low = field Field.low e; high = field Field.high e }

unfoldable pub violation : List ℕ → Violation
violation e =
    record {
      physical = field Field.guest_physical_address e;
      flag = field Field.linear_flag e;
      linear = field Field.linear_address e;
    }

unfoldable pub entry : List ℕ → Entry.Entry
entry e =
    record {
      vpids = field Field.vpid_enable e;
      vpid = field Field.vpid e;
      ept = field Field.ept_enable e;
      eptp = field Field.eptp e;
      pcid = field Field.pcid e;
      cpl = field Field.cpl e;
    }

unfoldable pub new_pcid : List ℕ → NewPcid.NewPcid
new_pcid e = record { pcid = field Field.pcid e; cpl = field Field.cpl e }

-- the event that bytes of a known kind stand for; what it says of other bytes is never asked, since
-- they are refused with 4
unfoldable pub event : List ℕ → Event
event e =
    cond (mapping_kind (kind_of e)) (Creation (mapping e))
    (cond (eqb (kind_of e) 16) (Invvpid (operands e))
    (cond (eqb (kind_of e) 17) (Invept (operands e))
    (cond (eqb (kind_of e) 18) (Invlpg (field Field.linear_address e))
    (cond (eqb (kind_of e) 19) (EptViolation (violation e))
    (cond (eqb (kind_of e) 20) (Entry (entry e))
    (cond (eqb (kind_of e) 21) (Exit (field Field.pcid e))
    (cond (eqb (kind_of e) 22) Vmxon
    (cond (eqb (kind_of e) 23) Vmxoff
    (cond (eqb (kind_of e) 24) (NewPcid (new_pcid e))
    (cond (eqb (kind_of e) 26) (Invpcid (operands e))
    (cond (eqb (kind_of e) 27) (MovToCr3 (field Field.pcid e)) Reset)))))))))))

-- the fields of an event are in their ranges: flags, PCID and CPL; "in kind 19 the guest-physical
-- address is below 2^48, and with flag 1 the linear address is canonical; with flag 0 it is not
-- looked at"; "A PCID above 4,095 in kind 27 is answer 4." (Ask 5). A creation is of the linear width (Ask 12).
unfoldable pub event_in_range : ℕ → Event → Bool
event_in_range width (Creation m) = fields_in_range m && not (other_width width m.kind)
event_in_range width (Invvpid o) = true
event_in_range width (Invept o) = true
event_in_range width (Invlpg address) = true
event_in_range width (EptViolation v) =
    guest_physical_in_range v.physical && flag_in_range v.flag && (eqb v.flag 0 || canonical width v.linear)
event_in_range width (Entry n) = flag_in_range n.vpids && flag_in_range n.ept && pcid_in_range n.pcid && cpl_in_range n.cpl
event_in_range width (Exit pcid) = pcid_in_range pcid
event_in_range width Vmxon = true
event_in_range width Vmxoff = true
event_in_range width (NewPcid n) = pcid_in_range n.pcid && cpl_in_range n.cpl
event_in_range width Reset = true
event_in_range width (Invpcid o) = true
event_in_range width (MovToCr3 pcid) = pcid_in_range pcid

-- "exactly one valid record", at a linear width
unfoldable pub valid_event : ℕ → List ℕ → Bool
valid_event width e = event_kind (kind_of e) && eqb (length e) (length_of (kind_of e)) && event_in_range width (event e)

-- what the event reader answers of the bytes e
unfoldable pub event_reading : ℕ → List ℕ → Option Event
event_reading width e = cond (valid_event width e) (Some (event e)) None
