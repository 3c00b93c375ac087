-- Document 02, Ask 13: "Work out what may be cached". A walk of the guest's four levels, each address through EPT's four.
-- Levels are numbered as the manual does: 4 is the PML4, 3 the PDPT, 2 the page directory, 1 the page table. Level 0 is
-- no table any more: the address of a page is known.
use Rattle.std.specs.Prelude.{ℕ, zero, suc, min, ◌+◌, ◌-◌, ◌*◌, ◌/◌, ◌%◌, ◌^◌, Bool, cond, not, ◌&&◌, ◌||◌, List, ◌++◌, Result, Ok, Err, eqb, leb, length, replicate}
use Rattle.model.specs.declared.Context.{Context}
use Rattle.model.specs.Bits.{bits, bit, number, bytes}
use Rattle.model.specs.Context.{in_range}
use Rattle.model.specs.Mappings.{pages}
use Rattle.model.specs.Events.{canonical, page_of, guest_physical_in_range}
use Rattle.model.specs.Scopes.{ep4ta_of}
use Rattle.model.specs.Answers.{eptp_rule}
use Rattle.walks.specs.declared.Spot.{Spot}
use Rattle.walks.specs.declared.Translation.{Translation}
use Rattle.walks.specs.declared.Ground.{Ground}
use Rattle.walks.specs.declared.Ground.TheVariants.{ContextOutOfRange, BadEptp, NotCanonical, Absent, TooHigh, Outside}
use Rattle.walks.specs.declared.Stopped.{Stopped}
use Rattle.walks.specs.declared.Physical.{Physical}
use Rattle.walks.specs.declared.Found.{Found}
use Rattle.walks.specs.declared.Outcome.{Outcome}
use Rattle.walks.specs.declared.Values.{Values}

-- what a walk reads: which entries of 8 bytes are there, by physical address, and what they are
pub record Memory : Type 0 where
  pub inside : ℕ → Bool
  pub entry : ℕ → ℕ

-- "a lent memory image from physical address 0"; "a read outside the image" is one of which a byte is
abbrev pub memory : List ℕ → Memory
memory image = record { inside = λ at. leb (at + 8) (length image); entry = λ at. number 8 at image }

-- which entry of a table an address takes at a level: bits 47:39, 38:30, 29:21 and 20:12 at levels 4 to 1
abbrev pub index : ℕ → ℕ → ℕ
index level address = address / 2 ^ (9 * level + 3) % 512

-- where that entry stands, in a table at a base: entries have 8 bytes
abbrev pub entry_place : ℕ → ℕ → ℕ → ℕ
entry_place base level address = base + 8 * index level address

-- "The address an entry holds is its bits 51:12"
abbrev pub held : ℕ → ℕ
held entry = 4096 * bits 51 12 entry

-- "A guest entry is present if bit 0 is set, an EPT entry if any of bits 2:0 is."
abbrev pub guest_present : ℕ → Bool
guest_present entry = bit 0 entry

abbrev pub ept_present : ℕ → Bool
ept_present entry = not (eqb (bits 2 0 entry) 0)

-- "Large pages are bit 7 at the two middle levels, 2 MiB and 1 GiB."
abbrev pub large : ℕ → ℕ → Bool
large level entry = (eqb level 2 || eqb level 3) && bit 7 entry

-- how many bytes a page of a span has: 4 KBytes, 2 MBytes, 1 GByte
abbrev pub page_size : ℕ → ℕ
page_size span = 2 ^ (12 + 9 * span)

-- where an address lies in the page at a base: the base "rounded down to the page size", and the offset
abbrev pub in_page : ℕ → ℕ → ℕ → ℕ
in_page base span address = base / page_size span * page_size span + address % page_size span

-- a ground at a level of the guest and one of EPT, with the address that it is about
abbrev pub spot : ℕ → ℕ → ℕ → Spot
spot guest ept address = record { guest_level = guest; ept_level = ept; address = address }

-- The numbers of the endings: 0, a translation; then the grounds in the order of the ask. With them the rule of a bad
-- EPTP and where a ground was met, 0 where there is none.
abbrev pub values : ℕ → ℕ → Spot → Values
values number rule at =
    record {
      number = number;
      rule = rule;
      guest_level = at.guest_level;
      ept_level = at.ept_level;
      address = at.address;
    }

abbrev pub ending_values : Result Translation Ground → Values
ending_values (Ok t) = values 0 0 (spot 0 0 0)
ending_values (Err ContextOutOfRange) = values 1 0 (spot 0 0 0)
ending_values (Err (BadEptp rule)) = values 2 rule (spot 0 0 0)
ending_values (Err NotCanonical) = values 3 0 (spot 0 0 0)
ending_values (Err (Absent at)) = values 4 0 at
ending_values (Err (TooHigh at)) = values 5 0 at
ending_values (Err (Outside at)) = values 6 0 at

-- a ground is met, with so many entries read
abbrev pub stopped : {T : Type 0} → Ground → ℕ → Result T Stopped
stopped met read = Err (record { met = met; read = read })

-- a walk ends with a translation, or at a ground, with so many entries read
abbrev pub ended : Result Translation Ground → ℕ → Result Found Stopped
ended (Ok t) read = Ok (record { translation = t; read = read })
ended (Err met) read = stopped met read

abbrev pub ending_of : Result Found Stopped → Result Translation Ground
ending_of (Ok f) = Ok f.translation
ending_of (Err s) = Err s.met

abbrev pub read_of : Result Found Stopped → ℕ
read_of (Ok f) = f.read
read_of (Err s) = s.read

-- a page of a span at a base is found in EPT
abbrev pub reached : ℕ → ℕ → ℕ → ℕ → Physical
reached base span address read = record { address = in_page base span address; span = span; read = read }

-- a level's EPT entry, at a physical address: it is read, and what it holds comes next. `guest` is the guest's
-- level, for which an address goes through EPT; so many entries were read before. "Report the entries read, a refused
-- outside read not counted".
unfoldable pub ept_entry : (ℕ → Result Physical Stopped) → Memory → ℕ → ℕ → ℕ → ℕ → ℕ → Result Physical Stopped
ept_entry go m guest address level at read =
    cond (not (m.inside at)) (stopped (Outside (spot guest level at)) read)
    (cond (not (ept_present (m.entry at))) (stopped (Absent (spot guest level at)) (read + 1))
    (cond (large level (m.entry at)) (Ok (reached (held (m.entry at)) (level - 1) address (read + 1))) (go (held (m.entry at)))))

-- An address goes through EPT, with so many levels left from the table at a base; at level 0 a 4-KByte page is
-- there.
unfoldable pub ept_from : Memory → ℕ → ℕ → ℕ → ℕ → ℕ → Result Physical Stopped
ept_from m guest address zero base read = Ok (reached base 0 address read)
ept_from m guest address (suc n) base read =
    ept_entry (λ next. ept_from m guest address n next (read + 1)) m guest address (suc n) (entry_place base (suc n) address) read

-- a guest-physical address through EPT, whose first table is at the physical address `ept`: "2^48 or more" is a ground,
-- before EPT is read
unfoldable pub ept_walk : Memory → ℕ → ℕ → ℕ → ℕ → Result Physical Stopped
ept_walk m ept guest address read =
    cond (guest_physical_in_range address) (ept_from m guest address 4 ept read)
    (stopped (TooHigh (spot guest 0 address)) read)

-- a walk goes on from the physical address, or has stopped
abbrev pub then : Result Physical Stopped → (Physical → Result Found Stopped) → Result Found Stopped
then (Ok p) go = go p
then (Err s) go = Err s

-- "the combined translation ..., with the smaller of the two sizes, its page and frame rounded down to that size,
-- global as bit 8 of the last guest entry"
abbrev pub rounded : ℕ → ℕ → ℕ
rounded span x = x / pages span * pages span

unfoldable pub translation : ℕ → ℕ → ℕ → Physical → Translation
translation address span global p =
    record {
      span = min span p.span;
      page = rounded (min span p.span) (page_of 48 address);
      frame = rounded (min span p.span) (p.address / 4096);
      global = global;
    }

-- "Each guest entry's address goes through EPT before it is read, and so does the final one." The final one, in a page
-- of a span at a base of guest-physical addresses.
unfoldable pub final_from : Memory → ℕ → ℕ → ℕ → ℕ → ℕ → ℕ → Result Found Stopped
final_from m ept address base span global read =
    then (ept_walk m ept 0 (in_page base span address) read)
    (λ p. ended (Ok (translation address span global p)) p.read)

-- a level's guest entry, at a physical address: it is read, and the walk goes on from what it holds
unfoldable pub guest_entry : (ℕ → ℕ → ℕ → Result Found Stopped) → Memory → ℕ → ℕ → ℕ → ℕ → ℕ → Result Found Stopped
guest_entry go m ept address level at read =
    cond (not (m.inside at)) (stopped (Outside (spot level 0 at)) read)
    (cond (not (guest_present (m.entry at))) (stopped (Absent (spot level 0 at)) (read + 1))
    (cond (large level (m.entry at)) (final_from m ept address (held (m.entry at)) (level - 1) (bits 8 8 (m.entry at)) (read + 1))
    (go (held (m.entry at)) (bits 8 8 (m.entry at)) (read + 1))))

-- a level's guest entry, at a guest-physical address: it goes through EPT, and the walk goes on from there
unfoldable pub through_ept : (ℕ → ℕ → ℕ → Result Found Stopped) → Memory → ℕ → ℕ → ℕ → ℕ → ℕ → Result Found Stopped
through_ept go m ept address level at read =
    then (ept_walk m ept level at read) (λ p. guest_entry go m ept address level p.address p.read)

-- The walk of a linear address with so many of the guest's levels left from the table at a base, a guest-physical
-- address; at level 0 a 4-KByte page is there. The global mark is the last guest entry's.
unfoldable pub guest_from : Memory → ℕ → ℕ → ℕ → ℕ → ℕ → ℕ → Result Found Stopped
guest_from m ept address zero base global read = final_from m ept address base 0 global read
guest_from m ept address (suc n) base global read =
    through_ept (λ next mark count. guest_from m ept address n next mark count) m ept address (suc n)
    (entry_place base (suc n) address) read

-- "a root table (a guest-physical address, bits 11:0 ignored)"
abbrev pub root_base : ℕ → ℕ
root_base root = root / 4096 * 4096

-- "the first ground met: context out of range, bad EPTP, address not canonical at 48 bits", and then the walk. The EPT
-- tables start at the EPTP's EP4TA.
unfoldable pub walk_in : Memory → Context → ℕ → ℕ → ℕ → Result Found Stopped
walk_in m c root eptp address =
    cond (not (in_range c)) (stopped ContextOutOfRange 0)
    (cond (not (eqb (eptp_rule c eptp) 0)) (stopped (BadEptp (eptp_rule c eptp)) 0)
    (cond (not (canonical 48 address)) (stopped NotCanonical 0)
    (guest_from m (4096 * ep4ta_of eptp) address 4 (root_base root) 0 0)))

-- "a kind 3 record": "VPID 2, PCID 2, global 1, span 1, page 5, frame 5, then EP4TA 5"
unfoldable pub combined_record : ℕ → ℕ → ℕ → Translation → List ℕ
combined_record vpid pcid ep4ta t =
    bytes 1 3
    ++ (bytes 2 vpid
    ++ (bytes 2 pcid
    ++ (bytes 1 t.global ++ (bytes 1 t.span ++ (bytes 5 t.page ++ (bytes 5 t.frame ++ bytes 5 ep4ta))))))

-- the record of a walk: all 0 where it met a ground
unfoldable pub record_of : ℕ → ℕ → ℕ → Result Translation Ground → List ℕ
record_of vpid pcid ep4ta (Ok t) = combined_record vpid pcid ep4ta t
record_of vpid pcid ep4ta (Err met) = replicate 22 0

-- What a walk answers: "with capability, N and PCID from a context". "Reserved bits and access rights are not checked."
unfoldable pub walk_of : Memory → Context → ℕ → ℕ → ℕ → ℕ → Outcome
walk_of m c root eptp vpid address =
    record {
      ending = ending_of (walk_in m c root eptp address);
      read = read_of (walk_in m c root eptp address);
      «record» = record_of vpid c.pcid (ep4ta_of eptp) (ending_of (walk_in m c root eptp address));
    }
