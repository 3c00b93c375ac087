-- Rows about walks (document 02, Ask 13), all under one statement. Their memories are made up: a few entries by physical
-- address, and nothing else is inside.
use Rattle.std.specs.Prelude.{ℕ, zero, suc, ◌+◌, ◌-◌, ◌^◌, Bool, true, false, cond, ◌||◌, List, [], ◌∷◌, ◌++◌, map, Result, Ok, Err, ◌≡◌, refl, eqb, replicate}
use Rattle.model.specs.declared.Context.{Context}
use Rattle.model.specs.declared.Place.TheVariants.{Root}
use Rattle.model.specs.Bits.{bits, bytes}
use Rattle.model.specs.Context.{in_range}
use Rattle.model.specs.Events.{canonical}
use Rattle.model.specs.Answers.{first, eptp_rule}
use Rattle.walks.specs.declared.Translation.{Translation}
use Rattle.walks.specs.declared.Ground.TheVariants.{ContextOutOfRange, BadEptp, NotCanonical, Absent, TooHigh, Outside}
use Rattle.walks.specs.declared.Stopped.{Stopped}
use Rattle.walks.specs.declared.Found.{Found}
use Rattle.walks.specs.Walks.{Memory, memory, index, spot, stopped, ended, ept_entry, ept_from, ept_walk, translation, final_from, guest_entry, through_ept, guest_from, walk_in, combined_record, record_of, walk_of, ending_values}

-- the manual's bits of an index
index_4 : (a : ℕ) → index 4 a ≡ bits 47 39 a
index_4 a = refl

index_3 : (a : ℕ) → index 3 a ≡ bits 38 30 a
index_3 a = refl

index_2 : (a : ℕ) → index 2 a ≡ bits 29 21 a
index_2 a = refl

index_1 : (a : ℕ) → index 1 a ≡ bits 20 12 a
index_1 a = refl

-- a memory of the entries of a list
listed : List (ℕ × ℕ) → ℕ → Bool
listed [] at = false
listed (x ∷ xs) at = eqb at x.0 || listed xs at

value : List (ℕ × ℕ) → ℕ → ℕ
value [] at = 0
value (x ∷ xs) at = cond (eqb at x.0) x.1 (value xs at)

of_list : List (ℕ × ℕ) → Memory
of_list xs = record { inside = listed xs; entry = value xs }

-- the program's capability, N = 52, PCID 1; the EPT tables start at 1000h, the guest's at the guest-physical address 10000h
context : ℕ → ℕ → Context
context pcid width =
    record { capability = 0xF0106304140; width = 52; linear_width = width; pcid = pcid; cpl = 0; place = Root }

-- the same with N = 40
narrow : Context
narrow = record { capability = 0xF0106304140; width = 40; linear_width = 48; pcid = 1; cpl = 0; place = Root }

eptp : ℕ
eptp = 0x101E

root : ℕ
root = 0x10ABC

-- its indexes are 0xDE, 0xD1, 0xB3 and 0x189
address : ℕ
address = 0x6F3456789ABC

-- ---- 4 KBytes everywhere: EPT maps the guest's five pages one by one
ept_small : List (ℕ × ℕ)
ept_small =
    (0x1000, 0x2007)
    ∷ (0x2000, 0x3007)
    ∷ (0x3000, 0x4007)
    ∷ (0x4080, 0x20007)
    ∷ (0x4088, 0x21007)
    ∷ (0x4090, 0x22007)
    ∷ (0x4098, 0x23007)
    ∷ (0x40A0, 0xABCDE007)
    ∷ []

-- the guest's four entries, where EPT puts them
guest_small : List (ℕ × ℕ)
guest_small = (0x206F0, 0x11001) ∷ (0x21688, 0x12001) ∷ (0x22598, 0x13001) ∷ (0x23C48, 0x14101) ∷ []

small : List (ℕ × ℕ)
small = ept_small ++ guest_small

-- ---- the nine pairs of sizes. EPT maps the first GiB, where the guest's tables are, as it is; the guest's page lies in
-- the second. The low address bits of a large page's entry are set: they are rounded away. The last guest entry is
-- global.
front : List (ℕ × ℕ)
front = (0x1000, 0x2007) ∷ (0x2000, 0x87) ∷ (0x106F0, 0x11001) ∷ []

guest_page : ℕ → List (ℕ × ℕ)
guest_page zero = (0x11688, 0x12001) ∷ (0x12598, 0x13001) ∷ (0x13C48, 0x40765101) ∷ []
guest_page (suc zero) = (0x11688, 0x12001) ∷ (0x12598, 0x40603181) ∷ []
guest_page (suc (suc n)) = (0x11688, 0x40003181) ∷ []

-- the entries of the guest-physical address: where the page directory's stands, and the page table's
directory_entry : ℕ → ℕ
directory_entry zero = 0x3018
directory_entry (suc zero) = 0x3018
directory_entry (suc (suc n)) = 0x3598

table_entry : ℕ → ℕ
table_entry zero = 0x4B28
table_entry (suc zero) = 0x4C48
table_entry (suc (suc n)) = 0x4C48

ept_page : ℕ → ℕ → List (ℕ × ℕ)
ept_page guest zero = (0x2008, 0x3007) ∷ (directory_entry guest, 0x4007) ∷ (table_entry guest, 0xA0345007) ∷ []
ept_page guest (suc zero) = (0x2008, 0x3007) ∷ (directory_entry guest, 0x90203087) ∷ []
ept_page guest (suc (suc n)) = (0x2008, 0x80003087) ∷ []

pair : ℕ → ℕ → Result Found Stopped
pair guest ept = walk_in (of_list (front ++ guest_page guest ++ ept_page guest ept)) (context 1 48) root eptp address

translated : ℕ → ℕ → ℕ → ℕ → Result Found Stopped
translated span page frame read = ended (Ok (record { span = span; page = page; frame = frame; global = 1 })) read

walked : List (ℕ × ℕ) → Result Found Stopped
walked xs = walk_in (of_list xs) (context 1 48) root eptp address

found : Translation
found = record { span = 1; page = 2; frame = 3; global = 1 }

-- Every row holds.
record Rows : Type 0 where
  -- 24 entries
  most : walked small ≡ translated 0 0x6F3456789 0xABCDE 24
  pair_0_0 : pair 0 0 ≡ translated 0 0x6F3456789 0xA0345 16
  pair_0_1 : pair 0 1 ≡ translated 0 0x6F3456789 0x90365 15
  pair_0_2 : pair 0 2 ≡ translated 0 0x6F3456789 0x80765 14
  pair_1_0 : pair 1 0 ≡ translated 0 0x6F3456789 0xA0345 13
  pair_1_1 : pair 1 1 ≡ translated 1 0x6F3456600 0x90200 12
  pair_1_2 : pair 1 2 ≡ translated 1 0x6F3456600 0x80600 11
  pair_2_0 : pair 2 0 ≡ translated 0 0x6F3456789 0xA0345 10
  pair_2_1 : pair 2 1 ≡ translated 1 0x6F3456600 0x90200 9
  pair_2_2 : pair 2 2 ≡ translated 2 0x6F3440000 0x80000 8
  -- the record, of VPID 5 and PCID 1; and none
  bytes_of_record : (walk_of (of_list small) (context 1 57) root eptp 5 address).«record»
      ≡ 3 ∷ 5 ∷ 0 ∷ 1 ∷ 0 ∷ 1 ∷ 0 ∷ 0x89 ∷ 0x67 ∷ 0x45 ∷ 0xF3 ∷ 6 ∷ 0xDE ∷ 0xBC ∷ 0xA ∷ 0 ∷ 0 ∷ 1 ∷ 0 ∷ 0 ∷ 0 ∷ 0 ∷ []
  no_record : map (record_of 5 1 1) (map Err (ContextOutOfRange ∷ BadEptp 5 ∷ NotCanonical ∷ Absent (spot 1 2 9) ∷ TooHigh (spot 1 2 9) ∷ Outside (spot 1 2 9) ∷ []))
      ≡ replicate 6 (replicate 22 0)
  -- the grounds before the walk, each before the next
  out_of_range : walk_in (of_list []) (context 4096 48) root 0x101F (2 ^ 47) ≡ stopped ContextOutOfRange 0
  bad_eptp : walk_in (of_list []) (context 1 57) root 0x101F (2 ^ 47) ≡ stopped (BadEptp 1) 0
  -- canonical at 48 bits, at linear width 57 too
  not_canonical : walk_in (of_list []) (context 1 57) root eptp (2 ^ 47) ≡ stopped NotCanonical 0
  highest : walk_in (of_list []) (context 1 48) root eptp (2 ^ 64 - 1) ≡ stopped (Outside (spot 4 4 0x1000)) 0
  -- an EPT entry that is outside is not counted; one that is absent is
  ept_outside : walked ((0x1000, 0x2007) ∷ []) ≡ stopped (Outside (spot 4 3 0x2000)) 1
  ept_absent : walked ((0x1000, 0x2007) ∷ (0x2000, 0x3FF8) ∷ []) ≡ stopped (Absent (spot 4 3 0x2000)) 2
  -- a guest entry
  guest_outside : walked ept_small ≡ stopped (Outside (spot 4 0 0x206F0)) 4
  guest_absent : walked ((0x206F0, 0x11FFE) ∷ ept_small) ≡ stopped (Absent (spot 4 0 0x206F0)) 5
  -- the final address: EPT has no entry for its page
  final_absent : walked ((0x40A0, 0xABCDE000) ∷ small) ≡ stopped (Absent (spot 0 1 0x40A0)) 24
  -- 2^48 or more: what a guest entry holds, the root by its bits 63:48, and the final address
  high_table : walked ((0x206F0, 2 ^ 48 + 1) ∷ small) ≡ stopped (TooHigh (spot 3 0 0x1000000000688)) 5
  high_root : walk_in (of_list small) (context 1 48) (2 ^ 52) eptp address ≡ stopped (TooHigh (spot 4 0 0x100000000006F0)) 0
  high_page : walked ((0x23C48, 2 ^ 51 + 1) ∷ small) ≡ stopped (TooHigh (spot 0 0 0x8000000000ABC)) 20
  -- bits 63:52 of an entry are no address bits, and bit 7 is no large page's at the top level and at the last
  other_bits : walked ((0x1000, 2 ^ 63 + 2 ^ 52 + 0x2087) ∷ (0x40A0, 2 ^ 63 + 0xABCDE187) ∷ (0x206F0, 2 ^ 63 + 0x11181) ∷ (0x23C48, 2 ^ 52 + 0x14181) ∷ small)
      ≡ translated 0 0x6F3456789 0xABCDE 24
  -- an EPT entry may hold any physical address: the next read is outside the image
  high_ept : walked ((0x1000, 2 ^ 48 + 7) ∷ small) ≡ stopped (Outside (spot 4 3 (2 ^ 48))) 1
  -- a global mark of another than the last guest entry is none
  upper_mark : walked ((0x206F0, 0x11101) ∷ (0x23C48, 0x14001) ∷ small)
      ≡ ended (Ok (record { span = 0; page = 0x6F3456789; frame = 0xABCDE; global = 0 })) 24
  -- a frame of 2^39 with N = 40, and a linear address of the upper half
  high_frame : walk_in (of_list ((0x40A0, 2 ^ 51 + 7) ∷ small)) narrow root eptp address ≡ translated 0 0x6F3456789 (2 ^ 39) 24
  upper_half : walk_in (of_list ((0x20EF0, 0x11001) ∷ small)) (context 1 48) root eptp 0xFFFFEF3456789ABC ≡ translated 0 0xEF3456789 0xABCDE 24
  -- an EPT entry is present with any of bits 2:0; no EPT entry's bit 8 makes a translation global
  present : walked ((0x1000, 0x2001) ∷ (0x2000, 0x3002) ∷ (0x3000, 0x4004) ∷ (0x40A0, 0xABCDE104) ∷ (0x23C48, 0x14001) ∷ small)
      ≡ ended (Ok (record { span = 0; page = 0x6F3456789; frame = 0xABCDE; global = 0 })) 24
  -- the endings as numbers
  numbers : map ending_values (Ok found ∷ Err ContextOutOfRange ∷ Err NotCanonical ∷ [])
      ≡ record { number = 0; rule = 0; guest_level = 0; ept_level = 0; address = 0 }
      ∷ record { number = 1; rule = 0; guest_level = 0; ept_level = 0; address = 0 }
      ∷ record { number = 3; rule = 0; guest_level = 0; ept_level = 0; address = 0 }
      ∷ []
  rule : ending_values (Err (BadEptp 5)) ≡ record { number = 2; rule = 5; guest_level = 0; ept_level = 0; address = 0 }
  places : map ending_values (Err (Absent (spot 1 2 9)) ∷ Err (TooHigh (spot 1 2 9)) ∷ Err (Outside (spot 1 2 9)) ∷ [])
      ≡ record { number = 4; rule = 0; guest_level = 1; ept_level = 2; address = 9 }
      ∷ record { number = 5; rule = 0; guest_level = 1; ept_level = 2; address = 9 }
      ∷ record { number = 6; rule = 0; guest_level = 1; ept_level = 2; address = 9 }
      ∷ []
  -- an image: the last eight bytes are inside, and one byte further is not
  image : map (memory (replicate 16 0)).inside (0 ∷ 8 ∷ 9 ∷ []) ≡ true ∷ true ∷ false ∷ []
  image_entry : (memory (replicate 8 0 ++ bytes 8 0x1122334455667788)).entry 8 ≡ 0x1122334455667788

cards_hold : Rows
unfolding found listed value of_list context narrow eptp root address ept_small guest_small small front guest_page directory_entry table_entry ept_page pair translated walked bytes in_range canonical first eptp_rule ept_entry ept_from ept_walk translation final_from guest_entry through_ept guest_from walk_in combined_record record_of walk_of
cards_hold =
    record {
      most = refl;
      pair_0_0 = refl;
      pair_0_1 = refl;
      pair_0_2 = refl;
      pair_1_0 = refl;
      pair_1_1 = refl;
      pair_1_2 = refl;
      pair_2_0 = refl;
      pair_2_1 = refl;
      pair_2_2 = refl;
      bytes_of_record = refl;
      no_record = refl;
      out_of_range = refl;
      bad_eptp = refl;
      not_canonical = refl;
      highest = refl;
      ept_outside = refl;
      ept_absent = refl;
      guest_outside = refl;
      guest_absent = refl;
      final_absent = refl;
      high_table = refl;
      high_root = refl;
      high_page = refl;
      other_bits = refl;
      high_ept = refl;
      upper_mark = refl;
      high_frame = refl;
      upper_half = refl;
      present = refl;
      numbers = refl;
      rule = refl;
      places = refl;
      image = refl;
      image_entry = refl;
    }
