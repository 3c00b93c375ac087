-- Events for the rows of Cards, here and in the crates above.
use Rattle.std.specs.Prelude.{ℕ, ◌+◌, ◌*◌, ◌^◌, List, [], ◌∷◌, ◌++◌}
use Rattle.model.specs.declared.Context.{Context}
use Rattle.model.specs.declared.Place.TheVariants.{Outside}
use Rattle.model.specs.Bits.{bytes}

-- the replay program's capability, and one without INVVPID
abbrev pub sample : Context
sample =
    record {
      capability = 2 ^ 6 + 2 ^ 8 + 2 ^ 14 + 2 ^ 20 + 2 ^ 21 + 2 ^ 25 + 2 ^ 26 + 2 ^ 32 + 2 ^ 40 + 2 ^ 41 + 2 ^ 42 + 2 ^ 43;
      width = 46;
      linear_width = 48;
      pcid = 0;
      cpl = 0;
      place = Outside;
    }

abbrev pub without_invvpid : Context
without_invvpid =
    record { capability = 2 ^ 6 + 2 ^ 14 + 2 ^ 20 + 2 ^ 26; width = 46; linear_width = 48; pcid = 0; cpl = 0; place = Outside }

abbrev pub vmxon : List ℕ
vmxon = 22 ∷ []

-- VM exit to PCID 0
abbrev pub exit : List ℕ
exit = 21 ∷ 0 ∷ 0 ∷ []

-- VM entry by VPID, EP4TA and PCID; by VPID without EPT, to PCID 0; and with neither, by PCID
abbrev pub entry_by : ℕ → ℕ → ℕ → List ℕ
entry_by vpid ep4ta pcid = 20 ∷ 1 ∷ bytes 2 vpid ++ (1 ∷ bytes 8 (ep4ta * 4096 + 0x1E)) ++ bytes 2 pcid ++ (0 ∷ [])

abbrev pub entry_by_vpid : ℕ → List ℕ
entry_by_vpid vpid = 20 ∷ 1 ∷ bytes 2 vpid ++ (0 ∷ bytes 8 0) ++ bytes 2 0 ++ (0 ∷ [])

abbrev pub entry_plain : ℕ → List ℕ
entry_plain pcid = 20 ∷ 0 ∷ 0 ∷ 0 ∷ 0 ∷ bytes 8 0 ++ bytes 2 pcid ++ (0 ∷ [])

-- creations: linear, combined and guest-physical translations, and structure caches
abbrev pub linear_at : ℕ → ℕ → ℕ → ℕ → ℕ → List ℕ
linear_at vpid pcid global page frame = 1 ∷ bytes 2 vpid ++ bytes 2 pcid ++ (global ∷ 0 ∷ bytes 5 page) ++ bytes 5 frame

abbrev pub combined_at : ℕ → ℕ → ℕ → ℕ → ℕ → ℕ → List ℕ
combined_at vpid pcid global page frame ep4ta =
    3 ∷ bytes 2 vpid ++ bytes 2 pcid ++ (global ∷ 0 ∷ bytes 5 page) ++ bytes 5 frame ++ bytes 5 ep4ta

abbrev pub physical_at : ℕ → ℕ → ℕ → ℕ → List ℕ
physical_at ep4ta span page frame = 2 ∷ bytes 5 ep4ta ++ (span ∷ bytes 5 page) ++ bytes 5 frame

abbrev pub physical_cache_at : ℕ → ℕ → ℕ → ℕ → List ℕ
physical_cache_at ep4ta span page structure = 5 ∷ bytes 5 ep4ta ++ (span ∷ bytes 5 page) ++ bytes 5 structure

-- invalidations by type
abbrev pub invvpid : ℕ → ℕ → List ℕ
invvpid type vpid = 16 ∷ bytes 8 type ++ bytes 8 vpid ++ bytes 8 0

abbrev pub invept : ℕ → ℕ → List ℕ
invept type ep4ta = 17 ∷ bytes 8 type ++ bytes 8 (ep4ta * 4096 + 0x1E) ++ bytes 8 0

-- new PCID without invalidation (kind 24), and MOV to CR3 with it (kind 27)
abbrev pub new_pcid_to : ℕ → List ℕ
new_pcid_to pcid = 24 ∷ bytes 2 pcid ++ (0 ∷ [])

abbrev pub mov_to_cr3 : ℕ → List ℕ
mov_to_cr3 pcid = 27 ∷ bytes 2 pcid
