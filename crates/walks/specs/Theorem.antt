-- A walk reads at most 24 entries. The record of a translation is a valid one of 22 bytes, with the VPID and the EP4TA
-- that were given and the context's PCID. In a guest with these tags, at linear width 48, a step accepts its creation and
-- a lookup of the address shows it: document 02, Ask 13.
use Rattle.std.specs.Prelude.{ℕ, ◌≤◌, true, false, List, [], ◌∷◌, Ok, ◌≡◌, length}
use Rattle.model.specs.declared.Context.{Context}
use Rattle.model.specs.declared.Place.TheVariants.{Guest}
use Rattle.model.specs.declared.Ept.TheVariants.{On}
use Rattle.model.specs.declared.Mapping.{Mapping}
use Rattle.model.specs.declared.Address.TheVariants.{Linear}
use Rattle.model.specs.Mappings.{mapping}
use Rattle.model.specs.Tables.{limit}
use Rattle.model.specs.Scopes.{ep4ta_of}
use Rattle.model.specs.Answers.{valid_table, no_room, answer}
use Rattle.model.specs.Lookups.{usable_records, lookup}
use Rattle.laws.specs.Mappings.{Valid}
use Rattle.walks.specs.declared.Translation.{Translation}
use Rattle.walks.specs.Walks.{Memory, walk_of}

-- "never more than 24", of any memory
abbrev pub WalkReadsAtMost24 : Type 0
WalkReadsAtMost24 = (m : Memory) (c : Context) (root eptp vpid address : ℕ) → (walk_of m c root eptp vpid address).read ≤ 24

-- the combined translation that a walk works out
abbrev pub combined_mapping : ℕ → ℕ → ℕ → Translation → Mapping
combined_mapping vpid pcid ep4ta t =
    record {
      kind = 3;
      vpid = vpid;
      pcid = pcid;
      global = t.global;
      span = t.span;
      page = t.page;
      frame = t.frame;
      ep4ta = ep4ta;
    }

-- the context is in a guest with the VPID and the EP4TA, and its linear width is 48
pub record Entered (c : Context) (vpid ep4ta : ℕ) : Type 0 where
  pub place : c.place ≡ Guest (record { vpid = vpid; ept = On ep4ta })
  pub narrow : c.linear_width ≡ 48

-- of the record r of a translation
pub record Cacheable (c : Context) (vpid ep4ta address : ℕ) (t : Translation) (r : List ℕ) : Type 0 where
  pub size : length r ≡ 22
  pub valid : Valid r
  pub says : mapping r ≡ combined_mapping vpid c.pcid ep4ta t
  -- room aside, its creation is accepted with any table that is valid
  pub accepted : Entered c vpid ep4ta → (table : List ℕ) (room : ℕ) → valid_table 48 table ≡ true → length table ≤ limit
      → no_room room table r ≡ false
      → answer c table r room ≡ 0
  -- in a table of it alone a lookup of the address shows it
  pub shown : Entered c vpid ep4ta → usable_records c (Linear address) r ≡ r ∷ []
  pub looked_up : Entered c vpid ep4ta → lookup c (Linear address) r 0 ≡ r

abbrev pub WalkCacheable : Type 0
WalkCacheable = (m : Memory) (c : Context) (root eptp vpid address : ℕ) (t : Translation)
    → vpid ≤ 65535
    → (walk_of m c root eptp vpid address).ending ≡ Ok t
    → Cacheable c vpid (ep4ta_of eptp) address t (walk_of m c root eptp vpid address).«record»
