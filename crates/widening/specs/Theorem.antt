-- What the converter's result is worth: document 02, Ask 12. The new table is a valid 57-bit one, holds as many records,
-- and shows at every address the records that the old one shows there.
use Rattle.std.specs.Prelude.{ℕ, true, List, map, ◌≡◌, length}
use Rattle.model.specs.declared.Context.{Context}
use Rattle.model.specs.declared.Address.{Address}
use Rattle.model.specs.Context.{in_range}
use Rattle.model.specs.Tables.{records}
use Rattle.model.specs.Answers.{first, stored_grounds}
use Rattle.model.specs.Lookups.{usable_records, lookup}
use Rattle.widening.specs.Widening.{widened, widened_table, widening_answer}

-- a context at a linear width
abbrev pub with_width : ℕ → Context → Context
with_width width c =
    record {
      capability = c.capability;
      width = c.width;
      linear_width = width;
      pcid = c.pcid;
      cpl = c.cpl;
      place = c.place;
    }

-- of a table that is accepted with some buffer
pub record Widens (t : List ℕ) : Type 0 where
  -- neither 2 nor 3 is a ground
  pub valid : first (stored_grounds 57 (widened_table t)) ≡ 0
  pub each : records (widened_table t) ≡ map widened (records t)
  pub count : length (records (widened_table t)) ≡ length (records t)
  -- the same records are usable in the same order, at any linear address, canonical at 48 bits or not, and at any
  -- guest-physical one
  pub usable : (c : Context) (a : Address)
      → usable_records (with_width 57 c) a (widened_table t) ≡ map widened (usable_records (with_width 48 c) a t)
  -- and so the k-th that is looked up
  pub looked_up : (c : Context) (a : Address) (k : ℕ) → in_range (with_width 48 c) ≡ true
      → lookup (with_width 57 c) a (widened_table t) k ≡ widened (lookup (with_width 48 c) a t k)

abbrev pub WideningWidens : Type 0
WideningWidens = (t : List ℕ) (room : ℕ) → widening_answer t room ≡ 0 → Widens t
