-- Rows about the records of a VPID and of an EP4TA (document 02, Ask 14), and about what two runs are compared by, all
-- under one statement.
use Rattle.std.specs.Prelude.{ℕ, Bool, true, not, ◌&&◌, List, [], ◌∷◌, ◌++◌, ◌≡◌, refl}
use Rattle.model.specs.Bits.{bytes}
use Rattle.model.specs.Layouts.{kind_of, body_of, field}
use Rattle.model.specs.Mappings.{mapping, linear, guest_physical, combined}
use Rattle.model.specs.declared.Context.{Context}
use Rattle.model.specs.declared.Place.TheVariants.{Root}
use Rattle.runs.specs.Book.{Report}
use Rattle.runs.specs.Runs.{verdict}
use Rattle.runs.specs.Apart.{of_vpid, of_ep4ta}

-- a record of a kind whose other bytes are those of two tags: VPID 5 and PCID 6 at the front, or EP4TA 7; and EP4TA
-- 7 at the end
by_vpid : ℕ → List ℕ → List ℕ
by_vpid kind body = kind ∷ bytes 2 5 ++ bytes 2 6 ++ body ++ bytes 10 0 ++ bytes 5 7

by_ep4ta : ℕ → List ℕ
by_ep4ta kind = kind ∷ bytes 5 7 ++ bytes 11 0

-- "the same records of V among kinds 1, 3, 4 and 6"; "The 57-bit kinds join their 48-bit siblings.": that very VPID, and no record without one
vpids : Bool
vpids =
    of_vpid 5 (by_vpid 1 (0 ∷ 0 ∷ []))
    && of_vpid 5 (by_vpid 3 (0 ∷ 0 ∷ []))
    && of_vpid 5 (by_vpid 4 (1 ∷ []))
    && of_vpid 5 (by_vpid 6 (1 ∷ []))
    && of_vpid 5 (by_vpid 7 (0 ∷ 0 ∷ 0 ∷ []))
    && of_vpid 5 (by_vpid 8 (0 ∷ 0 ∷ 0 ∷ []))
    && of_vpid 5 (by_vpid 9 (1 ∷ 0 ∷ []))
    && of_vpid 5 (by_vpid 10 (1 ∷ 0 ∷ []))
    && not (of_vpid 6 (by_vpid 9 (1 ∷ 0 ∷ [])))
    && not (of_vpid 4 (by_vpid 1 (0 ∷ 0 ∷ [])))
    && not (of_vpid 6 (by_vpid 1 (0 ∷ 0 ∷ [])))
    && not (of_vpid 0 (by_ep4ta 2))
    && not (of_vpid 7 (by_ep4ta 2))
    && not (of_vpid 0 (by_ep4ta 5))

-- "the like for guest-physical records by EP4TA": that very EP4TA, and no combined record of it
ep4tas : Bool
ep4tas =
    of_ep4ta 7 (by_ep4ta 2)
    && of_ep4ta 7 (by_ep4ta 5)
    && not (of_ep4ta 6 (by_ep4ta 2))
    && not (of_ep4ta 8 (by_ep4ta 2))
    && not (of_ep4ta 7 (by_vpid 3 (0 ∷ 0 ∷ [])))
    && not (of_ep4ta 7 (by_vpid 6 (1 ∷ [])))
    && not (of_ep4ta 7 (by_vpid 8 (0 ∷ 0 ∷ 0 ∷ [])))
    && not (of_ep4ta 7 (by_vpid 10 (1 ∷ 0 ∷ [])))
    && not (of_ep4ta 0 (by_vpid 1 (0 ∷ 0 ∷ [])))
    && not (of_ep4ta 0 (by_vpid 4 (1 ∷ [])))

-- a report whose numbers differ, and what is compared of it
context : Context
context = record { capability = 11; width = 12; linear_width = 15; pcid = 13; cpl = 14; place = Root }

report : Report
report = record { answer = 21; rule = 22; dropped = 23; context = context }

-- Every row holds.
record Rows : Type 0 where
  tags : (vpids && ep4tas) ≡ true
  compared : verdict report ≡ record { answer = 21; rule = 22; context = context }

cards_hold : Rows
unfolding context report verdict by_vpid by_ep4ta vpids ep4tas of_vpid of_ep4ta bytes kind_of body_of field mapping linear guest_physical combined
cards_hold = record { tags = refl; compared = refl }
