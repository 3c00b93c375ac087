-- Document 02, Ask 14: the records of one VPID, or guest-physical ones of one EP4TA, and two tables or runs that hold the
-- same of them.
use Rattle.std.specs.Prelude.{ℕ, Bool, ◌&&◌, List, [], ◌∷◌, ◌≡◌, eqb, length, take}
use Rattle.model.specs.declared.Context.{Context}
use Rattle.model.specs.Mappings.{mapping, guest_physical}
use Rattle.model.specs.Tables.{records, only}
use Rattle.model.specs.Scopes.{vpid_tagged}
use Rattle.model.specs.Steps.{stepped, written}
use Rattle.runs.specs.Runs.{Run, run_answer, run_after}

-- the record is one "of V among kinds 1, 3, 4 and 6"; "The 57-bit kinds join their 48-bit siblings."
unfoldable pub of_vpid : ℕ → List ℕ → Bool
of_vpid vpid r = vpid_tagged (mapping r) && eqb (mapping r).vpid vpid

-- the record is a guest-physical one, kind 2 or 5, of the EP4TA
unfoldable pub of_ep4ta : ℕ → List ℕ → Bool
of_ep4ta ep4ta r = guest_physical (mapping r).kind && eqb (mapping r).ep4ta ep4ta

-- two tables "hold the same records" of which the test holds, "in the same order"
unfoldable pub Alike : (List ℕ → Bool) → List ℕ → List ℕ → Type 0
Alike test t t' = only test (records t) ≡ only test (records t')

-- the new table of a step into a buffer
unfoldable pub table_after : Context → List ℕ → List ℕ → List ℕ → List ℕ
table_after c t e buffer = take (stepped c t e (length buffer)).length (written c t e buffer)

-- "each event is accepted in both or refused in both"
unfoldable pub Together : Run → Run → List (List ℕ) → Type 0
Together s s' [] = Unit {0}
Together s s' (e ∷ es) = (eqb (run_answer s e) 0 ≡ eqb (run_answer s' e) 0) × Together (run_after s e) (run_after s' e) es
