-- What a lookup asks of each record, as data, and what its search loop finds in a valid table.
use Rattle.std.specs.Prelude.{ℕ, ◌-◌, ◌≤◌, Bool, true, false, ◌&&◌, ◌||◌, List, [], Option, Some, None, Result, Ok, Err, ◌≡◌, eqb, length, get_or, take, drop}
use Rattle.model.specs.declared.Context.{Context}
use Rattle.model.specs.declared.Address.{Address}
use Rattle.model.specs.declared.Mapping.{Mapping}
use Rattle.model.specs.declared.Refusal.{Refusal}
use Rattle.model.specs.Bits.{bit}
use Rattle.model.specs.Layouts.{mapping_bodies}
use Rattle.model.specs.Mappings.{mapping, Held, linear, combined, global_translation, covers}
use Rattle.model.specs.Tables.{records, only}
use Rattle.model.specs.Lookups.{usable, start_of}
use Rattle.laws.specs.Layouts.{at_rows, agrees}
use Rattle.queries.specs.Queries.{of_kind_and_vpid}
use Rattle.lookups.specs.declared.Sought.{Sought}
use Rattle.lookups.specs.declared.Part.{Part}

unfoldable pub of_pcid_and_ep4ta : Sought → Mapping → Bool
of_pcid_and_ep4ta s m = (eqb m.pcid s.pcid || global_translation m) && eqb m.ep4ta s.ep4ta

-- the data ask for the record at the front
unfoldable pub seeks : Sought → List ℕ → Bool
seeks s r =
    of_kind_and_vpid s.kinds r && covers (mapping r).span (mapping r).page s.page && of_pcid_and_ep4ta s (mapping r)

-- the same of data, if there are some; without any no record is asked for
abbrev pub seeks_if : Option Sought → List ℕ → Bool
seeks_if None r = false
seeks_if (Some s) r = seeks s r

-- they ask for exactly the records of which a test holds
pub record AsksFor (p : Mapping → Bool) (s : Option Sought) : Type 0 where
  pub same : (r : List ℕ) → Held r → seeks_if s r ≡ p (mapping r)

-- the mapping is usable, and of a kind that is wanted
abbrev pub usable_of : (ℕ → Bool) → Context → Address → Mapping → Bool
usable_of wanted c a m = usable c a m && wanted m.kind

-- two sets of kinds, bit k for kind k, are the linear and the combined ones that are wanted
pub record Sets (wanted : ℕ → Bool) (set set' : ℕ) : Type 0 where
  pub linears : at_rows (λ k. agrees (bit k set) (linear k && wanted k)) mapping_bodies ≡ true
  pub combineds : at_rows (λ k. agrees (bit k set') (combined k && wanted k)) mapping_bodies ≡ true

-- where a part starts and ends; both 0 where there is none
abbrev pub start_in : Option Part → ℕ
start_in None = 0
start_in (Some part) = part.start

abbrev pub end_in : Option Part → ℕ
end_in None = 0
end_in (Some part) = part.end

-- the same of what a lookup finds; 0 too where the table is refused
abbrev pub found_start : Result (Option Part) Refusal → ℕ
found_start (Ok found) = start_in found
found_start (Err refusal) = 0

abbrev pub found_end : Result (Option Part) Refusal → ℕ
found_end (Ok found) = end_in found
found_end (Err refusal) = 0

-- the start and end of the k-th record of which a test holds: both 0 where there is none
pub record Searched (p : Mapping → Bool) (t : List ℕ) (k start end : ℕ) : Type 0 where
  pub ordered : start ≤ end
  pub within : end ≤ length t
  pub part : take (end - start) (drop start t) ≡ get_or (only (λ r. p (mapping r)) (records t)) k []
  pub place : start ≡ start_of (λ r. p (mapping r)) k (records t) 0
