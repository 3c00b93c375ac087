-- Rows about the conditions of the simulation: without them the two steps differ. All under one statement.
use Rattle.std.specs.Prelude.{ℕ, ◌^◌, true, false, List, [], ◌∷◌, ◌++◌, map, ◌≡◌, refl}
use Rattle.model.specs.declared.Context.{Context}
use Rattle.model.specs.declared.Place.{Place}
use Rattle.model.specs.declared.Place.TheVariants.{Root, Guest}
use Rattle.model.specs.declared.Ept.TheVariants.{On}
use Rattle.model.specs.declared.Step.{Step}
use Rattle.model.specs.Bits.{bytes}
use Rattle.model.specs.Context.{in_range}
use Rattle.model.specs.Layouts.{kind_of, mapping_kind, event_kind, body_of, length_of, field}
use Rattle.model.specs.Mappings.{mapping, linear, guest_physical, combined, structure_cache, wide, other_width, global_marked, fields_in_range, starts_record, record_length, covers}
use Rattle.model.specs.Tables.{joined, cut, records_within, records, whole, of_width, only, count}
use Rattle.model.specs.Events.{canonical, operands, violation, event, event_in_range, valid_event}
use Rattle.model.specs.Scopes.{invvpid_tests, invlpg_tests, guest_physical_violation_tests, combined_violation_tests, violation_tests, invpcid_tests, has_scope, scope}
use Rattle.model.specs.Answers.{first, invvpid_supported, bad_invvpid, bad_invpcid, invalid_opcode, exits, general_protection, creatable, own_ground, own_rule, rule_with, created, no_room, valid_table, table_grounds, event_grounds, grounds, answer}
use Rattle.model.specs.Steps.{new_table, dropped_count, accepted_step, refused_step, stepped}
use Rattle.widening.specs.Widening.{rewritten, widened, widened_table}
use Rattle.widening_runs.specs.Simulation.{widened_event, canonical_where_looked_at}

at : ℕ → Place → Context
at width place = record { capability = 0x0F0106304140; width = 52; linear_width = width; pcid = 0; cpl = 0; place = place }

-- a guest without VPIDs, its EP4TA 7
guest : Place
guest = Guest (record { vpid = 0; ept = On 7 })

-- a structure cache of VPID 0 and PCID 0, of a span, page 0
structure : ℕ → List ℕ
structure span = 4 ∷ bytes 4 0 ++ (span ∷ []) ++ bytes 5 0 ++ bytes 5 7

-- the first address that is canonical at 57 bits alone
between : List ℕ
between = bytes 8 (2 ^ 47)

invvpid : ℕ → List ℕ
invvpid type = 16 ∷ bytes 8 type ++ bytes 8 5 ++ between

invlpg : List ℕ
invlpg = 18 ∷ between

ept_violation : ℕ → List ℕ
ept_violation flag = 19 ∷ bytes 8 0 ++ (flag ∷ []) ++ between

invpcid : ℕ → List ℕ
invpcid type = 26 ∷ bytes 8 type ++ bytes 8 0 ++ between

-- the steps at both widths, in a place, with a table and an event and a buffer of so many bytes: what is told of each
told : (Step → ℕ) → Place → List ℕ → List ℕ → ℕ → List ℕ
told what place t e room =
    what (stepped (at 48 place) t e room) ∷ what (stepped (at 57 place) (widened_table t) (widened_event e) room) ∷ []

-- Every row holds.
record Rows : Type 0 where
  -- these look at an address: its condition fails, and the steps differ. INVLPG is accepted by both, and drops a structure
  -- cache at width 57 alone.
  looked_at : map (λ e. canonical_where_looked_at (event e)) (invvpid 0 ∷ invlpg ∷ ept_violation 1 ∷ invpcid 0 ∷ []) ≡ false ∷ false ∷ false ∷ false ∷ []
  by_invvpid : told (λ s. s.answer) Root [] (invvpid 0) 64 ≡ 8 ∷ 0 ∷ []
  by_invlpg : told (λ s. s.answer) Root (structure 1) invlpg 64 ≡ 0 ∷ 0 ∷ []
  by_invlpg_dropped : told (λ s. s.dropped) Root (structure 1) invlpg 64 ≡ 0 ∷ 1 ∷ []
  by_violation : told (λ s. s.answer) guest [] (ept_violation 1) 64 ≡ 4 ∷ 0 ∷ []
  by_invpcid : told (λ s. s.answer) Root [] (invpcid 0) 64 ≡ 7 ∷ 0 ∷ []
  -- these do not
  not_looked_at : map (λ e. canonical_where_looked_at (event e)) (invvpid 1 ∷ invvpid 2 ∷ invvpid 3 ∷ ept_violation 0 ∷ invpcid 1 ∷ invpcid 2 ∷ invpcid 3 ∷ []) ≡ true ∷ true ∷ true ∷ true ∷ true ∷ true ∷ true ∷ []
  -- room for the old table alone: a reset answers 12 at width 57
  by_room : told (λ s. s.answer) Root (structure 1) (25 ∷ []) 16 ≡ 0 ∷ 12 ∷ []
  -- a creation that is not valid at width 48, of span 4, is valid when it is widened
  by_validity : told (λ s. s.answer) Root [] (structure 4) 64 ≡ 4 ∷ 0 ∷ []
  -- where all of them hold: the widened record is created, and dropped
  creates : told (λ s. s.length) Root [] (structure 3) 64 ≡ 16 ∷ 17 ∷ []
  drops : told (λ s. s.dropped) Root (structure 3 ++ structure 1) (25 ∷ []) 64 ≡ 2 ∷ 2 ∷ []

cards_hold : Rows
unfolding at guest structure between invvpid invlpg ept_violation invpcid told bytes in_range kind_of mapping_kind event_kind body_of length_of field mapping linear guest_physical combined structure_cache wide other_width global_marked fields_in_range starts_record record_length covers joined cut records_within records whole of_width only count canonical operands violation event event_in_range valid_event invvpid_tests invlpg_tests guest_physical_violation_tests combined_violation_tests violation_tests invpcid_tests has_scope scope first invvpid_supported bad_invvpid bad_invpcid invalid_opcode exits general_protection creatable own_ground own_rule rule_with created no_room valid_table table_grounds event_grounds grounds answer new_table dropped_count accepted_step refused_step stepped rewritten widened widened_table widened_event canonical_where_looked_at
cards_hold =
    record {
      looked_at = refl;
      by_invvpid = refl;
      by_invlpg = refl;
      by_invlpg_dropped = refl;
      by_violation = refl;
      by_invpcid = refl;
      not_looked_at = refl;
      by_room = refl;
      by_validity = refl;
      creates = refl;
      drops = refl;
    }
