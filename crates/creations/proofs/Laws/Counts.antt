-- Counts with the record that an event creates.
use Rattle.std.specs.Prelude.{ℕ, ◌≤◌, ◌<◌, Bool, not, ◌≡◌, refl, length}
use Rattle.std.proofs.Math.Bool.{true, false, cond}
use mathlib.Core.List.{List, [], ◌∷◌, ◌++◌, append-nil}
use Rattle.std.proofs.Common.{arith}
use Rattle.model.specs.declared.Context.{Context}
use Rattle.model.specs.Layouts.{kind_of, mapping_kind}
use Rattle.model.specs.Mappings.{mapping}
use Rattle.model.specs.Tables.{limit, records, only}
use Rattle.model.specs.Answers.{valid_here, creation}
use Rattle.model.specs.Steps.{new_records, in_scope, new_table}
use Rattle.laws.specs.Mappings.{valid_starts}
use Rattle.laws.specs.Tables.{every_only, records_valid, length_valid, length_joined_only, length_joined_records}
use Rattle.laws.specs.Events.{creation_valid}
use Rattle.laws.specs.Steps.{records_new_table}
use Rattle.tallies.specs.Tallies.{cells_with, pcids_with, Tallied, Countable}
use Rattle.tallies.proofs.Laws.Tallied.{tallied_with, tallied_countable}
use Rattle.creations.specs.Counts.{cells_with_creation, pcids_with_creation}

module _ (c : Context) (t e : List ℕ) (valid : valid_here c e ≡ true) {cells pcids : List ℕ} (left : Tallied (only (λ r. not (in_scope c e r)) (records t)) cells pcids) where
  abbrev pub kept : List (List ℕ)
  kept = only (λ r. not (in_scope c e r)) (records t)

  all : Tallied (kept ++ []) cells pcids
  all = rw append-nil left

  -- a creation can be counted
  pub creation_countable : length t ≤ limit → mapping_kind (kind_of e) ≡ true → Countable e cells pcids
  creation_countable short is =
      let few : length kept < 65535 =
      omega (arith, short, length_valid (every_only (λ r. not (in_scope c e r)) (records_valid t)), length_joined_only (λ r. not (in_scope c e r)) (records t), length_joined_records t) in
      tallied_countable kept [] e (valid_starts e (creation_valid c.linear_width e valid is)) all (rw append-nil few)

  -- with it the records of the new table are counted
  pub tallied_new_table : Tallied (records (new_table c t e)) (cells_with_creation e cells) (pcids_with_creation e pcids)
  unfolding cells_with_creation pcids_with_creation new_records creation
  tallied_new_table = rw (records_new_table c.linear_width c t e valid) (go (mapping_kind (kind_of e)) refl)
    where
      go : (b : Bool) → mapping_kind (kind_of e) ≡ b → Tallied (kept ++ cond b (e ∷ []) []) (cond b (cells_with (mapping e) cells) cells) (cond b (pcids_with (mapping e) pcids) pcids)
      go true is = tallied_with kept [] e (valid_starts e (creation_valid c.linear_width e valid is)) all
      go false is = all
