-- Document 02, Ask 7: "carried from step to step by adding what was created and taking off what was dropped".
use Rattle.std.specs.Prelude.{ℕ, cond, List}
use Rattle.model.specs.Layouts.{kind_of, mapping_kind}
use Rattle.model.specs.Mappings.{mapping}
use Rattle.tallies.specs.Tallies.{cells_with, pcids_with}

-- the counts with the record that an event creates, if it is a creation
unfoldable pub cells_with_creation : List ℕ → List ℕ → List ℕ
cells_with_creation e cells = cond (mapping_kind (kind_of e)) (cells_with (mapping e) cells) cells

unfoldable pub pcids_with_creation : List ℕ → List ℕ → List ℕ
pcids_with_creation e pcids = cond (mapping_kind (kind_of e)) (pcids_with (mapping e) pcids) pcids
