-- The record of a mapping in pieces: its kind, what stands before the span, the span with the page and the frame behind
-- it, and what stands behind those; and the numbers in which it is written.
use Rattle.std.specs.Prelude.{ℕ, ◌+◌, ◌*◌, ◌<◌, cond, List, [], ◌++◌}
use Rattle.model.specs.declared.Mapping.{Mapping}
use Rattle.model.specs.Bits.{bytes}
use Rattle.model.specs.Mappings.{guest_physical, combined, wide, global_marked}

unfoldable pub tags_at : ℕ → Mapping → List ℕ
tags_at kind m =
    cond (guest_physical kind) (bytes 5 m.ep4ta) (bytes 2 m.vpid ++ (bytes 2 m.pcid ++ cond (global_marked kind) (bytes 1 m.global) []))

unfoldable pub places_at : ℕ → Mapping → List ℕ
places_at kind m = bytes 1 m.span ++ (bytes (cond (wide kind) 6 5) m.page ++ bytes 5 m.frame)

unfoldable pub last_at : ℕ → Mapping → List ℕ
last_at kind m = cond (combined kind) (bytes 5 m.ep4ta) []

abbrev pub tags_of : Mapping → List ℕ
tags_of m = tags_at m.kind m

abbrev pub places_of : Mapping → List ℕ
places_of m = places_at m.kind m

abbrev pub last_of : Mapping → List ℕ
last_of m = last_at m.kind m

-- What is written of it, in numbers of one byte or eight that overlap: kind, tags, span, page, frame, and the last five
-- bytes with three zeros behind them. The numbers of the mapping are such that they hold them.
pub record Small (m : Mapping) : Type 0 where
  pub kind : m.kind < 256
  pub vpid : m.vpid < 65536
  pub pcid : m.pcid < 65536
  pub global : m.global < 256
  pub span : m.span < 256
  pub page : m.page < 281474976710656
  pub frame : m.frame < 1099511627776
  pub ep4ta : m.ep4ta < 1099511627776

abbrev pub tags_number : Mapping → ℕ
tags_number m = cond (guest_physical m.kind) m.ep4ta (m.vpid + 65536 * m.pcid + 4294967296 * m.global)

abbrev pub last_number : Mapping → ℕ
last_number m = cond (combined m.kind) m.ep4ta m.frame
