-- The bytes of a creation are judged as those of one record.
use Rattle.std.specs.Prelude.{ℕ, List, ◌≡◌, length}
use Rattle.std.proofs.Common.{arith, le-leb, eq-eqb, sym, ap, ◌∙◌}
use Rattle.std.proofs.Math.Bool.{and-true}
use Rattle.model.specs.declared.Event.TheVariants.{Creation}
use Rattle.model.specs.declared.Mapping.{Mapping}
use Rattle.model.specs.Layouts.{kind_of, length_of}
use Rattle.model.specs.Mappings.{mapping, starts_record}
use Rattle.model.specs.Events.{event, event_in_range}
use Rattle.model.specs.Reasons.{one_record}
use Rattle.laws.specs.Events.{event_creation, event_creation_kind}

-- bytes of a creation's length are exactly one valid record where its fields are in their ranges and it is of the width
pub creation_exact : (w : ℕ) (e : List ℕ) (m : Mapping) → event e ≡ Creation m → length e ≡ length_of (kind_of e) → one_record w e ≡ event_in_range w (Creation m)
unfolding one_record starts_record event_in_range mapping
creation_exact w e m is exact =
    let known = event_creation_kind e m is in
    let fits = le-leb (length_of (kind_of e)) (length e) (omega (arith, exact)) in
    let same = eq-eqb (length e) (length_of (kind_of e)) exact in
    rw (known, fits, same, and-true) (ap (event_in_range w) (sym (event_creation e known) ∙ is))
