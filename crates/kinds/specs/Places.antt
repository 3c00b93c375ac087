-- Numbers by kind, and where a field stands in a record or event.
use Rattle.std.specs.Prelude.{ℕ, ◌+◌, ◌*◌, ◌/◌, ◌%◌, ◌^◌, cond, eqb}
use Rattle.model.specs.Layouts.{Field, body_of, width_in, offset_in}

-- the number of five bits at a place, the lowest first
abbrev pub number_at : ℕ → ℕ → ℕ
number_at numbers place = numbers / 2 ^ (5 * place) % 32

-- where the field stands in a record or event of the kind, the kind byte at 0; 0 where the kind lacks it
unfoldable pub place_of : Field → ℕ → ℕ
place_of f kind = cond (eqb (width_in (body_of kind) f) 0) 0 (1 + offset_in (body_of kind) f)
