-- Document 02, Ask 12: "A converter rewrites a stored 48-bit table in order".
use Rattle.std.specs.Prelude.{ℕ, min, ◌+◌, ◌-◌, ◌^◌, Bool, cond, List, [], ◌∷◌, ◌++◌, map, eqb, leb, ltb, length, take, drop}
use Rattle.model.specs.Bits.{bytes}
use Rattle.model.specs.Buffers.{put}
use Rattle.model.specs.Layouts.{Field, kind_of, body_of, offset_in, field}
use Rattle.model.specs.Mappings.{other_width}
use Rattle.model.specs.Tables.{limit, joined, records}
use Rattle.model.specs.Answers.{first, stored_grounds}
use Rattle.widening.specs.declared.Widened.{Widened}

-- "kinds 1, 3, 4 and 6 become 7 to 10"
abbrev pub widened_kind : ℕ → ℕ
widened_kind kind =
    cond (eqb kind 1) 7 (cond (eqb kind 3) 8 (cond (eqb kind 4) 9 (cond (eqb kind 6) 10 kind)))

-- "a page of 2^35 or more gaining 2^45 - 2^36"
abbrev pub widened_page : ℕ → ℕ
widened_page page = cond (leb (2 ^ 35) page) (page + (2 ^ 45 - 2 ^ 36)) page

-- where the page stands in a record of the kind, the kind byte at 0
abbrev pub page_place : ℕ → ℕ
page_place kind = 1 + offset_in (body_of kind) Field.page

-- a record with its new kind and its page in six bytes; what stands before and behind the page stays
unfoldable pub rewritten : List ℕ → List ℕ
rewritten r =
    bytes 1 (widened_kind (kind_of r))
    ++ (take (page_place (kind_of r) - 1) (drop 1 r)
    ++ (bytes 6 (widened_page (field Field.page r)) ++ drop (page_place (kind_of r) + 5) r))

-- a record of the 57-bit table; "all else stays", a guest-physical record too
unfoldable pub widened : List ℕ → List ℕ
widened r = cond (other_width 57 (kind_of r)) (rewritten r) r

unfoldable pub widened_table : List ℕ → List ℕ
widened_table t = joined (map widened (records t))

-- "It refuses exactly an invalid table (2, 3), then a result longer than the limit or the buffer (12)"
unfoldable pub widening_grounds : List ℕ → ℕ → List (ℕ × Bool)
widening_grounds t room = stored_grounds 48 t ++ ((12, ltb (min room limit) (length (widened_table t))) ∷ [])

unfoldable pub widening_answer : List ℕ → ℕ → ℕ
widening_answer t room = first (widening_grounds t room)

-- what is reported: the answer, and the length of the result, 0 with a refusal
unfoldable pub widening : List ℕ → ℕ → Widened
widening t room =
    record {
      answer = widening_answer t room;
      length = cond (eqb (widening_answer t room) 0) (length (widened_table t)) 0;
    }

-- the buffer after it: "and then writes nothing"; "bytes past the result stay" (Ask 11, "here and in later calls")
unfoldable pub widening_written : List ℕ → List ℕ → List ℕ
widening_written t buffer = cond (eqb (widening_answer t (length buffer)) 0) (put 0 (widened_table t) buffer) buffer
