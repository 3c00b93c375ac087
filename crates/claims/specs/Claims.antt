-- Document 02, Ask 8: "Given a context, an event, the table before and the claimed table after, accept exactly if the event
-- is accepted with a new buffer of 45,056 bytes [47,104 by Ask 12], the claim is an in-order part of what our step leaves,
-- and both are valid tables. Otherwise name the first ground".
use Rattle.std.specs.Prelude.{ℕ, ◌+◌, Bool, cond, not, ◌||◌, List, [], ◌∷◌, Result, Ok, Err, eqb, ltb, length}
use Rattle.model.specs.declared.Context.{Context}
use Rattle.model.specs.declared.Refusal.{Refusal}
use Rattle.model.specs.Tables.{limit, records}
use Rattle.model.specs.Answers.{answer, rule_with, valid_table}
use Rattle.model.specs.Steps.{new_table}
use Rattle.model.specs.Refusals.{refusal_number, refusal_rule}
use Rattle.tally_rows.specs.Rows.{same}
use Rattle.claims.specs.declared.Judgement.{Judgement}
use Rattle.claims.specs.declared.Judgement.TheVariants.{Accepted, Refused, Malformed, Unmatched}
use Rattle.claims.specs.declared.Values.{Values}

-- "the byte position, from 0, of the first claimed record that cannot be matched, taking the earliest match for each
-- record": claimed records, the first of which starts at a position, and the records that are left to match them with,
-- byte for byte. A record left that is not the first claimed one is passed over, and not looked at again.
unfoldable pub matched : ℕ → List (List ℕ) → List (List ℕ) → Judgement
matched at [] left = Accepted
matched at (r ∷ rs) [] = Unmatched at
matched at (r ∷ rs) (l ∷ left) = cond (same r l) (matched (at + length r) rs left) (matched at (r ∷ rs) left)

-- "malformed claim": it is no valid table in the context, for its length or its records
unfoldable pub malformed : Context → List ℕ → Bool
malformed c claim = ltb limit (length claim) || not (valid_table c.linear_width claim)

-- "refused event with its answer, malformed claim, or the byte position ..": the table before the event, the event, and
-- the claim. A table before that is not valid is a ground of refusal, 2 or 3. The rule of the EPTP goes with the answer
-- (Ask 6).
unfoldable pub judgement : Context → List ℕ → List ℕ → List ℕ → Judgement
judgement c t e claim =
    cond (not (eqb (answer c t e limit) 0)) (Refused (answer c t e limit) (rule_with c e (answer c t e limit)))
    (cond (malformed c claim) Malformed (matched 0 (records claim) (records (new_table c t e))))

-- what the judge's result says: a judgement, or the event is refused
abbrev pub judged : Result Judgement Refusal → Judgement
judged (Ok judgement) = judgement
judged (Err refusal) = Refused (refusal_number refusal) (refusal_rule refusal)

-- the number of each case, and its values, 0 where it has none
abbrev pub judgement_values : Judgement → Values
judgement_values Accepted = record { number = 0; answer = 0; rule = 0; position = 0 }
judgement_values (Refused answer rule) = record { number = 1; answer = answer; rule = rule; position = 0 }
judgement_values Malformed = record { number = 2; answer = 0; rule = 0; position = 0 }
judgement_values (Unmatched position) = record { number = 3; answer = 0; rule = 0; position = position }
