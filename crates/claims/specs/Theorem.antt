-- When each judgement is given, and which claims are always accepted: document 02, Ask 8.
use Rattle.std.specs.Prelude.{ℕ, ◌≤◌, Bool, true, List, [], ◌∷◌, ◌++◌, ◌≡◌, length, take}
use Rattle.model.specs.declared.Context.{Context}
use Rattle.model.specs.Tables.{limit, records, joined}
use Rattle.model.specs.Answers.{answer, rule_with, valid_table}
use Rattle.model.specs.Steps.{new_table, stepped, written}
use Rattle.tally_rows.specs.declared.KindCounts.{KindCounts}
use Rattle.counted_steps.specs.Steps.{counted_answer, counted_stepped, counted_written}
use Rattle.runs.specs.Runs.{without, InOrderPart}
use Rattle.claims.specs.declared.Judgement.TheVariants.{Accepted, Refused, Malformed, Unmatched}
use Rattle.claims.specs.Claims.{judgement}

-- a valid table in the context
pub record ValidIn (c : Context) (t : List ℕ) : Type 0 where
  pub short : length t ≤ limit
  pub valid : valid_table c.linear_width t ≡ true

-- "the event is accepted with a new buffer of 45,056 bytes [47,104], .. and both are valid tables"
pub record Judgeable (c : Context) (t e claim : List ℕ) : Type 0 where
  pub accepted : answer c t e limit ≡ 0
  pub before : ValidIn c t
  pub after : ValidIn c claim

-- "the claim is an in-order part of what our step leaves": demand 3's in-order part
abbrev pub Claimable : Context → List ℕ → List ℕ → List ℕ → Type 0
Claimable c t e claim = InOrderPart (records claim) (records (new_table c t e))

-- the first claimed record that cannot be matched stands at a position: the records before it are an in-order part of those
-- left, and with it they are no in-order part
pub record FirstUnmatched (claimed left : List (List ℕ)) (position : ℕ) : Type 0 where
  pub before : List (List ℕ)
  pub here : List ℕ
  pub behind : List (List ℕ)
  pub split : claimed ≡ before ++ here ∷ behind
  pub place : position ≡ length (joined before)
  pub part : InOrderPart before left
  pub no_part : InOrderPart (before ++ here ∷ []) left → ⊥

-- Each case of a judgement is given exactly where its ground applies, and none before it.
pub record Judges (c : Context) (t e claim : List ℕ) : Type 0 where
  -- "refused event with its answer"
  pub refused : (n k : ℕ) → judgement c t e claim ≡ Refused n k → (n ≡ answer c t e limit) × ((n ≡ 0 → ⊥) × (k ≡ rule_with c e n))
  pub refuses : (answer c t e limit ≡ 0 → ⊥) → judgement c t e claim ≡ Refused (answer c t e limit) (rule_with c e (answer c t e limit))
  -- "malformed claim"
  pub malformed : judgement c t e claim ≡ Malformed → (answer c t e limit ≡ 0) × (ValidIn c claim → ⊥)
  pub rejects : answer c t e limit ≡ 0 → (ValidIn c claim → ⊥) → judgement c t e claim ≡ Malformed
  -- "accept exactly if .."
  pub accepted : judgement c t e claim ≡ Accepted → Judgeable c t e claim × Claimable c t e claim
  pub accepts : Judgeable c t e claim → Claimable c t e claim → judgement c t e claim ≡ Accepted
  -- "the byte position, from 0, of the first claimed record that cannot be matched": exactly that one is named
  pub unmatched : (position : ℕ) → judgement c t e claim ≡ Unmatched position
      → Judgeable c t e claim × FirstUnmatched (records claim) (records (new_table c t e)) position
  pub names : Judgeable c t e claim → (position : ℕ) → FirstUnmatched (records claim) (records (new_table c t e)) position
      → judgement c t e claim ≡ Unmatched position

-- of an event that our step accepts with a new buffer
pub record AcceptsOwn (c : Context) (t e buffer : List ℕ) : Type 0 where
  -- "Whatever our own step writes is accepted, whoever produced it."
  pub own : judgement c t e (take (stepped c t e (length buffer)).length (written c t e buffer)) ≡ Accepted
  -- "A partner's model drops more than it must, which is lawful": any of its records may be missing, a creation too
  pub less : (gone : List Bool) → judgement c t e (joined (without gone (records (new_table c t e)))) ≡ Accepted

abbrev pub JudgeJudges : Type 0
JudgeJudges = (c : Context) (t e claim : List ℕ) → Judges c t e claim

abbrev pub JudgeAcceptsOwn : Type 0
JudgeAcceptsOwn = (c : Context) (t e buffer : List ℕ) → answer c t e (length buffer) ≡ 0 → AcceptsOwn c t e buffer

-- Document 02, Ask 7: "Asks 1 and 8 .. judge with a matching tally". The same of the step that carries one: it accepts an event
-- only with a tally that matches.
abbrev pub JudgeAcceptsCounted : Type 0
JudgeAcceptsCounted = (c : Context) (kinds : List KindCounts) (pcids t e buffer : List ℕ)
    → counted_answer c kinds pcids t e (length buffer) ≡ 0
    → judgement c t e (take (counted_stepped c kinds pcids t e (length buffer)).step.length (counted_written c kinds pcids t e buffer)) ≡ Accepted
