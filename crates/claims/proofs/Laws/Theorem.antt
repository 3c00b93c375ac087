-- When each judgement is given, and which claims are always accepted, proved.
use Rattle.std.specs.Prelude.{ℕ, min, ◌+◌, ◌≤◌, Bool, true, false, not, ◌||◌, List, [], ◌∷◌, ◌++◌, ◌≡◌, refl, eqb, ltb, length, take}
use Rattle.std.proofs.lemmas.Bool.{false≢true, eqb-false, not-false}
use Rattle.std.proofs.Common.{sym, ap, ◌∙◌, arith, eqb-true, ltb-false, le-ltb}
use Rattle.model.specs.declared.Context.{Context}
use Rattle.model.specs.Tables.{limit, records, joined}
use Rattle.model.specs.Events.{event}
use Rattle.model.specs.Answers.{created, no_room, rule_with, valid_here, valid_table, table_grounds, event_grounds, grounds, answer}
use Rattle.model.specs.Steps.{new_table, accepted_step, stepped, written}
use Rattle.laws.specs.Buffers.{take_put_front}
use Rattle.laws.specs.Context.{linear_width_next}
use Rattle.laws.specs.Answers.{first_last, valid_table_parts, valid_table_made, Accepted, accepted_parts}
use Rattle.laws.specs.Lists.{Every}
use Rattle.laws.specs.Mappings.{Valid}
use Rattle.laws.specs.Tables.{records_valid, records_joined, joined_whole, whole_joined, length_joined_records}
use Rattle.laws.specs.Steps.{new_table_valid, length_new_table, stepped_accepted}
use Rattle.counted_steps.proofs.Laws.Accepted.{accepted_matching}
use Rattle.counted_steps.proofs.Laws.Steps.{counted_answer_matching, counted_stepped_matching, counted_written_matching}
use Rattle.runs.specs.Runs.{without, InOrderPart}
use Rattle.runs.proofs.Laws.Parts.{every_without, length_joined_without}
use Rattle.claims.specs.declared.Judgement.{Judgement}
use Rattle.claims.specs.declared.Judgement.TheVariants
use Rattle.claims.specs.declared.Judgement.TheVariants.{Refused, Malformed, Unmatched}
use Rattle.claims.specs.Claims.{matched, malformed, judgement, judgement_values}
use Rattle.claims.specs.Theorem.{ValidIn, Judgeable, JudgeJudges, JudgeAcceptsOwn, JudgeAcceptsCounted}
use Rattle.claims.proofs.Laws.Parts.{matched_number, matched_part, part_matched, matched_unmatched, unmatched_matched}
use Rattle.claims.proofs.Laws.Judgements.{malformed_valid, judgement_refused, judgement_malformed, judgement_matched}

-- a claim that is not malformed is a valid table
valid_claim : (c : Context) (claim : List ℕ) → malformed c claim ≡ false → ValidIn c claim
unfolding malformed
valid_claim c claim h = go (ltb limit (length claim)) (not (valid_table c.linear_width claim)) refl refl h
  where
    go : (long bad : Bool) → ltb limit (length claim) ≡ long → not (valid_table c.linear_width claim) ≡ bad → (long || bad) ≡ false → ValidIn c claim
    go true bad e f k = absurd (false≢true (sym k))
    go false true e f k = absurd (false≢true (sym k))
    go false false e f k = record { short = ltb-false limit (length claim) e; valid = not-false (valid_table c.linear_width claim) f }

-- the table before an accepted event is one
valid_before : (c : Context) (t e : List ℕ) → answer c t e limit ≡ 0 → ValidIn c t
valid_before c t e h = let a = accepted_parts c t e limit h in record { short = omega (arith, a.short); valid = a.table }

module _ (c : Context) (t e claim : List ℕ) where
  -- a refusal
  refusal : (answer c t e limit ≡ 0 → ⊥) → judgement c t e claim ≡ Refused (answer c t e limit) (rule_with c e (answer c t e limit))
  refusal some = judgement_refused c t e claim refl some refl

  -- a malformed claim
  rejection : answer c t e limit ≡ 0 → (ValidIn c claim → ⊥) → judgement c t e claim ≡ Malformed
  rejection accepted bad = judgement_malformed c t e claim accepted (go (malformed c claim) refl)
    where
      go : (b : Bool) → malformed c claim ≡ b → malformed c claim ≡ true
      go true is = is
      go false is = absurd (bad (valid_claim c claim is))

  -- of what is judgeable, the matching's
  matching : Judgeable c t e claim → judgement c t e claim ≡ matched 0 (records claim) (records (new_table c t e))
  matching j = judgement_matched c t e claim j.accepted (malformed_valid c claim j.after.short j.after.valid)

  -- one of the three it is
  stages : {P : Type 0} → ((answer c t e limit ≡ 0 → ⊥) → P) → (answer c t e limit ≡ 0 → (ValidIn c claim → ⊥) → P) → (Judgeable c t e claim → P) → P
  stages {P} off bad good = go (eqb (answer c t e limit) 0) refl
    where
      go : (b : Bool) → eqb (answer c t e limit) 0 ≡ b → P
      go false is = off (eqb-false (answer c t e limit) 0 is)
      go true is = then (malformed c claim) refl
        where
          accepted : answer c t e limit ≡ 0
          accepted = eqb-true (answer c t e limit) 0 is

          then : (b : Bool) → malformed c claim ≡ b → P
          then true m = bad accepted (λ v. false≢true (sym (malformed_valid c claim v.short v.valid) ∙ m))
          then false m = good (record { accepted = accepted; before = valid_before c t e accepted; after = valid_claim c claim m })

  -- the number of the judgement
  is_number : (j : Judgement) {i : Judgement} → judgement c t e claim ≡ j → judgement c t e claim ≡ i → (judgement_values j).number ≡ (judgement_values i).number
  is_number j h k = ap (λ x. (judgement_values x).number) (sym h ∙ k)

  -- a judgement that is the matching's
  judged : (j : Judgement) → judgement c t e claim ≡ j → ((judgement_values j).number ≡ 1 → ⊥) → ((judgement_values j).number ≡ 2 → ⊥)
      → Judgeable c t e claim × (matched 0 (records claim) (records (new_table c t e)) ≡ j)
  judged j h not_1 not_2 =
      stages (λ some. absurd (not_1 (is_number j h (refusal some)))) (λ accepted bad. absurd (not_2 (is_number j h (rejection accepted bad))))
      (λ good. (good, sym (matching good) ∙ h))

  refused_parts : (n k : ℕ) → judgement c t e claim ≡ Refused n k → (n ≡ answer c t e limit) × ((n ≡ 0 → ⊥) × (k ≡ rule_with c e n))
  refused_parts n k h =
      stages
      (λ some.
      let same : Refused n k ≡ Refused (answer c t e limit) (rule_with c e (answer c t e limit)) = sym h ∙ refusal some in
      let number : n ≡ answer c t e limit = ap (λ x. (judgement_values x).answer) same in
      (number, ((λ z. some (sym number ∙ z)), ap (λ x. (judgement_values x).rule) same ∙ ap (rule_with c e) (sym number))))
      (λ accepted bad. absurd (omega (arith, is_number (Refused n k) h (rejection accepted bad))))
      (λ good. absurd (matched_number 0 1 (records claim) (records (new_table c t e)) (λ z. omega arith) (λ z. omega arith) (sym (is_number (Refused n k) h (matching good)))))

  malformed_parts : judgement c t e claim ≡ Malformed → (answer c t e limit ≡ 0) × (ValidIn c claim → ⊥)
  malformed_parts h =
      stages (λ some. absurd (omega (arith, is_number Malformed h (refusal some)))) (λ accepted bad. (accepted, bad))
      (λ good. absurd (matched_number 0 2 (records claim) (records (new_table c t e)) (λ z. omega arith) (λ z. omega arith) (sym (is_number Malformed h (matching good)))))

pub judge_judges_holds : JudgeJudges
judge_judges_holds c t e claim =
    record {
      refused = refused_parts c t e claim;
      refuses = refusal c t e claim;
      malformed = malformed_parts c t e claim;
      rejects = rejection c t e claim;
      accepted = λ h. let j = judged c t e claim TheVariants.Accepted h (λ z. omega arith) (λ z. omega arith) in
          (j.0, matched_part 0 (records claim) (records (new_table c t e)) j.1);
      accepts = λ j p. matching c t e claim j ∙ part_matched 0 (records claim) (records (new_table c t e)) p;
      unmatched = λ n h. let j = judged c t e claim (Unmatched n) h (λ z. omega arith) (λ z. omega arith) in
          (j.0, matched_unmatched n (records claim) (records (new_table c t e)) j.1);
      names = λ j n f. matching c t e claim j ∙ unmatched_matched n (records claim) (records (new_table c t e)) f;
    }

-- an event that is accepted with some buffer is accepted with one of the limit
accepted_at_limit : (c : Context) (t e : List ℕ) (room : ℕ) → answer c t e room ≡ 0 → answer c t e limit ≡ 0
unfolding answer grounds no_room
accepted_at_limit c t e room h =
    let n = length t + length (created e) in
    first_last (table_grounds c t ++ ((4, not (valid_here c e)) ∷ []) ++ event_grounds c (event e)) 12 (no_room room t e) (no_room limit t e)
    (λ fits. le-ltb (min limit limit) n (omega (arith, ltb-false (min room limit) n fits)))
    (λ z. omega (arith, h, z))
    ∙ h

-- what our step leaves, less any records, is accepted
module _ (c : Context) (t e : List ℕ) (room : ℕ) (h : answer c t e room ≡ 0) where
  own_parts : Accepted c t e room
  own_parts = accepted_parts c t e room h

  new_valid : valid_table c.linear_width (new_table c t e) ≡ true
  new_valid = ap (λ w. valid_table w (new_table c t e)) (sym (linear_width_next c (event e))) ∙ new_table_valid c t e room own_parts

  new_short : length (new_table c t e) ≤ limit
  new_short = omega (arith, length_new_table c t e, own_parts.short)

  module _ (gone : List Bool) where
    each : Every Valid (without gone (records (new_table c t e)))
    each = every_without gone (records_valid (new_table c t e))

    read_back : records (joined (without gone (records (new_table c t e)))) ≡ without gone (records (new_table c t e))
    read_back = records_joined each

    after : ValidIn c (joined (without gone (records (new_table c t e))))
    after =
        record {
          short = omega (arith, length_joined_without gone (records (new_table c t e)), length_joined_records (new_table c t e), new_short);
          valid = valid_table_made c.linear_width (joined (without gone (records (new_table c t e)))) (joined_whole each)
              (rw read_back (every_without gone (valid_table_parts c.linear_width (new_table c t e) new_valid).1));
        }

    pub less_accepted : judgement c t e (joined (without gone (records (new_table c t e)))) ≡ TheVariants.Accepted
    unfolding InOrderPart
    less_accepted =
        let accepted = accepted_at_limit c t e room h in
        (judge_judges_holds c t e (joined (without gone (records (new_table c t e))))).accepts
        (record { accepted = accepted; before = valid_before c t e accepted; after = after })
        (gone, read_back)

  own_accepted : judgement c t e (new_table c t e) ≡ TheVariants.Accepted
  unfolding without
  own_accepted = rw (whole_joined (new_table c t e) (valid_table_parts c.linear_width (new_table c t e) new_valid).0) at (less_accepted [])

pub judge_accepts_own_holds : JudgeAcceptsOwn
unfolding written accepted_step
judge_accepts_own_holds c t e buffer h =
    let wrote : take (stepped c t e (length buffer)).length (written c t e buffer) ≡ new_table c t e =
    rw (stepped_accepted c t e (length buffer) h, h) (take_put_front (new_table c t e) buffer) in
    record {
      own = rw wrote (own_accepted c t e (length buffer) h);
      less = less_accepted c t e (length buffer) h;
    }

pub judge_accepts_counted_holds : JudgeAcceptsCounted
judge_accepts_counted_holds c kinds pcids t e buffer h =
    let match = accepted_matching c kinds pcids t e (length buffer) h in
    rw (counted_stepped_matching c kinds pcids t e match (length buffer), counted_written_matching c kinds pcids t e match buffer)
    (judge_accepts_own_holds c t e buffer (sym (counted_answer_matching c kinds pcids t e (length buffer) match) ∙ h)).own
