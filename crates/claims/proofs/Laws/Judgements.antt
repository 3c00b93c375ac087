-- A judgement, ground by ground.
use Rattle.std.specs.Prelude.{ℕ, ◌≤◌, Bool, true, false, cond, not, ◌||◌, List, Result, Ok, Err, ◌≡◌, refl, ltb, length}
use Rattle.std.specs.Result.{is_err}
use Rattle.std.proofs.lemmas.Bool.{true≢false, false≢true}
use Rattle.std.proofs.Common.{◌∙◌}
use borrow.Author.Tests.{eq-eqb, ne_eqb, le-ltb}
use Rattle.model.specs.declared.Context.{Context}
use Rattle.model.specs.declared.Refusal.{Refusal}
use Rattle.model.specs.Tables.{limit, records}
use Rattle.model.specs.Answers.{first, answer, rule_with, valid_table, stored_grounds}
use Rattle.model.specs.Steps.{new_table}
use Rattle.model.specs.Refusals.{answer_of}
use Rattle.laws.specs.Refusals.{refusal_number_some}
use Rattle.claims.specs.declared.Judgement.TheVariants.{Accepted, Refused, Malformed, Unmatched}
use Rattle.claims.specs.Claims.{matched, malformed, judgement}
use Rattle.claims.specs.Matching.{judged_at}

-- a position as a judgement
pub judged_at_end : (claim : List ℕ) (at : ℕ) → at ≡ length claim → judged_at claim at ≡ Accepted
unfolding judged_at
judged_at_end claim at h = rw (eq-eqb at (length claim) h)

pub judged_at_record : (claim : List ℕ) (at : ℕ) → (at ≡ length claim → ⊥) → judged_at claim at ≡ Unmatched at
unfolding judged_at
judged_at_record claim at h = rw (ne_eqb at (length claim) h)

-- a claim is malformed where 2 or 3 would be the answer to it as a table
malformed_stored : (c : Context) (claim : List ℕ) → (first (stored_grounds c.linear_width claim) ≡ 0 → ⊥) → malformed c claim ≡ true
unfolding malformed first
malformed_stored c claim some = go (ltb limit (length claim)) (not (valid_table c.linear_width claim)) some
  where
    go : (long bad : Bool) → (◌≡◌ {A = ℕ} (cond long 2 (cond bad 3 0)) 0 → ⊥) → (long || bad) ≡ true
    go true bad h = refl
    go false true h = refl
    go false false h = absurd (h refl)

pub malformed_refused : (c : Context) (claim : List ℕ) (r : Result ℕ Refusal) → answer_of r ≡ first (stored_grounds c.linear_width claim) → is_err r ≡ true → malformed c claim ≡ true
malformed_refused c claim (Ok n) is h = absurd (false≢true h)
malformed_refused c claim (Err why) is h = malformed_stored c claim (λ z. refusal_number_some why (is ∙ z))

pub answer_of_ok : {A : Type 0} (r : Result A Refusal) → is_err r ≡ false → answer_of r ≡ 0
answer_of_ok (Ok a) h = refl
answer_of_ok (Err why) h = absurd (true≢false h)

pub malformed_valid : (c : Context) (claim : List ℕ) → length claim ≤ limit → valid_table c.linear_width claim ≡ true → malformed c claim ≡ false
unfolding malformed
malformed_valid c claim short valid = rw (le-ltb limit (length claim) short, valid)

module _ (c : Context) (t e claim : List ℕ) where
  pub judgement_refused : {n k : ℕ} → answer c t e limit ≡ n → (n ≡ 0 → ⊥) → k ≡ rule_with c e n → judgement c t e claim ≡ Refused n k
  unfolding judgement
  judgement_refused {n} {k} is some rule = rw (is, ne_eqb n 0 some, rule)

  module _ (accepted : answer c t e limit ≡ 0) where
    pub judgement_malformed : malformed c claim ≡ true → judgement c t e claim ≡ Malformed
    unfolding judgement
    judgement_malformed bad = rw (accepted, bad)

    pub judgement_matched : malformed c claim ≡ false → judgement c t e claim ≡ matched 0 (records claim) (records (new_table c t e))
    unfolding judgement
    judgement_matched good = rw (accepted, good)
