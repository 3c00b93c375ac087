-- A claim matched record by record; the loop of `pass_left`: what holds before each record of the table, how a record carries
-- it on, and what it says at the end; and what an event adds.
use Rattle.std.specs.Prelude.{ℕ, ◌+◌, ◌≤◌, ◌<◌, Bool, cond, List, [], ◌∷◌, ◌++◌, ◌≡◌, eqb, drop, nat_eq}
use Rattle.std.specs.List.{starts_with}
use Rattle.std.proofs.Math.Bool.{true, false, not}
use Rattle.std.proofs.lemmas.Bool.{false≢true, eqb-false}
use Rattle.std.proofs.Math.Path.{refl, ap}
use Rattle.std.proofs.Common.{sym, ◌∙◌, arith, eqb-true, length-drop, drop-drop}
use Rattle.std.proofs.Math.ListN.{length}
use Rattle.model.specs.declared.Context.{Context}
use Rattle.model.specs.declared.Event.{Event}
use Rattle.model.specs.declared.Mapping.{Mapping}
use Rattle.model.specs.Layouts.{kind_of, mapping_kind}
use Rattle.model.specs.Mappings.{mapping, record_length}
use Rattle.model.specs.Tables.{whole, records, only}
use Rattle.model.specs.Events.{event, valid_event}
use Rattle.model.specs.Scopes.{scope}
use Rattle.model.specs.Answers.{creation}
use Rattle.model.specs.Steps.{new_records, new_table}
use Rattle.laws.specs.Lists.{every_head}
use Rattle.laws.specs.Mappings.{Valid}
use Rattle.laws.specs.Events.{creation_valid}
use Rattle.laws.specs.Steps.{records_new_table}
use Rattle.laws.specs.Tables.{Next, next_of_length, whole_starts, whole_rest, records_valid, records_drop_end, only_true, only_false}
use Rattle.filters.specs.Filters.{left}
use Rattle.tally_rows.specs.Rows.{same}
use Rattle.tally_rows.proofs.Laws.Compared.{same_refl, same_true}
use Rattle.claims.specs.declared.Judgement.TheVariants.{Accepted, Unmatched}
use Rattle.claims.specs.Claims.{matched}
use Rattle.claims.specs.Matching.{Passes, judged_at, PassesCreation}
use Rattle.claims.proofs.Laws.Bytes.{record_length_starts_with, records_starts_with, starts_with_first}

-- no claimed records are matched by any
matched_none : (at : ℕ) (left : List (List ℕ)) → matched at [] left ≡ matched at [] []
unfolding matched
matched_none at [] = refl
matched_none at (l ∷ left) = refl

matched_same : (at : ℕ) (r : List ℕ) (rs left : List (List ℕ)) → matched at (r ∷ rs) (r ∷ left) ≡ matched (at + length r) rs left
unfolding matched
matched_same at r rs left = rw (same_refl r)

matched_other : (at : ℕ) (r l : List ℕ) (rs left : List (List ℕ)) → same r l ≡ false → matched at (r ∷ rs) (l ∷ left) ≡ matched at (r ∷ rs) left
unfolding matched
matched_other at r l rs left h = rw h

-- a claim from a position on, and a record that is left
module _ (claim l : List ℕ) (at : ℕ) (valid : Valid l) (left : List (List ℕ)) where
  -- the claim goes on with it: it is matched
  module _ (h : starts_with nat_eq (drop at claim) l ≡ true) where
    pub claimed_next : Next claim at (length l)
    claimed_next = next_of_length claim at (length l) (record_length_starts_with (drop at claim) l valid h) valid.filled

    pub matched_next : matched at (records (drop at claim)) (l ∷ left) ≡ matched (at + length l) (records (drop (at + length l) claim)) left
    matched_next =
        ap (λ rs. matched at rs (l ∷ left)) (records_starts_with (drop at claim) l valid h)
        ∙ matched_same at l (records (drop (length l) (drop at claim))) left
        ∙ ap (λ bytes. matched (at + length l) (records bytes) left) (drop-drop (length l) at claim)

  -- it does not: the record is passed over
  pub matched_past : starts_with nat_eq (drop at claim) l ≡ false → matched at (records (drop at claim)) (l ∷ left) ≡ matched at (records (drop at claim)) left
  matched_past h = go (records (drop at claim)) refl
    where
      go : (rs : List (List ℕ)) → records (drop at claim) ≡ rs → matched at rs (l ∷ left) ≡ matched at rs left
      go [] is = matched_none at (l ∷ left) ∙ sym (matched_none at left)
      go (r ∷ rs) is = matched_other at r l rs left (other (same r l) refl)
        where
          other : (b : Bool) → same r l ≡ b → same r l ≡ false
          other true e = absurd (false≢true (sym h ∙ ap (starts_with nat_eq (drop at claim)) (sym (same_true r l e)) ∙ starts_with_first (drop at claim) r rs is))
          other false e = e

module _ (test : Mapping → Bool) where
  -- The records of a rest of the table are still to come, and the claim is matched up to a position of it.
  pub record Matching (t claim rest : List ℕ) (reached : ℕ) : Type 0 where
    pub inside : reached ≤ length claim
    pub claim_rest : whole (drop reached claim) ≡ true
    pub same : (behind : List (List ℕ))
        → matched 0 (records claim) (left test t ++ behind) ≡ matched reached (records (drop reached claim)) (left test rest ++ behind)

  pub matching_start : (t claim : List ℕ) → whole claim ≡ true → Matching t claim t 0
  matching_start t claim w = record { inside = omega arith; claim_rest = w; same = λ behind. refl }

  module _ {t claim rest : List ℕ} {reached : ℕ} (s : Matching t claim rest reached) where
    -- no record is to come
    pub matching_end : records rest ≡ [] → Passes test t claim reached
    unfolding only
    matching_end none =
        record {
          inside = s.inside;
          rest = s.claim_rest;
          same = λ behind. s.same behind ∙ ap (λ rs. matched reached (records (drop reached claim)) (only (λ r. not (test (mapping r))) rs ++ behind)) none;
        }

    module _ (r after : List ℕ) (first : records rest ≡ r ∷ records after) where
      first_valid : Valid r
      first_valid = every_head (rw first at (records_valid rest))

      -- the next record is dropped
      pub matching_gone : test (mapping r) ≡ true → Matching t claim after reached
      matching_gone gone =
          let held : not (test (mapping r)) ≡ false = rw gone in
          let others : left test rest ≡ left test after = rw (first, only_false (λ r. not (test (mapping r))) r (records after) held) in
          record {
            inside = s.inside;
            claim_rest = s.claim_rest;
            same = λ behind. s.same behind ∙ ap (λ rs. matched reached (records (drop reached claim)) (rs ++ behind)) others;
          }

      -- it is left
      module _ (out : test (mapping r) ≡ false) where
        stays : left test rest ≡ r ∷ left test after
        stays =
            let held : not (test (mapping r)) ≡ true = rw out in
            rw (first, only_true (λ r. not (test (mapping r))) r (records after) held)

        with_behind : (behind : List (List ℕ))
            → matched 0 (records claim) (left test t ++ behind) ≡ matched reached (records (drop reached claim)) (r ∷ (left test after ++ behind))
        with_behind behind = s.same behind ∙ ap (λ rs. matched reached (records (drop reached claim)) (rs ++ behind)) stays

        -- and matched
        pub matching_matched : starts_with nat_eq (drop reached claim) r ≡ true → Matching t claim after (reached + length r)
        matching_matched h =
            let claimed = claimed_next claim r reached first_valid [] h in
            record {
              inside = claimed.within;
              claim_rest = whole_rest s.claim_rest claimed;
              same = λ behind. with_behind behind ∙ matched_next claim r reached first_valid (left test after ++ behind) h;
            }

        -- or passed over
        pub matching_past : starts_with nat_eq (drop reached claim) r ≡ false → Matching t claim after reached
        matching_past h =
            record {
              inside = s.inside;
              claim_rest = s.claim_rest;
              same = λ behind. with_behind behind ∙ matched_past claim r reached first_valid (left test after ++ behind) h;
            }

-- with no record left, a claim is matched if it is at its end
pub matched_at_end : (claim : List ℕ) (at : ℕ) → at ≤ length claim → whole (drop at claim) ≡ true
    → matched at (records (drop at claim)) [] ≡ judged_at claim at
unfolding matched judged_at
matched_at_end claim at inside w = go (eqb at (length claim)) refl
  where
    go : (b : Bool) → eqb at (length claim) ≡ b → matched at (records (drop at claim)) [] ≡ cond b Accepted (Unmatched at)
    go true e = rw (records_drop_end claim at (omega (arith, eqb-true at (length claim) e)))
    go false e =
        let some : 0 < length (drop at claim) = omega (arith, length-drop at claim, inside, eqb-false at (length claim) e) in
        let next : Next claim at (record_length (drop at claim)) = next_of_length claim at (record_length (drop at claim)) refl (whole_starts (drop at claim) w some) in
        rw next.split

-- what an event adds, at a position of the claim: nothing, or a record that is the claim's last, or is not claimed
module _ (w : ℕ) (e claim : List ℕ) (at : ℕ) (valid : valid_event w e ≡ true) (inside : at ≤ length claim) (rest : whole (drop at claim) ≡ true) where
  pub passes_nothing : length (creation e) ≡ 0 → PassesCreation e claim at at
  unfolding creation
  passes_nothing none = record { same = go (mapping_kind (kind_of e)) none }
    where
      go : (b : Bool) → length (cond b (e ∷ []) []) ≡ 0 → matched at (records (drop at claim)) (cond b (e ∷ []) []) ≡ judged_at claim at
      go true h = absurd (omega arith)
      go false h = matched_at_end claim at inside rest

  module _ (one : length (creation e) ≡ 0 → ⊥) where
    is_creation : mapping_kind (kind_of e) ≡ true
    unfolding creation
    is_creation = go (mapping_kind (kind_of e)) refl one
      where
        go : (b : Bool) → mapping_kind (kind_of e) ≡ b → (length (cond b (e ∷ []) []) ≡ 0 → ⊥) → mapping_kind (kind_of e) ≡ true
        go true k h = k
        go false k h = absurd (h refl)

    it : creation e ≡ e ∷ []
    unfolding creation
    it = rw is_creation

    valid_record : Valid e
    valid_record = creation_valid w e valid is_creation

    pub claimed_creation : starts_with nat_eq (drop at claim) e ≡ true → Next claim at (length e)
    claimed_creation h = claimed_next claim e at valid_record [] h

    pub passes_creation : starts_with nat_eq (drop at claim) e ≡ true → PassesCreation e claim at (at + length e)
    passes_creation h =
        let next = claimed_creation h in
        record { same = ap (matched at (records (drop at claim))) it ∙ matched_next claim e at valid_record [] h ∙ matched_at_end claim (at + length e) next.within (whole_rest rest next) }

    pub passes_no_creation : starts_with nat_eq (drop at claim) e ≡ false → PassesCreation e claim at at
    passes_no_creation h =
        record { same = ap (matched at (records (drop at claim))) it ∙ matched_past claim e at valid_record [] h ∙ matched_at_end claim at inside rest }

-- the records that an accepted event leaves, as they are matched
pub matched_new_table : (w : ℕ) (c : Context) (t raw claim : List ℕ) {e : Event} → valid_event w raw ≡ true → e ≡ event raw
    → {at reached : ℕ} → Passes (scope c e) t claim at → PassesCreation raw claim at reached
    → matched 0 (records claim) (records (new_table c t raw)) ≡ judged_at claim reached
unfolding new_records
matched_new_table w c t raw claim {e} valid read passes last =
    let all : records (new_table c t raw) ≡ left (scope c e) t ++ creation raw = records_new_table w c t raw valid ∙ rw read in
    ap (matched 0 (records claim)) all ∙ passes.same (creation raw) ∙ last.same
