-- In-order parts, record by record, and the earliest matches: they are found exactly if the claimed records are an in-order
-- part of those left.
use Rattle.std.specs.Prelude.{ℕ, ◌+◌, Bool, true, false, cond, ◌⊎◌, ◌≡◌, refl, length}
use mathlib.Core.List.{List, [], ◌∷◌, ◌++◌, nil≢cons, head-eq_of_cons-eq, tail-eq_of_cons-eq}
use Rattle.std.proofs.Common.{inl, inr, ⊎_elim, sym, ap, ◌∙◌, arith}
use Rattle.model.specs.Tables.{joined}
use Rattle.laws.specs.Tables.{length_joined_cons}
use Rattle.tally_rows.specs.Rows.{same}
use Rattle.tally_rows.proofs.Laws.Compared.{same_true}
use Rattle.runs.specs.Runs.{without, InOrderPart}
use Rattle.runs.proofs.Laws.Parts.{part_refl, part_skip, part_keep, part_trans}
use Rattle.claims.specs.declared.Judgement.TheVariants.{Accepted, Unmatched}
use Rattle.claims.specs.Claims.{matched, judgement_values}
use Rattle.claims.specs.Theorem.{FirstUnmatched}
use Rattle.claims.proofs.Laws.Bytes.{same_false}

-- no records are a part of any; some are no part of none
pub part_nil : (rs : List (List ℕ)) → InOrderPart [] rs
part_nil [] = part_refl []
part_nil (r ∷ rs) = part_skip [] r rs (part_nil rs)

pub no_part_of_nil : (r : List ℕ) (rs : List (List ℕ)) → InOrderPart (r ∷ rs) [] → ⊥
unfolding InOrderPart without
no_part_of_nil r rs p = go p.0 p.1
  where
    go : (gone : List Bool) → (r ∷ rs) ≡ without gone [] → ⊥
    go [] is = nil≢cons (sym is)
    go (b ∷ gone) is = nil≢cons (sym is)

-- a part's first record is the whole's, or the part is one of the rest
pub part_cases : (r l : List ℕ) (rs left : List (List ℕ)) → InOrderPart (r ∷ rs) (l ∷ left) → ((r ≡ l) × InOrderPart rs left) ⊎ InOrderPart (r ∷ rs) left
unfolding InOrderPart without
part_cases r l rs left p = go p.0 p.1
  where
    go : (gone : List Bool) → (r ∷ rs) ≡ without gone (l ∷ left) → ((r ≡ l) × InOrderPart rs left) ⊎ InOrderPart (r ∷ rs) left
    go [] is = inl (head-eq_of_cons-eq is, ([], tail-eq_of_cons-eq is))
    go (true ∷ gone) is = inr (gone, is)
    go (false ∷ gone) is = inl (head-eq_of_cons-eq is, (gone, tail-eq_of_cons-eq is))

-- the rest of a part is one of the whole's rest; and where the first records differ, the part is one of it
pub part_less : (r : List ℕ) (rs left : List (List ℕ)) → InOrderPart (r ∷ rs) left → InOrderPart rs left
part_less r rs left p = part_trans rs (r ∷ rs) left (part_skip rs r rs (part_refl rs)) p

pub part_rest : (r l : List ℕ) (rs left : List (List ℕ)) → InOrderPart (r ∷ rs) (l ∷ left) → InOrderPart rs left
part_rest r l rs left p = ⊎_elim (λ k. k.1) (λ k. part_less r rs left k) (part_cases r l rs left p)

pub part_other : (r l : List ℕ) (rs left : List (List ℕ)) → (r ≡ l → ⊥) → InOrderPart (r ∷ rs) (l ∷ left) → InOrderPart (r ∷ rs) left
part_other r l rs left other p = ⊎_elim (λ k. absurd (other k.0)) (λ k. k) (part_cases r l rs left p)

pub part_same : (r l : List ℕ) (rs left : List (List ℕ)) → r ≡ l → InOrderPart rs left → InOrderPart (r ∷ rs) (l ∷ left)
part_same r l rs left is p = rw is (part_keep rs l left p)

-- the cases of a judgement differ
pub accepted_unmatched : (n : ℕ) → Accepted ≡ Unmatched n → ⊥
accepted_unmatched n h = omega (arith, ap (λ j. (judgement_values j).number) h)

pub unmatched_position : (n m : ℕ) → Unmatched n ≡ Unmatched m → n ≡ m
unmatched_position n m h = ap (λ j. (judgement_values j).position) h

-- a matching is no refusal, and not that the claim is malformed
pub matched_number : (at n : ℕ) (rs left : List (List ℕ)) → (n ≡ 0 → ⊥) → (n ≡ 3 → ⊥) → (judgement_values (matched at rs left)).number ≡ n → ⊥
unfolding matched
matched_number at n [] left not_0 not_3 h = not_0 (sym h)
matched_number at n (r ∷ rs) [] not_0 not_3 h = not_3 (sym h)
matched_number at n (r ∷ rs) (l ∷ left) not_0 not_3 h =
    go (same r l) h (matched_number (at + length r) n rs left not_0 not_3) (matched_number at n (r ∷ rs) left not_0 not_3)
  where
    go : (b : Bool) → (judgement_values (cond b (matched (at + length r) rs left) (matched at (r ∷ rs) left))).number ≡ n
        → ((judgement_values (matched (at + length r) rs left)).number ≡ n → ⊥)
        → ((judgement_values (matched at (r ∷ rs) left)).number ≡ n → ⊥)
        → ⊥
    go true k found past = found k
    go false k found past = past k

-- all are matched: they are a part
pub matched_part : (at : ℕ) (rs left : List (List ℕ)) → matched at rs left ≡ Accepted → InOrderPart rs left
unfolding matched
matched_part at [] left h = part_nil left
matched_part at (r ∷ rs) [] h = absurd (accepted_unmatched at (sym h))
matched_part at (r ∷ rs) (l ∷ left) h = go (same r l) refl h (matched_part (at + length r) rs left) (matched_part at (r ∷ rs) left)
  where
    go : (b : Bool) → same r l ≡ b → cond b (matched (at + length r) rs left) (matched at (r ∷ rs) left) ≡ Accepted
        → (matched (at + length r) rs left ≡ Accepted → InOrderPart rs left)
        → (matched at (r ∷ rs) left ≡ Accepted → InOrderPart (r ∷ rs) left)
        → InOrderPart (r ∷ rs) (l ∷ left)
    go true e k found past = part_same r l rs left (same_true r l e) (found k)
    go false e k found past = part_skip (r ∷ rs) l left (past k)

-- and a part is matched
pub part_matched : (at : ℕ) (rs left : List (List ℕ)) → InOrderPart rs left → matched at rs left ≡ Accepted
unfolding matched
part_matched at [] left p = refl
part_matched at (r ∷ rs) [] p = absurd (no_part_of_nil r rs p)
part_matched at (r ∷ rs) (l ∷ left) p = go (same r l) refl (part_matched (at + length r) rs left) (part_matched at (r ∷ rs) left)
  where
    go : (b : Bool) → same r l ≡ b
        → (InOrderPart rs left → matched (at + length r) rs left ≡ Accepted)
        → (InOrderPart (r ∷ rs) left → matched at (r ∷ rs) left ≡ Accepted)
        → cond b (matched (at + length r) rs left) (matched at (r ∷ rs) left) ≡ Accepted
    go true e found past = found (part_rest r l rs left p)
    go false e found past = past (part_other r l rs left (same_false r l e) p)

-- the first that is not matched, of records that start at a position
record Stopped (at : ℕ) (rs left : List (List ℕ)) (n : ℕ) : Type 0 where
  before : List (List ℕ)
  here : List ℕ
  behind : List (List ℕ)
  split : rs ≡ before ++ here ∷ behind
  place : n ≡ at + length (joined before)
  part : InOrderPart before left
  no_part : InOrderPart (before ++ here ∷ []) left → ⊥

-- a record that no record left is stops at once
stopped_none : (at : ℕ) (r : List ℕ) (rs : List (List ℕ)) (n : ℕ) → at ≡ n → Stopped at (r ∷ rs) [] n
unfolding joined
stopped_none at r rs n is =
    record {
      before = [];
      here = r;
      behind = rs;
      split = refl;
      place = omega (arith, is);
      part = part_refl [];
      no_part = no_part_of_nil r [];
    }

-- a matched record before those that stop, and a record left that is passed over
stopped_found : (at : ℕ) (r l : List ℕ) (rs left : List (List ℕ)) (n : ℕ) → r ≡ l → Stopped (at + length r) rs left n → Stopped at (r ∷ rs) (l ∷ left) n
stopped_found at r l rs left n is s =
    record {
      before = r ∷ s.before;
      here = s.here;
      behind = s.behind;
      split = ap (λ xs. r ∷ xs) s.split;
      place = omega (arith, s.place, length_joined_cons r s.before);
      part = part_same r l s.before left is s.part;
      no_part = λ p. s.no_part (part_rest r l (s.before ++ s.here ∷ []) left p);
    }

-- the records up to the one that stops begin with the first
stopped_no_part : (r l : List ℕ) (rs left before behind : List (List ℕ)) (here : List ℕ) → (r ≡ l → ⊥) → (r ∷ rs) ≡ before ++ here ∷ behind
    → (InOrderPart (before ++ here ∷ []) left → ⊥) → InOrderPart (before ++ here ∷ []) (l ∷ left) → ⊥
stopped_no_part r l rs left [] behind here other is none p = none (part_other here l [] left (λ e. other (head-eq_of_cons-eq is ∙ e)) p)
stopped_no_part r l rs left (b ∷ before) behind here other is none p =
    none (part_other b l (before ++ here ∷ []) left (λ e. other (head-eq_of_cons-eq is ∙ e)) p)

stopped_past : (at : ℕ) (r l : List ℕ) (rs left : List (List ℕ)) (n : ℕ) → (r ≡ l → ⊥) → Stopped at (r ∷ rs) left n → Stopped at (r ∷ rs) (l ∷ left) n
stopped_past at r l rs left n other s =
    record {
      before = s.before;
      here = s.here;
      behind = s.behind;
      split = s.split;
      place = s.place;
      part = part_skip s.before l left s.part;
      no_part = stopped_no_part r l rs left s.before s.behind s.here other s.split s.no_part;
    }

matched_stopped : (at n : ℕ) (rs left : List (List ℕ)) → matched at rs left ≡ Unmatched n → Stopped at rs left n
unfolding matched
matched_stopped at n [] left h = absurd (accepted_unmatched n h)
matched_stopped at n (r ∷ rs) [] h = stopped_none at r rs n (unmatched_position at n h)
matched_stopped at n (r ∷ rs) (l ∷ left) h = go (same r l) refl h (matched_stopped (at + length r) n rs left) (matched_stopped at n (r ∷ rs) left)
  where
    go : (b : Bool) → same r l ≡ b → cond b (matched (at + length r) rs left) (matched at (r ∷ rs) left) ≡ Unmatched n
        → (matched (at + length r) rs left ≡ Unmatched n → Stopped (at + length r) rs left n)
        → (matched at (r ∷ rs) left ≡ Unmatched n → Stopped at (r ∷ rs) left n)
        → Stopped at (r ∷ rs) (l ∷ left) n
    go true e k found past = stopped_found at r l rs left n (same_true r l e) (found k)
    go false e k found past = stopped_past at r l rs left n (same_false r l e) (past k)

pub matched_unmatched : (n : ℕ) (rs left : List (List ℕ)) → matched 0 rs left ≡ Unmatched n → FirstUnmatched rs left n
matched_unmatched n rs left h =
    let s = matched_stopped 0 n rs left h in
    record {
      before = s.before;
      here = s.here;
      behind = s.behind;
      split = s.split;
      place = omega (arith, s.place);
      part = s.part;
      no_part = s.no_part;
    }

-- and such a record is the one at which the matching stops
stops : (at : ℕ) (before : List (List ℕ)) (here : List ℕ) (behind left : List (List ℕ)) → InOrderPart before left → (InOrderPart (before ++ here ∷ []) left → ⊥)
    → matched at (before ++ here ∷ behind) left ≡ Unmatched (at + length (joined before))
unfolding matched joined
stops at [] here behind [] p none = let same_place : at ≡ at + 0 = omega arith in ap Unmatched same_place
stops at (b ∷ before) here behind [] p none = absurd (no_part_of_nil b before p)
stops at [] here behind (l ∷ left) p none = go (same here l) refl (stops at [] here behind left)
  where
    go : (s : Bool) → same here l ≡ s
        → (InOrderPart [] left → (InOrderPart (here ∷ []) left → ⊥) → matched at (here ∷ behind) left ≡ Unmatched (at + 0))
        → cond s (matched (at + length here) behind left) (matched at (here ∷ behind) left) ≡ Unmatched (at + 0)
    go true e past = absurd (none (part_same here l [] left (same_true here l e) (part_nil left)))
    go false e past = past (part_nil left) (λ q. none (part_skip (here ∷ []) l left q))
stops at (b ∷ before) here behind (l ∷ left) p none =
    go (same b l) refl (stops (at + length b) before here behind left) (stops at (b ∷ before) here behind left)
  where
    place : at + length b + length (joined before) ≡ at + length (joined (b ∷ before))
    place = omega (arith, length_joined_cons b before)

    go : (s : Bool) → same b l ≡ s
        → (InOrderPart before left → (InOrderPart (before ++ here ∷ []) left → ⊥) → matched (at + length b) (before ++ here ∷ behind) left ≡ Unmatched (at + length b + length (joined before)))
        → (InOrderPart (b ∷ before) left → (InOrderPart (b ∷ (before ++ here ∷ [])) left → ⊥) → matched at (b ∷ (before ++ here ∷ behind)) left ≡ Unmatched (at + length (joined (b ∷ before))))
        → cond s (matched (at + length b) (before ++ here ∷ behind) left) (matched at (b ∷ (before ++ here ∷ behind)) left) ≡ Unmatched (at + length (joined (b ∷ before)))
    go true e found past =
        found (part_rest b l before left p) (λ q. none (part_same b l (before ++ here ∷ []) left (same_true b l e) q)) ∙ ap Unmatched place
    go false e found past =
        past (part_other b l before left (same_false b l e) p) (λ q. none (part_skip (b ∷ (before ++ here ∷ [])) l left q))

pub unmatched_matched : (n : ℕ) (rs left : List (List ℕ)) → FirstUnmatched rs left n → matched 0 rs left ≡ Unmatched n
unmatched_matched n rs left f =
    let place : 0 + length (joined f.before) ≡ n = omega (arith, f.place) in
    ap (λ xs. matched 0 xs left) f.split ∙ stops 0 f.before f.here f.behind left f.part f.no_part ∙ ap Unmatched place
