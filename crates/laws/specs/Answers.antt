-- Answers: what an accepted event's answer says, and on what the answer of an event depends.
use Rattle.std.specs.Prelude.{ℕ, suc, min, ◌+◌, ◌≤◌, ◌<◌, ◌≡◌, Bool, true, false, cond, ◌&&◌, eqb, ltb, length}
use Rattle.std.proofs.Math.Path.{refl}
use Rattle.std.proofs.Common.{sym, ap, ◌∙◌, arith, ltb-true, ltb-false, le-ltb, eqb-true, eq-eqb}
use Rattle.std.proofs.Math.Bool.{not, and-eq-true_iff}
use Rattle.std.proofs.lemmas.Bool.{false≢true, eqb-false, not-true, not-false}
use mathlib.Core.List.{List, [], ◌∷◌, ◌++◌, append_assoc}
use Rattle.model.specs.declared.Context.{Context}
use Rattle.model.specs.declared.Event.{Event}
use Rattle.model.specs.declared.Event.TheVariants.{Creation, Invvpid, Invept, Invlpg, EptViolation, Entry, Exit, Vmxon, Vmxoff, NewPcid, Reset, Invpcid, MovToCr3}
use Rattle.model.specs.Context.{in_range, in_root, in_guest, current_ept}
use Rattle.model.specs.Layouts.{kind_of}
use Rattle.model.specs.Mappings.{other_width}
use Rattle.model.specs.Tables.{limit, records, whole, of_width}
use Rattle.model.specs.Events.{event}
use Rattle.model.specs.Answers.{first, bad_invvpid, bad_invept, bad_invpcid, invalid_opcode, exits, general_protection, bad_entry, ept_in_use, creatable, own_ground, created, no_room, valid_table, valid_here, stored_grounds, table_grounds, event_grounds, event_answer, grounds, answer}
use Rattle.laws.specs.Lists.{Every, none, more, every_head, every_tail, every_append_front, every_append_back}

-- every ground has a number above 0, so that no answer 0 stands for one
abbrev pub numbered : List (ℕ × Bool) → Bool
numbered [] = true
numbered (g ∷ gs) = ltb 0 g.0 && numbered gs

-- no ground applies where the answer is 0
pub first_zero : (gs : List (ℕ × Bool)) → numbered gs ≡ true → first gs ≡ 0 → Every (λ g. g.1 ≡ false) gs
unfolding first
first_zero [] h e = none
first_zero (g ∷ gs) h e =
    let parts = (and-eq-true_iff (ltb 0 g.0) (numbered gs)).0 h in
    go g.1 refl e (ltb-true 0 g.0 parts.0) (λ r. first_zero gs parts.1 r)
  where
    go : (b : Bool) → g.1 ≡ b → cond b g.0 (first gs) ≡ 0 → 0 < g.0 → (first gs ≡ 0 → Every (λ g. g.1 ≡ false) gs)
        → Every (λ g. g.1 ≡ false) (g ∷ gs)
    go true q r p ih = absurd (omega arith)
    go false q r p ih = more q (ih r)

-- where the last ground does not give the answer, one that applies in fewer cases gives the same
pub first_last : (gs : List (ℕ × Bool)) (n : ℕ) (b b' : Bool) → (b ≡ false → b' ≡ false) → (first (gs ++ ((n, b) ∷ [])) ≡ n → ⊥)
    → first (gs ++ ((n, b') ∷ [])) ≡ first (gs ++ ((n, b) ∷ []))
unfolding first
first_last [] n true b' fewer h = absurd (h refl)
first_last [] n false b' fewer h = rw (fewer refl)
first_last (g ∷ gs) n b b' fewer h = go g.1 h (λ k. first_last gs n b b' fewer k)
  where
    go : (a : Bool) → (cond a g.0 (first (gs ++ ((n, b) ∷ []))) ≡ n → ⊥)
        → ((first (gs ++ ((n, b) ∷ [])) ≡ n → ⊥) → first (gs ++ ((n, b') ∷ [])) ≡ first (gs ++ ((n, b) ∷ [])))
        → cond a g.0 (first (gs ++ ((n, b') ∷ []))) ≡ cond a g.0 (first (gs ++ ((n, b) ∷ [])))
    go true k ih = refl
    go false k ih = ih k

-- the last ground applies where its number is given, and no other ground has that number
abbrev pub lacks : ℕ → List (ℕ × Bool) → Bool
lacks n [] = true
lacks n (g ∷ gs) = not (eqb g.0 n) && lacks n gs

pub first_last_applies : (gs : List (ℕ × Bool)) (n : ℕ) (b : Bool) → lacks (suc n) gs ≡ true
    → first (gs ++ ((suc n, b) ∷ [])) ≡ suc n
    → b ≡ true
unfolding first
first_last_applies [] n true h e = refl
first_last_applies [] n false h e = absurd (omega arith)
first_last_applies (g ∷ gs) n b h e =
    let parts = (and-eq-true_iff (not (eqb g.0 (suc n))) (lacks (suc n) gs)).0 h in
    go g.1 e (eqb-false g.0 (suc n) (not-true (eqb g.0 (suc n)) parts.0)) (λ k. first_last_applies gs n b parts.1 k)
  where
    go : (a : Bool) → cond a g.0 (first (gs ++ ((suc n, b) ∷ []))) ≡ suc n → (g.0 ≡ suc n → ⊥)
        → (first (gs ++ ((suc n, b) ∷ [])) ≡ suc n → b ≡ true)
        → b ≡ true
    go true k other ih = absurd (other k)
    go false k other ih = ih k

-- what it is that a table is valid: whole, and each of its records of the linear width
abbrev pub OfWidth : ℕ → List ℕ → Type 0
OfWidth w r = not (other_width w (kind_of r)) ≡ true

pub of_width_every : (w : ℕ) (rs : List (List ℕ)) → of_width w rs ≡ true → Every (OfWidth w) rs
unfolding of_width
of_width_every w [] h = none
of_width_every w (r ∷ rs) h =
    let both = (and-eq-true_iff (not (other_width w (kind_of r))) (of_width w rs)).0 h in
    more both.0 (of_width_every w rs both.1)

pub every_of_width : (w : ℕ) {rs : List (List ℕ)} → Every (OfWidth w) rs → of_width w rs ≡ true
unfolding of_width
every_of_width w none = refl
every_of_width w (more h hs) = (and-eq-true_iff _ _).1 (h, every_of_width w hs)

pub valid_table_parts : (w : ℕ) (t : List ℕ) → valid_table w t ≡ true → (whole t ≡ true) × Every (OfWidth w) (records t)
unfolding valid_table
valid_table_parts w t v =
    let both = (and-eq-true_iff (whole t) (of_width w (records t))).0 v in
    (both.0, of_width_every w (records t) both.1)

pub valid_table_made : (w : ℕ) (t : List ℕ) → whole t ≡ true → Every (OfWidth w) (records t) → valid_table w t ≡ true
unfolding valid_table
valid_table_made w t is each = (and-eq-true_iff _ _).1 (is, every_of_width w each)

-- what it is that an event is accepted, as far as it concerns the table
pub record Accepted (c : Context) (t e : List ℕ) (room : ℕ) : Type 0 where
  pub context : in_range c ≡ true
  pub table : valid_table c.linear_width t ≡ true
  pub valid : valid_here c e ≡ true
  pub fits : length t + length (created e) ≤ room
  pub short : length t + length (created e) ≤ limit

pub accepted_parts : (c : Context) (t e : List ℕ) (room : ℕ) → answer c t e room ≡ 0 → Accepted c t e room
unfolding answer grounds table_grounds event_grounds no_room
accepted_parts c t e room h =
    let all = first_zero (grounds c t e room) refl h in
    let early = table_grounds c t ++ ((4, not (valid_here c e)) ∷ []) in
    let before = every_append_front (early ++ event_grounds c (event e)) ((12, no_room room t e) ∷ []) all in
    let last = every_append_back (early ++ event_grounds c (event e)) ((12, no_room room t e) ∷ []) all in
    let both = every_append_front early (event_grounds c (event e)) before in
    let of_table = every_append_front (table_grounds c t) ((4, not (valid_here c e)) ∷ []) both in
    let of_event = every_append_back (table_grounds c t) ((4, not (valid_here c e)) ∷ []) both in
    let enough = ltb-false (min room limit) (length t + length (created e)) (every_head last) in
    record {
      context = not-false (in_range c) (every_head of_table);
      table = not-false (valid_table c.linear_width t) (every_head (every_tail (every_tail of_table)));
      valid = not-false (valid_here c e) (every_head of_event);
      fits = omega arith;
      short = omega arith;
    }

-- the length of the new buffer does not matter where it is at least the limit
pub answer_room : (c : Context) (t e : List ℕ) (room : ℕ) → limit ≤ room → answer c t e room ≡ answer c t e limit
unfolding answer grounds no_room
answer_room c t e room h = let same : min room limit ≡ limit = omega arith in rw same

-- grounds 1 to 3 of a whole table that is short enough
pub table_grounds_whole : (c : Context) (t : List ℕ) → valid_table c.linear_width t ≡ true → length t ≤ limit
    → table_grounds c t ≡ (1, not (in_range c)) ∷ (2, false) ∷ (3, false) ∷ []
unfolding table_grounds
table_grounds_whole c t w short = rw (w, le-ltb limit (length t) short)

-- a shorter table has no room in fewer cases
pub no_room_shorter : (room : ℕ) (t t' e : List ℕ) → length t' ≤ length t → no_room room t e ≡ false → no_room room t' e ≡ false
unfolding no_room
no_room_shorter room t t' e less h =
    le-ltb (min room limit) (length t' + length (created e))
    (omega (arith, ltb-false (min room limit) (length t + length (created e)) h))

-- of two whole tables the shorter has the same answer, where room does not give it
pub answer_shorter : (c : Context) (t t' e : List ℕ) (room : ℕ) → valid_table c.linear_width t ≡ true → valid_table c.linear_width t' ≡ true → length t ≤ limit
    → length t' ≤ length t
    → (answer c t e room ≡ 12 → ⊥)
    → answer c t' e room ≡ answer c t e room
unfolding answer grounds
answer_shorter c t t' e room w w' short less h =
    let same : table_grounds c t' ≡ table_grounds c t =
    table_grounds_whole c t' w' (omega arith) ∙ sym (table_grounds_whole c t w short) in
    rw same
    (first_last (table_grounds c t ++ ((4, not (valid_here c e)) ∷ []) ++ event_grounds c (event e)) 12 (no_room room t e)
    (no_room room t' e) (no_room_shorter room t t' e less) h)

-- 12 is given only where there is no room
pub answer_no_room : (c : Context) (t e : List ℕ) (room : ℕ) → answer c t e room ≡ 12 → no_room room t e ≡ true
unfolding answer grounds table_grounds event_grounds
answer_no_room c t e room h =
    first_last_applies (table_grounds c t ++ ((4, not (valid_here c e)) ∷ []) ++ event_grounds c (event e)) 11 (no_room room t e) refl h

-- a number is not given where no ground of it applies
abbrev absent : ℕ → List (ℕ × Bool) → Bool
absent n [] = true
absent n (g ∷ gs) = not (eqb n g.0 && g.1) && absent n gs

first_absent : (gs : List (ℕ × Bool)) (n : ℕ) → absent (suc n) gs ≡ true → first gs ≡ suc n → ⊥
unfolding first
first_absent [] n h e = omega arith
first_absent (g ∷ gs) n h e =
    let parts = (and-eq-true_iff (not (eqb (suc n) g.0 && g.1)) (absent (suc n) gs)).0 h in
    go g.1 e parts.0 (λ k. first_absent gs n parts.1 k)
  where
    go : (b : Bool) → cond b g.0 (first gs) ≡ suc n → not (eqb (suc n) g.0 && b) ≡ true → (first gs ≡ suc n → ⊥) → ⊥
    go true k off ih = false≢true (rw (eq-eqb (suc n) g.0 (sym k)) at off)
    go false k off ih = ih k

-- a whole table that is short enough is not answered 2 or 3, and in a context in its ranges not 1
module _ (c : Context) (t e : List ℕ) (room : ℕ) (w : valid_table c.linear_width t ≡ true) (short : length t ≤ limit) where
  pub answer_not_2 : answer c t e room ≡ 2 → ⊥
  unfolding answer grounds event_grounds
  answer_not_2 = first_absent (grounds c t e room) 1 (rw (table_grounds_whole c t w short))

  pub answer_not_3 : answer c t e room ≡ 3 → ⊥
  unfolding answer grounds event_grounds
  answer_not_3 = first_absent (grounds c t e room) 2 (rw (table_grounds_whole c t w short))

  pub answer_not_1 : in_range c ≡ true → answer c t e room ≡ 1 → ⊥
  unfolding answer grounds event_grounds
  answer_not_1 fits = first_absent (grounds c t e room) 0 (rw (table_grounds_whole c t w short, fits))

-- the answer of grounds end to end: that of the first part, or of the second where it gives none
-- grounds that give the same number do so behind others
pub first_append : (gs hs ks : List (ℕ × Bool)) → first hs ≡ first ks → first (gs ++ hs) ≡ first (gs ++ ks)
unfolding first
first_append [] hs ks same = same
first_append (g ∷ gs) hs ks same = rw (first_append gs hs ks same)

pub first_append_some : (gs hs : List (ℕ × Bool)) → (first gs ≡ 0 → ⊥) → first (gs ++ hs) ≡ first gs
unfolding first
first_append_some [] hs h = absurd (h refl)
first_append_some (g ∷ gs) hs h = go g.1 h (λ k. first_append_some gs hs k)
  where
    go : (b : Bool) → (cond b g.0 (first gs) ≡ 0 → ⊥) → ((first gs ≡ 0 → ⊥) → first (gs ++ hs) ≡ first gs)
        → cond b g.0 (first (gs ++ hs)) ≡ cond b g.0 (first gs)
    go true k ih = refl
    go false k ih = ih k

pub first_append_none : (gs hs : List (ℕ × Bool)) → numbered gs ≡ true → first gs ≡ 0 → first (gs ++ hs) ≡ first hs
unfolding first
first_append_none [] hs h e = refl
first_append_none (g ∷ gs) hs h e =
    let parts = (and-eq-true_iff (ltb 0 g.0) (numbered gs)).0 h in
    go g.1 e (ltb-true 0 g.0 parts.0) (λ k. first_append_none gs hs parts.1 k)
  where
    go : (b : Bool) → cond b g.0 (first gs) ≡ 0 → 0 < g.0 → (first gs ≡ 0 → first (gs ++ hs) ≡ first hs)
        → cond b g.0 (first (gs ++ hs)) ≡ first hs
    go true k p ih = absurd (omega arith)
    go false k p ih = ih k

-- the answer, stage by stage: the table's, 4, the event's, 12
module _ (c : Context) (t e : List ℕ) (room : ℕ) where
  pub answer_of_table : (first (table_grounds c t) ≡ 0 → ⊥) → answer c t e room ≡ first (table_grounds c t)
  unfolding answer grounds
  answer_of_table h =
      simp append_assoc (first_append_some (table_grounds c t) (((4, not (valid_here c e)) ∷ []) ++ (event_grounds c (event e) ++ ((12, no_room room t e) ∷ []))) h)

  module _ (h : first (table_grounds c t) ≡ 0) where
    past_table : answer c t e room ≡ first ((4, not (valid_here c e)) ∷ (event_grounds c (event e) ++ ((12, no_room room t e) ∷ [])))
    unfolding answer grounds table_grounds
    past_table =
        first_append_none (table_grounds c t) ((4, not (valid_here c e)) ∷ (event_grounds c (event e) ++ ((12, no_room room t e) ∷ []))) refl h

    pub answer_of_invalid : valid_here c e ≡ false → answer c t e room ≡ 4
    unfolding first
    answer_of_invalid v = past_table ∙ rw v

    module _ (v : valid_here c e ≡ true) where
      past_valid : answer c t e room ≡ first (event_grounds c (event e) ++ ((12, no_room room t e) ∷ []))
      unfolding first
      past_valid = past_table ∙ rw v

      pub answer_of_event : (event_answer c (event e) ≡ 0 → ⊥) → answer c t e room ≡ event_answer c (event e)
      unfolding event_answer
      answer_of_event k = past_valid ∙ first_append_some (event_grounds c (event e)) ((12, no_room room t e) ∷ []) k

      pub answer_of_room : event_answer c (event e) ≡ 0 → answer c t e room ≡ cond (no_room room t e) 12 0
      unfolding event_answer first event_grounds
      answer_of_room k =
          past_valid ∙ first_append_none (event_grounds c (event e)) ((12, no_room room t e) ∷ []) refl k

-- an event's own ground is none, or one of five numbers
own_ground_cases : (P : ℕ → Type 0) → P 0 → P 7 → P 8 → P 9 → P 10 → P 11 → (c : Context) (e : Event) → P (own_ground c e)
unfolding own_ground
own_ground_cases P p0 p7 p8 p9 p10 p11 c = of_event
  where
    given : (b : Bool) {n : ℕ} → P n → P (cond b n 0)
    given true p = p
    given false p = p0

    of_event : (e : Event) → P (own_ground c e)
    of_event (Creation m) = given (not (creatable c m)) p11
    of_event (Invvpid o) = given (bad_invvpid c o) p8
    of_event (Invept o) = given (bad_invept c o) p8
    of_event (Invlpg address) = p0
    of_event (EptViolation v) = given (not (ept_in_use (current_ept c.place))) p9
    of_event (Entry n) = given (bad_entry c n) p10
    of_event (Exit pcid) = given (not (in_guest c.place)) p9
    of_event Vmxon = given (in_root c.place) p9
    of_event Vmxoff = p0
    of_event (NewPcid n) = p0
    of_event Reset = p0
    of_event (Invpcid o) = given (bad_invpcid c o) p7
    of_event (MovToCr3 pcid) = p0

-- the answer of an event behind 5, 6 and 7 is its own ground
pub event_answer_own : (c : Context) (e : Event)
    → event_answer c e ≡ cond (invalid_opcode c e) 5 (cond (exits c e) 6 (cond (general_protection c e) 7 (own_ground c e)))
unfolding event_answer event_grounds first
event_answer_own c e =
    let own = own_ground_cases (λ n. first ((7, eqb n 7) ∷ (8, eqb n 8) ∷ (9, eqb n 9) ∷ (10, eqb n 10) ∷ (11, eqb n 11) ∷ []) ≡ n) refl refl refl refl refl refl c e in
    ap (λ (n : ℕ). cond (invalid_opcode c e) 5 (cond (exits c e) 6 (cond (general_protection c e) 7 n))) own

-- an event that is answered 0 has no ground of its own
pub own_ground_zero : (c : Context) (e : Event) → event_answer c e ≡ 0 → own_ground c e ≡ 0
own_ground_zero c e h = go (invalid_opcode c e) (exits c e) (general_protection c e) (sym (event_answer_own c e) ∙ h)
  where
    go : (five six seven : Bool) → cond five 5 (cond six 6 (cond seven 7 (own_ground c e))) ≡ 0 → own_ground c e ≡ 0
    go true six seven k = absurd (omega arith)
    go false true seven k = absurd (omega arith)
    go false false true k = absurd (omega arith)
    go false false false k = k

-- An event is accepted only where its own ground does not apply.
pub accepted_own_ground : (c : Context) (t e : List ℕ) (room : ℕ) → answer c t e room ≡ 0 → own_ground c (event e) ≡ 0
unfolding first
accepted_own_ground c t e room h =
    own_ground_zero c (event e) (go (eqb (event_answer c (event e)) 0) refl)
  where
    parts : Accepted c t e room
    parts = accepted_parts c t e room h

    passes : first (table_grounds c t) ≡ 0
    passes = rw (table_grounds_whole c t parts.table (omega (arith, parts.short)), parts.context)

    go : (b : Bool) → eqb (event_answer c (event e)) 0 ≡ b → event_answer c (event e) ≡ 0
    go true is = eqb-true (event_answer c (event e)) 0 is
    go false is = sym (answer_of_event c t e room passes parts.valid (eqb-false (event_answer c (event e)) 0 is)) ∙ h

-- a context out of its ranges is answered 1
pub table_grounds_out_of_range : (c : Context) (t : List ℕ) → in_range c ≡ false → first (table_grounds c t) ≡ 1
unfolding table_grounds first
table_grounds_out_of_range c t out = rw out

-- in a context in its ranges the table alone decides
pub table_grounds_in_range : (c : Context) (t : List ℕ) → in_range c ≡ true → first (table_grounds c t) ≡ first (stored_grounds c.linear_width t)
unfolding table_grounds first
table_grounds_in_range c t fits = rw fits

-- a table that passes is valid
pub stored_valid : (w : ℕ) (t : List ℕ) → first (stored_grounds w t) ≡ 0 → (length t ≤ limit) × (valid_table w t ≡ true)
stored_valid w t h =
    let all = first_zero (stored_grounds w t) refl h in
    (ltb-false limit (length t) (every_head all), not-false (valid_table w t) (every_head (every_tail all)))

pub stored_passes : (w : ℕ) (t : List ℕ) → valid_table w t ≡ true → length t ≤ limit → first (stored_grounds w t) ≡ 0
unfolding first
stored_passes w t valid short = rw (le-ltb limit (length t) short, valid)
