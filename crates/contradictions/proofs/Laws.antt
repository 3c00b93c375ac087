-- When an event contradicts the model.
use Rattle.std.specs.Prelude.{ℕ, ◌≤◌, ◌≡◌, Bool, not, ◌&&◌, ◌||◌}
use Rattle.std.proofs.Math.Path.{refl}
use Rattle.std.proofs.Math.Bool.{true, false, cond, and-eq-true_iff, and-false}
use mathlib.Core.List.{List, []}
use Rattle.std.proofs.Common.{arith}
use Rattle.std.proofs.Math.Dec.{eqb, leb}
use borrow.Author.Tests.{ne_eqb, eqb-true, leb-true, le-leb}
use Rattle.model.specs.declared.Context.{Context}
use Rattle.model.specs.declared.Event.{Event}
use Rattle.model.specs.declared.Event.TheVariants.{Creation, Invvpid, Invept, Invlpg, EptViolation, Entry, Exit, Vmxon, Vmxoff, NewPcid, Reset, Invpcid, MovToCr3}
use Rattle.model.specs.Context.{in_range, in_guest, in_root, current_ept}
use Rattle.model.specs.Tables.{limit}
use Rattle.model.specs.Events.{event}
use Rattle.model.specs.Answers.{first, answer, valid_here, table_grounds, event_answer, invalid_opcode, exits, general_protection, own_ground, no_room, creatable, ept_in_use, bad_invvpid, bad_invept, bad_entry, bad_invpcid}
use Rattle.laws.specs.Answers.{table_grounds_whole, answer_of_invalid, answer_of_event, answer_of_room, event_answer_own}
use Rattle.runs.proofs.Laws.Steps.{by_answer}
use Rattle.roomy_runs.specs.Books.{roomy_answer}
use Rattle.roomy_runs.proofs.Laws.Books.{empty_valid, never_for_room_holds}
use Rattle.contradictions.specs.Contradictions.{reports_deed, contradicts}
use Rattle.contradictions.specs.Statements.{Contradiction, no_event, refused, ContradictionsExact}

-- an answer that comes from the event is 5 to 11
Between : ℕ → Type 0
Between n = (n ≡ 0 → ⊥) → (5 ≤ n) × (n ≤ 11)

given : (b : Bool) (n m : ℕ) → 5 ≤ n → n ≤ 11 → Between m → Between (cond b n m)
unfolding Between
given true n m low high rest some = (low, high)
given false n m low high rest some = rest some

zero_between : Between 0
unfolding Between
zero_between some = absurd (some refl)

own_between : (c : Context) (e : Event) → Between (own_ground c e)
unfolding own_ground
own_between c (Creation m) = given (not (creatable c m)) 11 0 (omega arith) (omega arith) zero_between
own_between c (Invvpid o) = given (bad_invvpid c o) 8 0 (omega arith) (omega arith) zero_between
own_between c (Invept o) = given (bad_invept c o) 8 0 (omega arith) (omega arith) zero_between
own_between c (Invlpg address) = zero_between
own_between c (EptViolation v) = given (not (ept_in_use (current_ept c.place))) 9 0 (omega arith) (omega arith) zero_between
own_between c (Entry n) = given (bad_entry c n) 10 0 (omega arith) (omega arith) zero_between
own_between c (Exit pcid) = given (not (in_guest c.place)) 9 0 (omega arith) (omega arith) zero_between
own_between c Vmxon = given (in_root c.place) 9 0 (omega arith) (omega arith) zero_between
own_between c Vmxoff = zero_between
own_between c (NewPcid n) = zero_between
own_between c Reset = zero_between
own_between c (Invpcid o) = given (bad_invpcid c o) 7 0 (omega arith) (omega arith) zero_between
own_between c (MovToCr3 pcid) = zero_between

event_between : (c : Context) (e : Event) → Between (event_answer c e)
event_between c e =
    rw (event_answer_own c e)
    (given (invalid_opcode c e) 5 (cond (exits c e) 6 (cond (general_protection c e) 7 (own_ground c e))) (omega arith) (omega arith)
    (given (exits c e) 6 (cond (general_protection c e) 7 (own_ground c e)) (omega arith) (omega arith)
    (given (general_protection c e) 7 (own_ground c e) (omega arith) (omega arith) (own_between c e))))

module _ (c : Context) (e : List ℕ) (fits : in_range c ≡ true) where
  passes : first (table_grounds c []) ≡ 0
  unfolding first
  passes = rw (table_grounds_whole c [] (empty_valid c.linear_width) (omega arith), fits)

  invalid_4 : valid_here c e ≡ false → roomy_answer c e ≡ 4
  unfolding roomy_answer
  invalid_4 v = answer_of_invalid c [] e limit passes v

  -- a valid event is accepted, or refused with 5 to 11
  valid_between : valid_here c e ≡ true → Between (roomy_answer c e)
  unfolding roomy_answer Between
  valid_between v = by_answer (event_answer c (event e)) taken left
    where
      taken : event_answer c (event e) ≡ 0 → (answer c [] e limit ≡ 0 → ⊥) → (5 ≤ answer c [] e limit) × (answer c [] e limit ≤ 11)
      taken z some = absurd (go (no_room limit [] e) (answer_of_room c [] e limit passes v z))
        where
          go : (b : Bool) → answer c [] e limit ≡ cond b 12 0 → ⊥
          go true full = (never_for_room_holds c e).not_12 full
          go false fine = some fine

      left : (event_answer c (event e) ≡ 0 → ⊥) → (answer c [] e limit ≡ 0 → ⊥) → (5 ≤ answer c [] e limit) × (answer c [] e limit ≤ 11)
      left z some = rw (answer_of_event c [] e limit passes v z) (event_between c (event e) z)

module _ (c : Context) (e : List ℕ) where
  contradicts_4 : roomy_answer c e ≡ 4 → contradicts c e ≡ true
  unfolding contradicts
  contradicts_4 h = rw h

  contradicts_refused : reports_deed e ≡ true → 5 ≤ roomy_answer c e → roomy_answer c e ≤ 11 → contradicts c e ≡ true
  unfolding contradicts
  contradicts_refused is low high = rw (ne_eqb (roomy_answer c e) 4 (λ z. omega arith), is, le-leb 5 (roomy_answer c e) low, le-leb (roomy_answer c e) 11 high)

  exact_sound : contradicts c e ≡ true → Contradiction c e
  unfolding contradicts
  exact_sound h = go (eqb (roomy_answer c e) 4) refl h
    where
      go : (b : Bool) → eqb (roomy_answer c e) 4 ≡ b → (b || (reports_deed e && (leb 5 (roomy_answer c e) && leb (roomy_answer c e) 11))) ≡ true → Contradiction c e
      go true is k = no_event (eqb-true (roomy_answer c e) 4 is)
      go false is k =
          let parts = (and-eq-true_iff (reports_deed e) (leb 5 (roomy_answer c e) && leb (roomy_answer c e) 11)).0 k in
          let bounds = (and-eq-true_iff (leb 5 (roomy_answer c e)) (leb (roomy_answer c e) 11)).0 parts.1 in
          refused parts.0 (leb-true 5 (roomy_answer c e) bounds.0) (leb-true (roomy_answer c e) 11 bounds.1)

  exact_complete : Contradiction c e → contradicts c e ≡ true
  exact_complete (no_event h) = contradicts_4 h
  exact_complete (refused is low high) = contradicts_refused is low high

  accepted_none : roomy_answer c e ≡ 0 → contradicts c e ≡ false
  unfolding contradicts
  accepted_none h = rw (h, and-false (reports_deed e))

  module _ (fits : in_range c ≡ true) where
    of_deeds : reports_deed e ≡ true → contradicts c e ≡ not (eqb (roomy_answer c e) 0)
    unfolding Between
    of_deeds is = by_answer (roomy_answer c e) (λ z. rw (accepted_none z, z)) (λ z. rw (ne_eqb (roomy_answer c e) 0 z) (go (valid_here c e) refl z))
      where
        go : (b : Bool) → valid_here c e ≡ b → (roomy_answer c e ≡ 0 → ⊥) → contradicts c e ≡ true
        go true v z = let bounds = valid_between c e fits v z in contradicts_refused is bounds.0 bounds.1
        go false v z = contradicts_4 (invalid_4 c e fits v)

    of_attempts : reports_deed e ≡ false → contradicts c e ≡ not (valid_here c e)
    unfolding Between contradicts
    of_attempts is = go (valid_here c e) refl
      where
        not_4 : valid_here c e ≡ true → roomy_answer c e ≡ 4 → ⊥
        not_4 v h = let bounds = valid_between c e fits v (λ z. omega arith) in omega (arith, bounds.0, h)

        go : (b : Bool) → valid_here c e ≡ b → contradicts c e ≡ not b
        go true v = rw (ne_eqb (roomy_answer c e) 4 (not_4 v), is)
        go false v = contradicts_4 (invalid_4 c e fits v)

pub contradictions_exact_holds : ContradictionsExact
contradictions_exact_holds c e =
    record { sound = exact_sound c e; complete = exact_complete c e; deeds = of_deeds c e; attempts = of_attempts c e }
