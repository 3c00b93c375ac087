-- Reasons: "in scope" is said exactly of the mappings in scope, and of the records that a step drops; and the
-- stages of a refusal.
use Rattle.std.specs.Prelude.{ℕ, min, ◌+◌, ◌≤◌, Bool, ◌&&◌, List, [], ◌∷◌}
use Rattle.std.proofs.Math.Bool.{true, false, cond, not, and-eq-true_iff}
use Rattle.std.proofs.lemmas.Bool.{false≢true}
use Rattle.std.proofs.Math.Path.{◌≡◌, refl, ap}
use Rattle.std.proofs.Common.{sym, ◌∙◌}
use native.Mathlib.Omega.{arith}
use borrow.Author.Tests.{eqb-true, eqb-false, eq-eqb, ne_eqb, le-ltb}
use Rattle.std.proofs.Math.Dec.{eqb}
use Rattle.std.proofs.Math.ListN.{length}
use Rattle.model.specs.declared.Context.{Context}
use Rattle.model.specs.declared.Event.{Event}
use Rattle.model.specs.declared.Mapping.{Mapping}
use Rattle.model.specs.declared.Reason.{Reason}
use Rattle.model.specs.declared.Reason.TheVariants.{NoScope, NotCanonical, WrongKind, WrongVpid, WrongPcid, WrongEp4ta, NotCovering, SparedAsGlobal, InScope}
use Rattle.model.specs.Context.{in_range}
use Rattle.model.specs.Layouts.{kind_of, mapping_kind, length_of}
use Rattle.model.specs.Mappings.{mapping, other_width, starts_record}
use Rattle.model.specs.Tables.{limit, joined, records}
use Rattle.model.specs.Events.{event, valid_event}
use Rattle.model.specs.Scopes.{Tests, passed, asked, has_scope, scope}
use Rattle.model.specs.Answers.{first, created, no_room, valid_table, stored_grounds, table_grounds, event_answer, rule_with, answer}
use Rattle.model.specs.Steps.{dropped_count, accepted_step, refused_step, stepped}
use Rattle.model.specs.Reasons.{unless, first_failed, drops, reason, one_record, explained_answer, Refused, Accepted, explanation}
use Rattle.laws.specs.Lists.{Every, every_one, every_head}
use Rattle.laws.specs.Layouts.{length_of_mapping_le}
use Rattle.laws.specs.Mappings.{Valid, valid_made, valid_starts, starts_parts, record_length_starts}
use Rattle.laws.specs.Tables.{joined_one, whole_joined, records_valid, whole_one, records_one, count_one}
use Rattle.laws.specs.Events.{valid_event_parts}
use Rattle.laws.specs.Scopes.{scope_passed}
use Rattle.laws.specs.Answers.{OfWidth, valid_table_parts, valid_table_made, stored_valid, stored_passes, table_grounds_whole, table_grounds_out_of_range, answer_not_2, answer_no_room, answer_of_table, answer_of_invalid, answer_of_event, answer_of_room}
use Rattle.laws.specs.Steps.{stepped_accepted, stepped_refused}

-- the reason drops a mapping that passes every test
pub drops_first_failed : (t : Tests) → drops (first_failed t) ≡ passed t
unfolding first_failed
drops_first_failed t = go t.kind t.vpid t.pcid t.ep4ta t.page t.global
  where
    go : (kind vpid pcid ep4ta page global : Bool)
        → drops (unless kind WrongKind (unless vpid WrongVpid (unless pcid WrongPcid (unless ep4ta WrongEp4ta (unless page NotCovering (unless global SparedAsGlobal InScope))))))
        ≡ (kind && vpid && pcid && ep4ta && page && global)
    go false vpid pcid ep4ta page global = refl
    go true false pcid ep4ta page global = refl
    go true true false ep4ta page global = refl
    go true true true false page global = refl
    go true true true true false global = refl
    go true true true true true false = refl
    go true true true true true true = refl

-- and a mapping in scope
pub drops_reason : (c : Context) (e : Event) (m : Mapping) → drops (reason c e m) ≡ scope c e m
unfolding reason scope has_scope
drops_reason c e m = go (asked c e).scoped (asked c e).addressed
  where
    go : (scoped addressed : Bool)
        → drops (unless scoped NoScope (unless addressed NotCanonical (first_failed ((asked c e).tests m))))
        ≡ (scoped && addressed && passed ((asked c e).tests m))
    go false addressed = refl
    go true false = refl
    go true true = drops_first_failed ((asked c e).tests m)

-- of an event that has a scope the tests alone decide
pub scope_drops : (c : Context) (e : Event) → has_scope c e ≡ true → (m : Mapping) (r : Reason) → r ≡ first_failed ((asked c e).tests m) → drops r ≡ scope c e m
scope_drops c e some m r is = ap drops is ∙ drops_first_failed ((asked c e).tests m) ∙ sym (scope_passed c e some m)

drops_in_scope : (r : Reason) → drops r ≡ true → r ≡ InScope
drops_in_scope NoScope h = absurd (false≢true h)
drops_in_scope NotCanonical h = absurd (false≢true h)
drops_in_scope WrongKind h = absurd (false≢true h)
drops_in_scope WrongVpid h = absurd (false≢true h)
drops_in_scope WrongPcid h = absurd (false≢true h)
drops_in_scope WrongEp4ta h = absurd (false≢true h)
drops_in_scope NotCovering h = absurd (false≢true h)
drops_in_scope SparedAsGlobal h = absurd (false≢true h)
drops_in_scope InScope h = refl

-- exactly one valid record, by its parts
one_record_of : (w : ℕ) (r : List ℕ) → Valid r → OfWidth w r → one_record w r ≡ true
unfolding one_record
one_record_of w r v own =
    let starts = valid_starts r v in
    let exact : length r ≡ length_of (kind_of r) = sym v.exact ∙ record_length_starts r starts in
    rw (starts, eq-eqb (length r) (length_of (kind_of r)) exact, own)

-- what it is that bytes are exactly one valid record, and how long they are at most
pub record OneRecord (w : ℕ) (r : List ℕ) : Type 0 where
  pub valid : Valid r
  pub width : OfWidth w r
  pub short : length r ≤ 23

pub one_record_parts : (w : ℕ) (r : List ℕ) → one_record w r ≡ true → OneRecord w r
unfolding one_record
one_record_parts w r one =
    let two = (and-eq-true_iff (starts_record r && eqb (length r) (length_of (kind_of r))) (not (other_width w (kind_of r)))).0 one in
    let both = (and-eq-true_iff (starts_record r) (eqb (length r) (length_of (kind_of r)))).0 two.0 in
    let exact = eqb-true (length r) (length_of (kind_of r)) both.1 in
    record {
      valid = valid_made r both.0 exact;
      width = two.1;
      short = omega (arith, exact, length_of_mapping_le (kind_of r) (starts_parts r both.0).held.known);
    }

-- a table of it alone is valid
valid_table_one : (w : ℕ) (r : List ℕ) → one_record w r ≡ true → valid_table w r ≡ true
valid_table_one w r one =
    let parts = one_record_parts w r one in
    valid_table_made w r (whole_one r parts.valid) (rw (records_one r parts.valid) (every_one parts.width))

-- bytes that are a valid table of one record are exactly one valid record
one_record_made : (w : ℕ) (r : List ℕ) → valid_table w r ≡ true → length (records r) ≡ 1 → one_record w r ≡ true
one_record_made w r valid one = go (records r) refl (records_valid r) (valid_table_parts w r valid).1 one
  where
    go : (rs : List (List ℕ)) → records r ≡ rs → Every Valid rs → Every (OfWidth w) rs → length rs ≡ 1 → one_record w r ≡ true
    go [] is v o n = absurd (omega arith)
    go (x ∷ y ∷ rs) is v o n = absurd (omega arith)
    go (x ∷ []) is v o n =
        let same : x ≡ r = sym (joined_one x) ∙ sym (ap joined is) ∙ whole_joined r (valid_table_parts w r valid).0 in
        rw same at (one_record_of w x (every_head v) (every_head o))

-- so the count of a table's records tells, where the table is valid
pub one_record_judged : (w : ℕ) (r : List ℕ) (answer count : ℕ) → answer ≡ first (stored_grounds w r) → (answer ≡ 0 → count ≡ length (records r))
    → (eqb answer 0 && eqb count 1) ≡ one_record w r
one_record_judged w r answer count is counted = go (one_record w r) (eqb answer 0 && eqb count 1) refl refl
  where
    go : (b d : Bool) → one_record w r ≡ b → (eqb answer 0 && eqb count 1) ≡ d → d ≡ b
    go true true p q = refl
    go false false p q = refl
    go true false p q =
        let parts = one_record_parts w r p in
        let passes : answer ≡ 0 = is ∙ stored_passes w r (valid_table_one w r p) (omega (arith, parts.short)) in
        let one : count ≡ 1 = counted passes ∙ ap length (records_one r parts.valid) in
        absurd (false≢true (sym q ∙ rw (passes, one)))
    go false true p q =
        let both = (and-eq-true_iff (eqb answer 0) (eqb count 1)).0 q in
        let passes = eqb-true answer 0 both.0 in
        let valid = (stored_valid w r (sym is ∙ passes)).1 in
        absurd (false≢true (sym p ∙ one_record_made w r valid (sym (counted passes) ∙ eqb-true count 1 both.1)))

length_created_valid : (w : ℕ) (e : List ℕ) → valid_event w e ≡ true → length (created e) ≤ 23
unfolding created
length_created_valid w e v = go (mapping_kind (kind_of e)) refl
  where
    go : (b : Bool) → mapping_kind (kind_of e) ≡ b → length (cond b e []) ≤ 23
    go true k = omega (arith, (valid_event_parts w e v).exact, length_of_mapping_le (kind_of e) k)
    go false k = omega arith

module _ (c : Context) (r e : List ℕ) where
  -- a refusal, and no refusal
  pub explanation_refused : (n : ℕ) → explained_answer c r e ≡ n → (n ≡ 0 → ⊥) → Refused n (rule_with c e n) ≡ explanation c r e
  unfolding explanation
  explanation_refused n is some = rw (is, ne_eqb n 0 some)

  pub explanation_accepted : explained_answer c r e ≡ 0 → Accepted (reason c (event e) (mapping r)) ≡ explanation c r e
  unfolding explanation
  explanation_accepted is = rw is

  -- 1, whatever the bytes are
  answer_out_of_range : in_range c ≡ false → answer c r e limit ≡ 1
  answer_out_of_range out =
      let given = table_grounds_out_of_range c r out in
      answer_of_table c r e limit (λ none. omega (arith, given, none)) ∙ given

  pub explained_out_of_range : in_range c ≡ false → explained_answer c r e ≡ 1
  unfolding explained_answer first
  explained_out_of_range out = go (one_record c.linear_width r)
    where
      go : (b : Bool) → cond b (answer c r e limit) (first ((1, not (in_range c)) ∷ (3, true) ∷ [])) ≡ 1
      go true = answer_out_of_range out
      go false = rw out

  -- 3, for bytes that are not exactly one valid record
  pub explained_no_record : in_range c ≡ true → one_record c.linear_width r ≡ false → explained_answer c r e ≡ 3
  unfolding explained_answer first
  explained_no_record fit none = rw (none, fit)

  -- 4 and on, of a valid record
  module _ (fit : in_range c ≡ true) (one : one_record c.linear_width r ≡ true) where
    judged : explained_answer c r e ≡ answer c r e limit
    unfolding explained_answer
    judged = rw one

    table_passes : first (table_grounds c r) ≡ 0
    unfolding first
    table_passes =
        rw (table_grounds_whole c r (valid_table_one c.linear_width r one) (omega (arith, (one_record_parts c.linear_width r one).short)), fit)

    pub explained_invalid : valid_event c.linear_width e ≡ false → explained_answer c r e ≡ 4
    explained_invalid v = judged ∙ answer_of_invalid c r e limit table_passes v

    pub explained_event : valid_event c.linear_width e ≡ true → (event_answer c (event e) ≡ 0 → ⊥) → explained_answer c r e ≡ event_answer c (event e)
    explained_event v some = judged ∙ answer_of_event c r e limit table_passes v some

    room : valid_event c.linear_width e ≡ true → no_room limit r e ≡ false
    unfolding no_room
    room v =
        le-ltb (min limit limit) (length r + length (created e)) (omega (arith, (one_record_parts c.linear_width r one).short, length_created_valid c.linear_width e v))

    answer_not_12 : answer c r e limit ≡ 12 → ⊥
    answer_not_12 h = by_valid (valid_event c.linear_width e) refl
      where
        by_valid : (b : Bool) → valid_event c.linear_width e ≡ b → ⊥
        by_valid true v = false≢true (sym (room v) ∙ answer_no_room c r e limit h)
        by_valid false v = omega (arith, answer_of_invalid c r e limit table_passes v, h)

    pub explained_accepted : valid_event c.linear_width e ≡ true → event_answer c (event e) ≡ 0 → explained_answer c r e ≡ 0
    explained_accepted v none = judged ∙ answer_of_room c r e limit table_passes v none ∙ rw (room v)

  -- 2 and 12 are never named
  pub explained_not_2 : explained_answer c r e ≡ 2 → ⊥
  unfolding explained_answer first
  explained_not_2 h = go (one_record c.linear_width r) (in_range c) refl h
    where
      go : (one fit : Bool) → one_record c.linear_width r ≡ one → cond one (answer c r e limit) (cond (not fit) 1 3) ≡ 2 → ⊥
      go true fit is k =
          answer_not_2 c r e limit (valid_table_one c.linear_width r is) (omega (arith, (one_record_parts c.linear_width r is).short)) k
      go false true is k = omega arith
      go false false is k = omega arith

  pub explained_not_12 : explained_answer c r e ≡ 12 → ⊥
  unfolding explained_answer first
  explained_not_12 h = go (one_record c.linear_width r) (in_range c) refl refl h
    where
      go : (one fit : Bool) → one_record c.linear_width r ≡ one → in_range c ≡ fit → cond one (answer c r e limit) (cond (not fit) 1 3) ≡ 12 → ⊥
      go true true is fits k = answer_not_12 fits is k
      go true false is fits k = omega (arith, answer_out_of_range fits, k)
      go false true is fits k = omega arith
      go false false is fits k = omega arith

one_of : (b : Bool) → ◌≡◌ {A = ℕ} (cond b 1 0) 1 → b ≡ true
one_of true k = refl
one_of false k = absurd (omega arith)

module _ (c : Context) (r e : List ℕ) where
  -- bytes that are explained without a refusal are exactly one valid record
  explained_one : explained_answer c r e ≡ 0 → one_record c.linear_width r ≡ true
  unfolding explained_answer first
  explained_one h = go (one_record c.linear_width r) (in_range c) refl h
    where
      go : (b fit : Bool) → one_record c.linear_width r ≡ b → cond b (answer c r e limit) (cond (not fit) 1 3) ≡ 0 → one_record c.linear_width r ≡ true
      go true fit is k = is
      go false true is k = absurd (omega arith)
      go false false is k = absurd (omega arith)

  -- an accepted step drops the record if its reason is in scope
  dropped_one : one_record c.linear_width r ≡ true → answer c r e limit ≡ 0 → (stepped c r e limit).dropped ≡ cond (drops (reason c (event e) (mapping r))) 1 0
  unfolding dropped_count accepted_step
  dropped_one one none =
      ap (λ s. s.dropped) (stepped_accepted c r e limit none)
      ∙ rw (records_one r (one_record_parts c.linear_width r one).valid, count_one, drops_reason c (event e) (mapping r))

  -- "in scope" is said of a record that the step drops
  pub in_scope_dropped : explanation c r e ≡ Accepted InScope → (one_record c.linear_width r ≡ true) × ((stepped c r e limit).dropped ≡ 1)
  unfolding explanation explained_answer
  in_scope_dropped h = go (eqb (explained_answer c r e) 0) refl h
    where
      go : (b : Bool) → eqb (explained_answer c r e) 0 ≡ b
          → cond b (Accepted (reason c (event e) (mapping r))) (Refused (explained_answer c r e) (rule_with c e (explained_answer c r e))) ≡ Accepted InScope
          → (one_record c.linear_width r ≡ true) × ((stepped c r e limit).dropped ≡ 1)
      go true zero k =
          let explained = eqb-true (explained_answer c r e) 0 zero in
          let one = explained_one explained in
          let none : answer c r e limit ≡ 0 = rw one at explained in
          let is : reason c (event e) (mapping r) ≡ InScope = cc in
          (one, dropped_one one none ∙ rw is)
      go false zero k = absurd (let off : ◌≡◌ {A = ℕ} 0 1 = cc in omega arith)

  -- and of every such record
  pub dropped_in_scope : one_record c.linear_width r ≡ true → (stepped c r e limit).dropped ≡ 1 → explanation c r e ≡ Accepted InScope
  unfolding explained_answer refused_step
  dropped_in_scope one gone = go (eqb (answer c r e limit) 0) refl
    where
      explained : answer c r e limit ≡ 0 → explained_answer c r e ≡ 0
      explained none = rw one none

      go : (b : Bool) → eqb (answer c r e limit) 0 ≡ b → explanation c r e ≡ Accepted InScope
      go true zero =
          let none = eqb-true (answer c r e limit) 0 zero in
          let found = reason c (event e) (mapping r) in
          sym (explanation_accepted c r e (explained none))
          ∙ ap Accepted (drops_in_scope found (one_of (drops found) (sym (dropped_one one none) ∙ gone)))
      go false some =
          let refused = ap (λ s. s.dropped) (stepped_refused c r e limit (eqb-false (answer c r e limit) 0 some)) in
          absurd (omega (arith, refused, gone))
