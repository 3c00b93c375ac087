-- Steps: the bytes that an event adds, room for them, the records of the new table, its length, and a
-- step by its answer.
use Rattle.std.specs.Prelude.{ℕ, min, ◌+◌, ◌-◌, ◌≤◌, ◌≡◌, refl, Bool, true, false, cond, ◌||◌, List, [], ◌∷◌, ◌++◌, eqb, ltb, length}
use Rattle.std.proofs.Math.Path.{sym}
use Rattle.std.proofs.Common.{◌∙◌, arith, length-append, eqb-true, ne_eqb, ltb-true, ltb-false, lt-ltb, le-ltb}
use Rattle.std.proofs.Math.Bool.{not}
use Rattle.std.proofs.lemmas.Bool.{not-false}
use Rattle.model.specs.declared.Context.{Context}
use Rattle.model.specs.declared.Step.{Step}
use Rattle.model.specs.Buffers.{put}
use Rattle.model.specs.Layouts.{kind_of, mapping_kind}
use Rattle.model.specs.Tables.{limit, joined, records, whole, only, count}
use Rattle.model.specs.Events.{event, valid_event}
use Rattle.model.specs.Mappings.{mapping}
use Rattle.model.specs.Scopes.{has_scope, next_context}
use Rattle.model.specs.Answers.{first, created, creation, no_room, valid_table, table_grounds, answer, rule_with}
use Rattle.model.specs.Steps.{in_scope, new_records, new_table, dropped_count, accepted_step, refusal, refused_step, stepped, written}
use Rattle.laws.specs.Lists.{Every, none, more, every_head, every_tail, every_append}
use Rattle.laws.specs.Mappings.{Valid}
use Rattle.laws.specs.Tables.{count_append, count_complement, count_split, joined_append, joined_one, only_all, only_none, every_only, records_valid, records_joined, joined_whole, whole_joined, length_joined_only, length_joined_records}
use Rattle.laws.specs.Events.{creation_valid, creation_fields}
use Rattle.laws.specs.Context.{linear_width_next}
use Rattle.laws.specs.Answers.{OfWidth, first_zero, valid_table_parts, valid_table_made, Accepted, answer_room}
use Rattle.laws.specs.Scopes.{out_of_scope}

-- the bytes that an event adds: a creation's own, or none
pub created_creation : (e : List ℕ) → mapping_kind (kind_of e) ≡ true → created e ≡ e
unfolding created
created_creation e h = rw h

pub created_other : (e : List ℕ) → mapping_kind (kind_of e) ≡ false → created e ≡ []
unfolding created
created_other e h = rw h

pub length_created : (e : List ℕ) → length (created e) ≤ length e
unfolding created
length_created e = go (mapping_kind (kind_of e))
  where
    go : (b : Bool) → length (cond b e []) ≤ length e
    go true = omega arith
    go false = omega arith

-- the buffer or the limit is too short for so many bytes
pub below_either : (room n : ℕ) → (ltb room n || ltb limit n) ≡ ltb (min room limit) n
below_either room n = go (ltb room n) (ltb limit n) refl refl
  where
    go : (p q : Bool) → ltb room n ≡ p → ltb limit n ≡ q → (p || q) ≡ ltb (min room limit) n
    go true q h k = sym (lt-ltb (min room limit) n (omega (arith, ltb-true room n h)))
    go false true h k = sym (lt-ltb (min room limit) n (omega (arith, ltb-true limit n k)))
    go false false h k = sym (le-ltb (min room limit) n (omega (arith, ltb-false room n h, ltb-false limit n k)))

-- there is no room where the buffer or the limit is too short, and else there is
pub no_room_either : (room : ℕ) (t e : List ℕ)
    → (ltb room (length t + length (created e)) || ltb limit (length t + length (created e))) ≡ no_room room t e
unfolding no_room
no_room_either room t e = below_either room (length t + length (created e))

pub no_room_fits : (room : ℕ) (t e : List ℕ) → no_room room t e ≡ false → length t + length (created e) ≤ room
unfolding no_room
no_room_fits room t e h = omega (arith, ltb-false (min room limit) (length t + length (created e)) h)

-- a table to which answers 1 to 3 do not apply is whole
pub judged_whole : (c : Context) (t : List ℕ) → first (table_grounds c t) ≡ 0 → whole t ≡ true
unfolding table_grounds
judged_whole c t h =
    (valid_table_parts c.linear_width t (not-false (valid_table c.linear_width t) (every_head (every_tail (every_tail (first_zero (table_grounds c t) refl h)))))).0

-- and it is short
pub judged_short : (c : Context) (t : List ℕ) → first (table_grounds c t) ≡ 0 → length t ≤ limit
unfolding table_grounds
judged_short c t h = ltb-false limit (length t) (every_head (every_tail (first_zero (table_grounds c t) refl h)))

pub joined_creation : (e : List ℕ) → joined (creation e) ≡ created e
unfolding creation created joined
joined_creation e = go (mapping_kind (kind_of e))
  where
    go : (b : Bool) → joined (cond b (e ∷ []) []) ≡ cond b e []
    go true = joined_one e
    go false = refl

-- an event adds one record at most
pub length_creation : (e : List ℕ) → length (creation e) ≤ 1
unfolding creation
length_creation e = go (mapping_kind (kind_of e))
  where
    go : (b : Bool) → length (cond b (e ∷ []) []) ≤ 1
    go true = omega arith
    go false = omega arith

pub creation_every_valid : (w : ℕ) (e : List ℕ) → valid_event w e ≡ true → Every Valid (creation e)
unfolding creation
creation_every_valid w e v = go (mapping_kind (kind_of e)) refl
  where
    go : (b : Bool) → mapping_kind (kind_of e) ≡ b → Every Valid (cond b (e ∷ []) [])
    go true k = more (creation_valid w e v k) none
    go false k = none

pub creation_of_width : (w : ℕ) (e : List ℕ) → valid_event w e ≡ true → Every (OfWidth w) (creation e)
unfolding creation
creation_of_width w e v = go (mapping_kind (kind_of e)) refl
  where
    go : (b : Bool) → mapping_kind (kind_of e) ≡ b → Every (OfWidth w) (cond b (e ∷ []) [])
    go true k = more (creation_fields w e v k).1 none
    go false k = none

-- the records of the table after an accepted event
pub new_table_joined : (c : Context) (t e : List ℕ) → new_table c t e ≡ joined (new_records c t e)
unfolding new_table new_records
new_table_joined c t e = rw (joined_append, joined_creation)

pub new_records_valid : (w : ℕ) (c : Context) (t e : List ℕ) → valid_event w e ≡ true → Every Valid (new_records c t e)
unfolding new_records
new_records_valid w c t e v = every_append (every_only (λ r. not (in_scope c e r)) (records_valid t)) (creation_every_valid w e v)

pub records_new_table : (w : ℕ) (c : Context) (t e : List ℕ) → valid_event w e ≡ true → records (new_table c t e) ≡ new_records c t e
records_new_table w c t e v = rw new_table_joined (records_joined (new_records_valid w c t e v))

-- any count over the new table: that over the old one, less that over the records in scope, and the creation's
pub count_new_table : (w : ℕ) (c : Context) (t e : List ℕ) → valid_event w e ≡ true → (p : List ℕ → Bool)
    → count p (records (new_table c t e)) ≡ (count p (records t) - count p (only (λ r. in_scope c e r) (records t))) + count p (creation e)
unfolding new_records
count_new_table w c t e v p =
    rw (records_new_table w c t e v)
    (omega (arith, count_append p (only (λ r. not (in_scope c e r)) (records t)) (creation e), count_split p (λ r. in_scope c e r) (records t)))

-- how many records the new table has
pub length_records_new_table : (w : ℕ) (c : Context) (t e : List ℕ) → valid_event w e ≡ true
    → length (records (new_table c t e)) ≡ (length (records t) - dropped_count c t e) + length (creation e)
unfolding new_records dropped_count count
length_records_new_table w c t e v =
    rw (records_new_table w c t e v)
    (omega (arith, length-append (only (λ r. not (in_scope c e r)) (records t)) (creation e), count_complement (λ r. in_scope c e r) (records t)))

pub new_table_whole : (w : ℕ) (c : Context) (t e : List ℕ) → valid_event w e ≡ true → whole (new_table c t e) ≡ true
new_table_whole w c t e v = rw new_table_joined (joined_whole (new_records_valid w c t e v))

-- it is valid in the context after the event, whose linear width is that before it
pub new_table_valid : (c : Context) (t e : List ℕ) (room : ℕ) → Accepted c t e room → valid_table (next_context c (event e)).linear_width (new_table c t e) ≡ true
unfolding new_records
new_table_valid c t e room a =
    let w = c.linear_width in
    let before = (valid_table_parts w t a.table).1 in
    let after : Every (OfWidth w) (new_records c t e) = every_append (every_only (λ r. not (in_scope c e r)) before) (creation_of_width w e a.valid) in
    valid_table_made (next_context c (event e)).linear_width (new_table c t e) (new_table_whole w c t e a.valid)
    (rw (linear_width_next, records_new_table w c t e a.valid) after)

pub length_new_table : (c : Context) (t e : List ℕ) → length (new_table c t e) ≤ length t + length (created e)
unfolding new_table
length_new_table c t e =
    rw length-append
    (omega (arith, length_joined_only (λ r. not (in_scope c e r)) (records t), length_joined_records t))

-- an event without a scope drops nothing
module _ (c : Context) (t e : List ℕ) (none : has_scope c (event e) ≡ false) where
  kept : (r : List ℕ) → not (in_scope c e r) ≡ true
  kept r = rw (out_of_scope c (event e) none (mapping r))

  pub new_table_unscoped : whole t ≡ true → new_table c t e ≡ t ++ created e
  unfolding new_table
  new_table_unscoped is = rw (only_all (λ r. not (in_scope c e r)) (records t) kept, whole_joined t is)

  pub dropped_count_unscoped : dropped_count c t e ≡ 0
  unfolding dropped_count count
  dropped_count_unscoped = rw (only_none (λ r. in_scope c e r) (records t) (λ r. out_of_scope c (event e) none (mapping r)))

-- a step, by its answer
pub stepped_accepted : (c : Context) (t e : List ℕ) (room : ℕ) → answer c t e room ≡ 0 → stepped c t e room ≡ accepted_step c t e
unfolding stepped
stepped_accepted c t e room h = rw h

pub stepped_refused : (c : Context) (t e : List ℕ) (room : ℕ) → (answer c t e room ≡ 0 → ⊥)
    → stepped c t e room ≡ refused_step (answer c t e room) c e
unfolding stepped
stepped_refused c t e room h = rw (ne_eqb (answer c t e room) 0 h)

pub stepped_answer : (c : Context) (t e : List ℕ) (room : ℕ) → (stepped c t e room).answer ≡ answer c t e room
unfolding stepped accepted_step refused_step
stepped_answer c t e room = go (eqb (answer c t e room) 0) refl
  where
    go : (b : Bool) → eqb (answer c t e room) 0 ≡ b → (stepped c t e room).answer ≡ answer c t e room
    go true q = rw q (sym (eqb-true (answer c t e room) 0 q))
    go false q = rw q

-- room of the limit or more is all one
pub stepped_room : (c : Context) (t e : List ℕ) (room : ℕ) → limit ≤ room → stepped c t e room ≡ stepped c t e limit
unfolding stepped
stepped_room c t e room h = rw (answer_room c t e room h)

-- what an accepted step hands back, field by field
pub accepted_step_is : (c : Context) (t e : List ℕ) {r : Step} → r.answer ≡ 0 → r.rule ≡ 0 → r.context ≡ next_context c (event e)
    → r.length ≡ length (new_table c t e) → r.dropped ≡ dropped_count c t e → r ≡ accepted_step c t e
unfolding accepted_step
accepted_step_is c t e answer rule context length dropped =
    λ i. record { answer = answer i; rule = rule i; context = context i; length = length i; dropped = dropped i }

-- a step and the buffer after it, by its answer
module _ (c : Context) (t e b : List ℕ) where
  pub step_accepted : answer c t e (length b) ≡ 0 → {r : Step} {after : List ℕ} → r ≡ accepted_step c t e → after ≡ put 0 (new_table c t e) b
      → (r ≡ stepped c t e (length b)) × (after ≡ written c t e b)
  unfolding written
  step_accepted h told made = (told ∙ sym (stepped_accepted c t e (length b) h), made ∙ rw h)

  pub step_refused : {n k : ℕ} → answer c t e (length b) ≡ n → (n ≡ 0 → ⊥) → k ≡ rule_with c e n → {r : Step} → r ≡ refusal n k c
      → (r ≡ stepped c t e (length b)) × (b ≡ written c t e b)
  unfolding written refused_step
  step_refused is some rule told =
      let refused : answer c t e (length b) ≡ 0 → ⊥ = λ z. some (sym is ∙ z) in
      (told ∙ rw (stepped_refused c t e (length b) refused, is, rule), rw (ne_eqb (answer c t e (length b)) 0 refused))
