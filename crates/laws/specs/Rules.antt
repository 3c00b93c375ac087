-- Document 02, Ask 6: the rule is 0 exactly if the EPTP is good by document 01, and an event without a ground of its
-- own breaks none.
use Rattle.std.specs.Prelude.{ℕ, ◌<◌, Bool, true, false, cond, not, ◌&&◌, ◌||◌, List, [], ◌∷◌, ◌≡◌, refl, eqb, ltb, length}
use Rattle.std.proofs.Common.{arith, sym, eqb-true, ne_eqb}
use Rattle.model.specs.declared.Context.{Context}
use Rattle.model.specs.declared.Event.{Event}
use Rattle.model.specs.declared.Event.TheVariants.{Creation, Invvpid, Invept, Invlpg, EptViolation, Entry, Exit, Vmxon, Vmxoff, NewPcid, Reset, Invpcid, MovToCr3}
use Rattle.model.specs.Context.{in_range}
use Rattle.model.specs.Tables.{limit}
use Rattle.model.specs.Answers.{first, good_memory_type, good_walk_length, good_dirty_flag, good_bits_11_7, good_width, good_eptp, eptp_rule, invept_supported, bad_invept, bad_entry, own_ground, own_rule, among, rule_with, valid_table, table_grounds}

pub eptp_rule_good : (c : Context) (eptp : ℕ) → eqb (eptp_rule c eptp) 0 ≡ good_eptp c eptp
unfolding eptp_rule good_eptp first
eptp_rule_good c eptp =
    go (good_memory_type c eptp) (good_walk_length c eptp) (good_dirty_flag c eptp) (good_bits_11_7 eptp) (good_width c eptp)
  where
    go : (memory walk dirty low width : Bool)
        → eqb (first ((1, not memory) ∷ (2, not walk) ∷ (3, not dirty) ∷ (4, not low) ∷ (5, not width) ∷ [])) 0
        ≡ (memory && walk && dirty && low && width)
    go false walk dirty low width = refl
    go true false dirty low width = refl
    go true true false low width = refl
    go true true true false width = refl
    go true true true true false = refl
    go true true true true true = refl

-- the rule of an EPTP that is not asked for, or good
module _ (rule : ℕ) (good : Bool) (is : eqb rule 0 ≡ good) where
  asked : (n : ℕ) → (n ≡ 0 → ⊥) → cond (not good) n 0 ≡ 0 → rule ≡ 0
  asked n some = go good is
    where
      go : (g : Bool) → eqb rule 0 ≡ g → cond (not g) n 0 ≡ 0 → rule ≡ 0
      go true z h = eqb-true rule 0 z
      go false z h = absurd (some h)

  of_invept : (supported zero one : Bool) → ◌≡◌ {A = ℕ} (cond (not supported || not zero || (one && not good)) 8 0) 0
      → cond (supported && zero && one) rule 0 ≡ 0
  of_invept false zero one h = refl
  of_invept true false one h = refl
  of_invept true true false h = refl
  of_invept true true true h = asked 8 (λ z. omega arith) h

  of_entry : (vpid ept : Bool) → ◌≡◌ {A = ℕ} (cond (vpid || (ept && not good)) 10 0) 0 → cond (not vpid && ept) rule 0 ≡ 0
  of_entry true ept h = refl
  of_entry false false h = refl
  of_entry false true h = asked 10 (λ z. omega arith) h

pub own_rule_none : (c : Context) (e : Event) → own_ground c e ≡ 0 → own_rule c e ≡ 0
unfolding own_ground own_rule bad_invept bad_entry
own_rule_none c (Creation m) h = refl
own_rule_none c (Invvpid o) h = refl
own_rule_none c (Invept o) h =
    of_invept (eptp_rule c o.low) (good_eptp c o.low) (eptp_rule_good c o.low) (invept_supported c.capability o.type_number) (eqb o.high 0) (eqb o.type_number 1) h
own_rule_none c (Invlpg address) h = refl
own_rule_none c (EptViolation v) h = refl
own_rule_none c (Entry n) h =
    of_entry (eptp_rule c n.eptp) (good_eptp c n.eptp) (eptp_rule_good c n.eptp) (eqb n.vpids 1 && eqb n.vpid 0) (eqb n.ept 1) h
own_rule_none c (Exit pcid) h = refl
own_rule_none c Vmxon h = refl
own_rule_none c Vmxoff h = refl
own_rule_none c (NewPcid n) h = refl
own_rule_none c Reset h = refl
own_rule_none c (Invpcid o) h = refl
own_rule_none c (MovToCr3 pcid) h = refl

-- an event's rule goes with its own ground, 8 or 10; where that is 0, the rule is 0
module _ (c : Context) (e : Event) where
  among_none : (b : Bool) → ◌≡◌ {A = ℕ} (cond b 0 0) 0
  among_none true = refl
  among_none false = refl

  among_ground : (n : ℕ) (bad : Bool) → among n (8 ∷ 10 ∷ []) ≡ true → own_ground c e ≡ cond bad n 0
      → cond (among (own_ground c e) (8 ∷ 10 ∷ [])) (own_rule c e) 0 ≡ own_rule c e
  among_ground n true is own = rw (own, is)
  among_ground n false is own = rw own (sym (own_rule_none c e own))

pub own_rule_among : (c : Context) (e : Event) → cond (among (own_ground c e) (8 ∷ 10 ∷ [])) (own_rule c e) 0 ≡ own_rule c e
unfolding own_ground own_rule
own_rule_among c (Creation m) = among_none c (Creation m) _
own_rule_among c (Invvpid o) = among_none c (Invvpid o) _
own_rule_among c (Invept o) = among_ground c (Invept o) 8 (bad_invept c o) refl refl
own_rule_among c (Invlpg address) = refl
own_rule_among c (EptViolation v) = among_none c (EptViolation v) _
own_rule_among c (Entry n) = among_ground c (Entry n) 10 (bad_entry c n) refl refl
own_rule_among c (Exit pcid) = among_none c (Exit pcid) _
own_rule_among c Vmxon = among_none c Vmxon _
own_rule_among c Vmxoff = refl
own_rule_among c (NewPcid n) = refl
own_rule_among c Reset = refl
own_rule_among c (Invpcid o) = among_none c (Invpcid o) _
own_rule_among c (MovToCr3 pcid) = refl

-- no rule goes with a number below 8, such as those of a context or a table
pub rule_below_8 : (c : Context) (e : List ℕ) (n : ℕ) → n < 8 → 0 ≡ rule_with c e n
unfolding rule_with
rule_below_8 c e n below = rw (ne_eqb n 8 (λ z. omega arith), ne_eqb n 10 (λ z. omega arith))

pub table_answer_below_8 : (c : Context) (t : List ℕ) → first (table_grounds c t) < 8
unfolding first table_grounds
table_answer_below_8 c t = go (not (in_range c)) (ltb limit (length t)) (not (valid_table c.linear_width t))
  where
    go : (one two three : Bool) → cond one 1 (cond two 2 (cond three 3 0)) < 8
    go true two three = omega arith
    go false true three = omega arith
    go false false true = omega arith
    go false false false = omega arith
