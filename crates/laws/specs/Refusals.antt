-- Refusals by their numbers: no refusal is answer 0, and one that carries no rule has rule 0.
use Rattle.std.specs.Prelude.{ℕ, Option, Some, None, Result, Ok, Err, ◌<◌, ◌≡◌, refl}
use Rattle.std.proofs.Common.{arith}
use Rattle.model.specs.declared.EptpRule.{EptpRule}
use Rattle.model.specs.declared.EptpRule.TheVariants.{MemoryType, WalkLength, DirtyFlag, ReservedBits, BeyondWidth}
use Rattle.model.specs.declared.Refusal.{Refusal}
use Rattle.model.specs.declared.Refusal.TheVariants.{ContextOutOfRange, TableTooLong, TableNotValid, EventNotValid, UndefinedOpcode, VmExit, GeneralProtection, InvalidOperand, NoPlace, EntryFailure, NotCreatable, NoRoom, WrongTally}
use Rattle.model.specs.Refusals.{rule_number, refusal_number, refusal_rule, answer_of}

-- a rule is 0 exactly where none is broken
pub rule_number_some : (r : EptpRule) → rule_number (Some r) ≡ 0 → ⊥
rule_number_some MemoryType h = omega arith
rule_number_some WalkLength h = omega arith
rule_number_some DirtyFlag h = omega arith
rule_number_some ReservedBits h = omega arith
rule_number_some BeyondWidth h = omega arith

-- no refusal is answer 0
pub refusal_number_some : (r : Refusal) → refusal_number r ≡ 0 → ⊥
refusal_number_some ContextOutOfRange h = omega arith
refusal_number_some TableTooLong h = omega arith
refusal_number_some TableNotValid h = omega arith
refusal_number_some EventNotValid h = omega arith
refusal_number_some UndefinedOpcode h = omega arith
refusal_number_some VmExit h = omega arith
refusal_number_some GeneralProtection h = omega arith
refusal_number_some (InvalidOperand rule) h = omega arith
refusal_number_some NoPlace h = omega arith
refusal_number_some (EntryFailure rule) h = omega arith
refusal_number_some NotCreatable h = omega arith
refusal_number_some NoRoom h = omega arith
refusal_number_some WrongTally h = omega arith

-- a refusal below 8 carries no rule
pub refusal_rule_below_8 : (r : Refusal) → refusal_number r < 8 → refusal_rule r ≡ 0
refusal_rule_below_8 ContextOutOfRange h = refl
refusal_rule_below_8 TableTooLong h = refl
refusal_rule_below_8 TableNotValid h = refl
refusal_rule_below_8 EventNotValid h = refl
refusal_rule_below_8 UndefinedOpcode h = refl
refusal_rule_below_8 VmExit h = refl
refusal_rule_below_8 GeneralProtection h = refl
refusal_rule_below_8 (InvalidOperand rule) h = absurd (let z : ⊥ = omega (arith, h) in z)
refusal_rule_below_8 NoPlace h = refl
refusal_rule_below_8 (EntryFailure rule) h = absurd (let z : ⊥ = omega (arith, h) in z)
refusal_rule_below_8 NotCreatable h = refl
refusal_rule_below_8 NoRoom h = refl
refusal_rule_below_8 WrongTally h = refl

-- a result with answer 0 is no refusal
pub answer_of_err : {A : Type 0} (r : Result A Refusal) (e : Refusal) → r ≡ Err e → answer_of r ≡ 0 → ⊥
answer_of_err r e is h = refusal_number_some e (rw is at h)
