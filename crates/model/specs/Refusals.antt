-- The paper's numbers of the enum `Refusal`, and of the rules of an EPTP.
use Rattle.std.specs.Prelude.{ℕ, Option, Some, None, Result, Ok, Err}
use Rattle.model.specs.declared.EptpRule.{EptpRule}
use Rattle.model.specs.declared.EptpRule.TheVariants.{MemoryType, WalkLength, DirtyFlag, ReservedBits, BeyondWidth}
use Rattle.model.specs.declared.Refusal.{Refusal}
use Rattle.model.specs.declared.Refusal.TheVariants.{ContextOutOfRange, TableTooLong, TableNotValid, EventNotValid, UndefinedOpcode, VmExit, GeneralProtection, InvalidOperand, NoPlace, EntryFailure, NotCreatable, NoRoom, WrongTally}

-- document 02, Ask 6: "1 memory type, 2 walk length, 3 accessed and dirty, 4 bits 11:7, 5 bits above the width; 0 if good"
abbrev pub rule_number : Option EptpRule → ℕ
rule_number None = 0
rule_number (Some MemoryType) = 1
rule_number (Some WalkLength) = 2
rule_number (Some DirtyFlag) = 3
rule_number (Some ReservedBits) = 4
rule_number (Some BeyondWidth) = 5

-- document 01, "Numbered answers", and document 02, Ask 7, for 13
abbrev pub refusal_number : Refusal → ℕ
refusal_number ContextOutOfRange = 1
refusal_number TableTooLong = 2
refusal_number TableNotValid = 3
refusal_number EventNotValid = 4
refusal_number UndefinedOpcode = 5
refusal_number VmExit = 6
refusal_number GeneralProtection = 7
refusal_number (InvalidOperand rule) = 8
refusal_number NoPlace = 9
refusal_number (EntryFailure rule) = 10
refusal_number NotCreatable = 11
refusal_number NoRoom = 12
refusal_number WrongTally = 13

-- the number of the rule that goes with it, else 0
abbrev pub refusal_rule : Refusal → ℕ
refusal_rule ContextOutOfRange = 0
refusal_rule TableTooLong = 0
refusal_rule TableNotValid = 0
refusal_rule EventNotValid = 0
refusal_rule UndefinedOpcode = 0
refusal_rule VmExit = 0
refusal_rule GeneralProtection = 0
refusal_rule (InvalidOperand rule) = rule_number rule
refusal_rule NoPlace = 0
refusal_rule (EntryFailure rule) = rule_number rule
refusal_rule NotCreatable = 0
refusal_rule NoRoom = 0
refusal_rule WrongTally = 0

-- the answer that a result is: 0, or the number of its refusal
abbrev pub answer_of : {A : Type 0} → Result A Refusal → ℕ
answer_of (Ok a) = 0
answer_of (Err r) = refusal_number r

-- the rule that goes with it, else 0
abbrev pub rule_of : {A : Type 0} → Result A Refusal → ℕ
rule_of (Ok a) = 0
rule_of (Err r) = refusal_rule r
