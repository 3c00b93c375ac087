-- Document 02, Ask 1: why an event drops a mapping or leaves it. "A reason counts only where document 01
-- tests it for that kind of record": the tests are those of its scopes.
use Rattle.std.specs.Prelude.{ℕ, Bool, true, false, cond, not, ◌&&◌, List, [], ◌∷◌, Result, Ok, Err, eqb, length}
use Rattle.model.specs.declared.Context.{Context}
use Rattle.model.specs.declared.Mapping.{Mapping}
use Rattle.model.specs.declared.Event.{Event}
use Rattle.model.specs.declared.Reason.{Reason}
use Rattle.model.specs.declared.Reason.TheVariants.{NoScope, NotCanonical, WrongKind, WrongVpid, WrongPcid, WrongEp4ta, NotCovering, SparedAsGlobal, InScope}
use Rattle.model.specs.declared.Refusal.{Refusal}
use Rattle.model.specs.Context.{in_range}
use Rattle.model.specs.Layouts.{kind_of, length_of}
use Rattle.model.specs.Mappings.{mapping, other_width, starts_record}
use Rattle.model.specs.Tables.{limit}
use Rattle.model.specs.Events.{event}
use Rattle.model.specs.Scopes.{Tests, asked}
use Rattle.model.specs.Answers.{first, rule_with, answer}
use Rattle.model.specs.Refusals.{refusal_number, refusal_rule}

-- a reason where its test fails, and else what comes after it
abbrev pub unless : Bool → Reason → Reason → Reason
unless test reason rest = cond (not test) reason rest

-- "wrong kind .., wrong VPID, wrong PCID, wrong EP4TA, does not cover the address, spared as global, or in
-- scope": the first test that fails
unfoldable pub first_failed : Tests → Reason
first_failed t =
    unless t.kind WrongKind
    (unless t.vpid WrongVpid
    (unless t.pcid WrongPcid
    (unless t.ep4ta WrongEp4ta
    (unless t.page NotCovering
    (unless t.global SparedAsGlobal InScope)))))

-- "event without a scope (creations, kinds 22 to 24, entry or exit with VPIDs enabled), INVLPG address not
-- canonical", and then the tests. "The named reason must hold, no earlier one may".
unfoldable pub reason : Context → Event → Mapping → Reason
reason c e m =
    unless (asked c e).scoped NoScope (unless (asked c e).addressed NotCanonical (first_failed ((asked c e).tests m)))

-- the mapping goes: "in scope" alone drops it
abbrev pub drops : Reason → Bool
drops NoScope = false
drops NotCanonical = false
drops WrongKind = false
drops WrongVpid = false
drops WrongPcid = false
drops WrongEp4ta = false
drops NotCovering = false
drops SparedAsGlobal = false
drops InScope = true

-- exactly one valid record of the linear width
unfoldable pub one_record : ℕ → List ℕ → Bool
one_record width r = starts_record r && eqb (length r) (length_of (kind_of r)) && not (other_width width (kind_of r))

-- "The refusal is judged with a table of that record alone and a new buffer of 45,056 [47,104] bytes; bytes that
-- are not exactly one valid record are answer 3, never 2."
unfoldable pub explained_answer : Context → List ℕ → List ℕ → ℕ
explained_answer c r e = cond (one_record c.linear_width r) (answer c r e limit) (first ((1, not (in_range c)) ∷ (3, true) ∷ []))

-- why an event drops a mapping or leaves it: the step is refused, with its answer and the rule of the EPTP that goes
-- with it, or it is accepted and the reason decides
pub data Explanation : Type 0 where
  Refused : ℕ → ℕ → Explanation
  Accepted : Reason → Explanation

-- what the explainer's result says
abbrev pub explained : Result Reason Refusal → Explanation
explained (Ok reason) = Accepted reason
explained (Err refusal) = Refused (refusal_number refusal) (refusal_rule refusal)

-- why the event e drops the record r or leaves it: "step refused (with its number)" goes first; "the explainer adds
-- the number" of the EPTP's rule (Ask 6)
unfoldable pub explanation : Context → List ℕ → List ℕ → Explanation
explanation c r e =
    cond (eqb (explained_answer c r e) 0) (Accepted (reason c (event e) (mapping r)))
    (Refused (explained_answer c r e) (rule_with c e (explained_answer c r e)))

-- the numbers of the reasons, a refusal's among them, from 1 in the paper's order
abbrev pub reason_number : Reason → ℕ
reason_number NoScope = 2
reason_number NotCanonical = 3
reason_number WrongKind = 4
reason_number WrongVpid = 5
reason_number WrongPcid = 6
reason_number WrongEp4ta = 7
reason_number NotCovering = 8
reason_number SparedAsGlobal = 9
reason_number InScope = 10

abbrev pub explanation_number : Explanation → ℕ
explanation_number (Refused answer rule) = 1
explanation_number (Accepted reason) = reason_number reason

-- the answer that a refusal carries, else 0
abbrev pub explanation_answer : Explanation → ℕ
explanation_answer (Refused answer rule) = answer
explanation_answer (Accepted reason) = 0

-- the rule that goes with it, else 0
abbrev pub explanation_rule : Explanation → ℕ
explanation_rule (Refused answer rule) = rule
explanation_rule (Accepted reason) = 0
