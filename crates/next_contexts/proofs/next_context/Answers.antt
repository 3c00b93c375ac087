-- Each arm is the definition's row for its event.
use Rattle.std.proofs.Common.{inl, inr}
use Rattle.model.specs.Context.{after_reset}
use Rattle.model.specs.Scopes.{next_context}
use Rattle.next_contexts.proofs.next_context.Goals as goal

pub returns-in-Entry : goal.returns-in-Entry
unfolding next_context
returns-in-Entry c = rw (c.in-Entry.is, ← c.place_entered.ensures)

pub returns-in-Exit : goal.returns-in-Exit
unfolding next_context
returns-in-Exit c = rw c.in-Exit.is

pub returns-in-Vmxon : goal.returns-in-Vmxon
unfolding next_context
returns-in-Vmxon c = rw c.in-Vmxon.is

pub returns-in-Vmxoff : goal.returns-in-Vmxoff
unfolding next_context
returns-in-Vmxoff c = rw c.in-Vmxoff.is

pub returns-in-NewPcid : goal.returns-in-NewPcid
unfolding next_context
returns-in-NewPcid c = rw c.in-NewPcid.is

pub returns-in-MovToCr3 : goal.returns-in-MovToCr3
unfolding next_context
returns-in-MovToCr3 c = rw c.in-MovToCr3.is

pub returns-in-Reset : goal.returns-in-Reset
unfolding next_context
returns-in-Reset c = rw c.in-Reset.is c.reset.ensures

pub returns-in-Creation : goal.returns-in-Creation
unfolding next_context
returns-in-Creation c =
    elim c.in-Creation.is [
      | inl p ↦ rw p.1
      | inr (inl p) ↦ rw p.1
      | inr (inr (inl p)) ↦ rw p.1
      | inr (inr (inr (inl p))) ↦ rw p.1
      | inr (inr (inr (inr (inl p)))) ↦ rw p.1
      | inr (inr (inr (inr (inr p)))) ↦ rw p.1
    ]
