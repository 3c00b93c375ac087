-- Document 01, "In a guest it is 0 exactly if VPIDs were not enabled at entry": so it is after an accepted VM
-- entry.
use Rattle.std.specs.Prelude.{ℕ, ◌≡◌, refl, Bool, true, false, cond, not, ◌&&◌, ◌||◌, List, eqb}
use Rattle.std.proofs.Common.{sym, arith}
use Rattle.std.proofs.lemmas.Bool.{false≢true}
use Rattle.model.specs.declared.Context.{Context}
use Rattle.model.specs.declared.Entry
use Rattle.model.specs.declared.Event.TheVariants.{Entry}
use Rattle.model.specs.Context.{current_vpid}
use Rattle.model.specs.Events.{event}
use Rattle.model.specs.Scopes.{entered, next_context}
use Rattle.model.specs.Answers.{good_eptp, bad_entry, own_ground, answer}
use Rattle.model.specs.Steps.{accepted_step, stepped}
use Rattle.laws.specs.Answers.{accepted_own_ground}
use Rattle.laws.specs.Steps.{stepped_accepted}

-- an entry that does not fail has VPID 0 only where VPIDs are not enabled
vpid_entered : (c : Context) (n : Entry.Entry) → bad_entry c n ≡ false → eqb (current_vpid (entered n)) 0 ≡ not (eqb n.vpids 1)
unfolding bad_entry entered
vpid_entered c n = go (eqb n.vpids 1) (eqb n.vpid 0) refl
  where
    go : (enabled zero : Bool) → eqb n.vpid 0 ≡ zero → ((enabled && zero) || (eqb n.ept 1 && not (good_eptp c n.eptp))) ≡ false
        → eqb (cond enabled n.vpid 0) 0 ≡ not enabled
    go true true is h = absurd (false≢true (sym h))
    go true false is h = is
    go false zero is h = refl

-- the own ground of an entry that is accepted does not apply
entry_passes : (c : Context) (n : Entry.Entry) → own_ground c (Entry n) ≡ 0 → bad_entry c n ≡ false
unfolding own_ground
entry_passes c n = go (bad_entry c n)
  where
    go : (b : Bool) → ◌≡◌ {A = ℕ} (cond b 10 0) 0 → b ≡ false
    go true h = absurd (omega arith)
    go false h = refl

pub vpid_after_entry : (c : Context) (t e : List ℕ) (room : ℕ) (n : Entry.Entry) → event e ≡ Entry n → answer c t e room ≡ 0
    → eqb (current_vpid (stepped c t e room).context.place) 0 ≡ not (eqb n.vpids 1)
unfolding accepted_step next_context
vpid_after_entry c t e room n is h =
    let own = rw is at (accepted_own_ground c t e room h) in
    rw (stepped_accepted c t e room h, is) (vpid_entered c n (entry_passes c n own))
