-- What stands after an event, by its answer.
use Rattle.std.specs.Prelude.{◌≡◌, true, false, ◌++◌}
use Rattle.std.proofs.Common.{append-nil}
use Rattle.model.specs.Layouts.{kind_of, mapping_kind}
use Rattle.model.specs.Steps.{in_scope}
use Rattle.laws.specs.Lists.{Every}
use Rattle.origins.specs.Standing.{kept_by, made_by}
use Rattle.origins.proofs.Laws.Standing.{standing_of_append, every_kept}
use Rattle.leaks.specs.Moments.{Logged, accepts, Owned, owned_note, OwnedBook, owned_after, standing_owned}

pub standing_after : (d : OwnedBook) (e : Logged) → accepts d.now e ≡ true
    → standing_owned (owned_after d e).notes
    ≡ kept_by (λ (l : Owned). l.note) (owned_note d.now e).note (standing_owned d.notes) ++ made_by (λ (l : Owned). l.note) (owned_note d.now e)
unfolding owned_after
standing_after d e h = rw h (standing_of_append (λ (l : Owned). l.note) d.notes (owned_note d.now e))

pub notes_refused : (d : OwnedBook) (e : Logged) → accepts d.now e ≡ false → (owned_after d e).notes ≡ d.notes
unfolding owned_after
notes_refused d e h = rw (h, append-nil)

-- what holds of the standing mappings, and is kept, holds of them after an event
pub every_standing_after : {P Q : Owned → Type 0} (d : OwnedBook) (e : Logged)
    → accepts d.now e ≡ true
    → ((l : Owned) → P l → in_scope d.now.context e.bytes l.note.event ≡ false → Q l)
    → (mapping_kind (kind_of e.bytes) ≡ true → Q (owned_note d.now e))
    → Every P (standing_owned d.notes)
    → Every Q (standing_owned (owned_after d e).notes)
unfolding owned_note
every_standing_after d e h kept made all =
    rw (standing_after d e h) (every_kept (λ (l : Owned). l.note) (owned_note d.now e).note (standing_owned d.notes) (owned_note d.now e) kept made all)
