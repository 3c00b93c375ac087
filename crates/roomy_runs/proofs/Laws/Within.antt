-- Document 01's run with removals is within the book with room, whatever room it has.
use Rattle.std.specs.Prelude.{ℕ, suc, ◌≡◌, refl, Bool, true, false, not, List, [], ◌∷◌, ◌++◌, eqb}
use Rattle.std.proofs.Common.{sym, ◌∙◌, append-nil, arith, ne_eqb, eqb-true}
use Rattle.std.proofs.lemmas.Bool.{eqb-false}
use Rattle.model.specs.declared.Context.{Context}
use Rattle.model.specs.Layouts.{kind_of, mapping_kind}
use Rattle.model.specs.Tables.{limit, records, only}
use Rattle.model.specs.Events.{event}
use Rattle.model.specs.Scopes.{has_scope, scope, next_context}
use Rattle.model.specs.Answers.{answer, creation}
use Rattle.model.specs.Steps.{in_scope, new_records}
use Rattle.laws.specs.Tables.{only_all, records_nil}
use Rattle.laws.specs.Events.{event_creation}
use Rattle.laws.specs.Steps.{records_new_table}
use Rattle.laws.specs.Answers.{answer_shorter}
use Rattle.runs.specs.Book.{Note, standing, Book, opened}
use Rattle.runs.specs.Runs.{Run, started, run_answer, run_after, without, run_without, InOrderPart, second_gaps}
use Rattle.runs.proofs.Laws.Book.{standing_append}
use Rattle.runs.proofs.Laws.Parts.{part_refl, part_skip, part_keep, part_trans, part_only, part_append}
use Rattle.runs.proofs.Laws.Steps.{by_answer, run_after_accepted, run_after_refused, Sound, sound_started, sound_answer, run_accepted_valid, sound_after, room_refuses_creations}
use Rattle.runs.proofs.Laws.Second.{records_run_without, sound_without}
use Rattle.roomy_runs.specs.Books.{roomy_answer, roomy_added, roomy_after, roomy_books}
use Rattle.roomy_runs.specs.Statements.{AllWithin, none, more, WithinRoom}
use Rattle.roomy_runs.proofs.Laws.Books.{empty_valid}

pub record InRoom (s : Run) (b : Book) : Type 0 where
  pub sound : Sound s
  pub context : s.context ≡ b.context
  pub part : InOrderPart (records s.table) (standing b.notes)

-- the answers agree but for room
pub roomy_of_run : (s : Run) (e : List ℕ) → Sound s → (run_answer s e ≡ 12 → ⊥) → roomy_answer s.context e ≡ run_answer s e
unfolding roomy_answer
roomy_of_run s e k h =
    answer_shorter s.context s.table [] e limit k.tabled.valid (empty_valid s.context.linear_width) k.tabled.short (omega arith)
    (λ z. h (sound_answer s e k ∙ z))
    ∙ sym (sound_answer s e k)

pub roomy_accepted : (b : Book) (e : List ℕ) → roomy_answer b.context e ≡ 0
    → roomy_after b e ≡ record { context = next_context b.context (event e); notes = b.notes ++ (record { context = b.context; event = e } ∷ []) }
unfolding roomy_after roomy_added
roomy_accepted b e h = rw h

pub roomy_refused : (b : Book) (e : List ℕ) → (roomy_answer b.context e ≡ 0 → ⊥) → roomy_after b e ≡ b
unfolding roomy_after roomy_added
roomy_refused b e h = rw (ne_eqb (roomy_answer b.context e) 0 h, append-nil)

-- records before others are a part of both
none_of : (rs : List (List ℕ)) → InOrderPart [] rs
none_of [] = part_refl []
none_of (r ∷ rs) = part_skip [] r rs (none_of rs)

pub front_of : (rs ss : List (List ℕ)) → InOrderPart rs (rs ++ ss)
front_of [] ss = none_of ss
front_of (r ∷ rs) ss = part_keep rs r (rs ++ ss) (front_of rs ss)

-- a creation drops nothing, and leaves the context
module _ (c : Context) (e : List ℕ) (made : mapping_kind (kind_of e) ≡ true) where
  pub creation_unscoped : (r : List ℕ) → not (in_scope c e r) ≡ true
  unfolding scope has_scope
  creation_unscoped r = rw (event_creation e made)

  pub creation_context : next_context c (event e) ≡ c
  unfolding next_context
  creation_context = rw (event_creation e made)

pub in_room_after : (s : Run) (b : Book) (e : List ℕ) → InRoom s b → InRoom (run_after s e) (roomy_after b e)
unfolding new_records
in_room_after s b e k = by_answer (run_answer s e) accepted refused
  where
    note : Note
    note = record { context = b.context; event = e }

    out : List ℕ → Bool
    out r = not (in_scope b.context e r)

    accepted : run_answer s e ≡ 0 → InRoom (run_after s e) (roomy_after b e)
    accepted h =
        let told : roomy_answer b.context e ≡ 0 = rw (← k.context) (roomy_of_run s e k.sound (λ z. omega arith) ∙ h) in
        record {
          sound = sound_after s e k.sound;
          context = rw (run_after_accepted s e h, roomy_accepted b e told, k.context);
          part =
              rw (run_after_accepted s e h, roomy_accepted b e told, standing_append b.notes note, records_new_table _ s.context s.table e (run_accepted_valid s e h), k.context)
              (part_append (only out (records s.table)) (only out (standing b.notes)) (creation e) (part_only out (records s.table) (standing b.notes) k.part));
        }

    refused : (run_answer s e ≡ 0 → ⊥) → InRoom (run_after s e) (roomy_after b e)
    refused h = rw (run_after_refused s e h) (by_answer (roomy_answer b.context e) dropped (λ z. rw (roomy_refused b e z) k))
      where
        dropped : roomy_answer b.context e ≡ 0 → InRoom s (roomy_after b e)
        dropped told =
            let full : run_answer s e ≡ 12 = by_room (eqb (run_answer s e) 12) refl told in
            let made = room_refuses_creations s e k.sound full in
            record {
              sound = k.sound;
              context = rw (roomy_accepted b e told, creation_context b.context e made) k.context;
              part =
                  rw (roomy_accepted b e told, standing_append b.notes note, only_all out (standing b.notes) (creation_unscoped b.context e made))
                  (part_trans (records s.table) (standing b.notes) (standing b.notes ++ creation e) k.part (front_of (standing b.notes) (creation e)));
            }
          where
            by_room : (x : Bool) → eqb (run_answer s e) 12 ≡ x → roomy_answer b.context e ≡ 0 → run_answer s e ≡ 12
            by_room true is told = eqb-true (run_answer s e) 12 is
            by_room false is told = absurd (h (sym (roomy_of_run s e k.sound (eqb-false (run_answer s e) 12 is)) ∙ rw k.context told))

pub in_room_without : (gone : List Bool) (s : Run) (b : Book) → InRoom s b → InRoom (run_without gone s) b
unfolding run_without InOrderPart
in_room_without gone s b k =
    record {
      sound = sound_without gone s k.sound;
      context = k.context;
      part = part_trans (records (run_without gone s).table) (records s.table) (standing b.notes) (gone, records_run_without gone s) k.part;
    }

pub in_room_gaps : (removals : ℕ → List Bool) (s : Run) (b : Book) (es : List (List ℕ)) → InRoom s b → AllWithin (second_gaps removals s es) (roomy_books b es)
unfolding second_gaps roomy_books
in_room_gaps removals s b [] k = more (record { context = k.context; before = k.part; after = (in_room_without (removals 0) s b k).part }) none
in_room_gaps removals s b (e ∷ es) k =
    let kept = in_room_without (removals 0) s b k in
    more (record { context = k.context; before = k.part; after = kept.part })
    (in_room_gaps (λ n. removals (suc n)) (run_after (run_without (removals 0) s) e) (roomy_after b e) es (in_room_after (run_without (removals 0) s) b e kept))

pub within_room_holds : WithinRoom
unfolding started opened standing
within_room_holds c es removals a b h k =
    in_room_gaps removals (started c a b) (opened c) es (record { sound = sound_started c a b h k; context = refl; part = rw records_nil (part_refl []) })
