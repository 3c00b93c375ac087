-- The second run, with its removals, beside the first: where the first refuses no creation for room,
-- the second answers alike and keeps an in-order part of the first's records.
use Rattle.std.specs.Prelude.{ℕ, suc, ◌≤◌, ◌≡◌, refl, Bool, false, not, ◌&&◌, List, [], ◌∷◌, map, eqb, length}
use Rattle.std.proofs.Common.{sym, ap, ap₂, ◌∙◌, arith}
use mathlib.Mathlib.Data.Bool.Basic.{or-eq-false-eq-eq-false-and-eq-false}
use Rattle.std.proofs.lemmas.Bool.{eqb-false}
use Rattle.model.specs.declared.Context.{Context}
use Rattle.model.specs.Layouts.{kind_of, mapping_kind}
use Rattle.model.specs.Mappings.{mapping}
use Rattle.model.specs.Tables.{limit, joined, records, only}
use Rattle.model.specs.Answers.{answer, creation}
use Rattle.model.specs.Steps.{new_records, in_scope}
use Rattle.model.specs.Lookups.{usable, usable_records}
use Rattle.runs.specs.Runs.{Run, started, run_answer, run_after, run_report, run_reports, run_states, without, run_without, InOrderPart, second_gaps, second_reports, refused_for_room, UsableWithin, Compared, none, more, verdict}
use Rattle.runs.specs.Theorem.{SecondRun}
use Rattle.laws.specs.Buffers.{length_put_least}
use Rattle.laws.specs.Tables.{records_valid, records_joined, joined_whole, whole_joined, length_joined_records}
use Rattle.laws.specs.Answers.{valid_table_parts, valid_table_made, answer_shorter}
use Rattle.runs.proofs.Laws.Parts.{every_without, length_joined_without, part_refl, part_trans, part_only, part_append}
use Rattle.laws.specs.Steps.{records_new_table}
use Rattle.runs.proofs.Laws.Steps.{by_answer, run_after_accepted, run_after_refused, run_report_accepted, run_report_refused, tabled_whole, Sound, sound_started, sound_answer, run_accepted_valid, sound_after, room_refuses_creations}

-- a run beside the full one: the same context, and a part of its records
pub record Within (s full : Run) : Type 0 where
  pub sound : Sound s
  pub full_sound : Sound full
  pub context : s.context ≡ full.context
  pub part : InOrderPart (records s.table) (records full.table)

pub within_started : (c : Context) (a b a' b' : List ℕ) → limit ≤ length a → limit ≤ length b → limit ≤ length a' → limit ≤ length b'
    → Within (started c a' b') (started c a b)
unfolding started
within_started c a b a' b' h k h' k' =
    record { sound = sound_started c a' b' h' k'; full_sound = sound_started c a b h k; context = refl; part = part_refl (records []) }

-- a removal
pub records_run_without : (gone : List Bool) (s : Run) → records (run_without gone s).table ≡ without gone (records s.table)
unfolding run_without
records_run_without gone s = records_joined (every_without gone (records_valid s.table))

pub sound_without : (gone : List Bool) (s : Run) → Sound s → Sound (run_without gone s)
unfolding run_without
sound_without gone s k =
    record {
      tabled =
          record {
            valid =
                valid_table_made _ _ (joined_whole (every_without gone (records_valid s.table)))
                (rw (records_run_without gone s) (every_without gone (valid_table_parts _ _ k.tabled.valid).1));
            short =
                omega (arith, length_joined_without gone (records s.table), length_joined_records s.table, k.tabled.short);
          };
      front = omega (arith, k.front, length_put_least 0 (joined (without gone (records s.table))) s.front);
      back = k.back;
    }

pub within_without : (gone : List Bool) (s full : Run) → Within s full → Within (run_without gone s) full
unfolding run_without InOrderPart
within_without gone s full k =
    record {
      sound = sound_without gone s k.sound;
      full_sound = k.full_sound;
      context = k.context;
      part =
          part_trans (records (run_without gone s).table) (records s.table) (records full.table)
          (gone, records_run_without gone s) k.part;
    }

-- the usable records are a part too
pub within_usable : (s full : Run) → Within s full → UsableWithin s full
unfolding UsableWithin usable_records
within_usable s full k a =
    rw k.context (part_only (λ r. usable full.context a (mapping r)) (records s.table) (records full.table) k.part)

-- one event that the full run does not refuse for room
pub within_shorter : (s full : Run) → Within s full → length s.table ≤ length full.table
unfolding InOrderPart
within_shorter s full k =
    let same = ap length (whole_joined s.table (tabled_whole s k.sound.tabled)) in
    let fewer : length (joined (records s.table)) ≤ length (joined (records full.table)) =
    rw k.part.1 (length_joined_without k.part.0 (records full.table)) in
    omega (arith, length_joined_records full.table)

pub within_answer : (s full : Run) (e : List ℕ) → Within s full → (run_answer full e ≡ 12 → ⊥) → run_answer s e ≡ run_answer full e
within_answer s full e k h =
    sound_answer s e k.sound
    ∙ ap (λ c. answer c s.table e limit) k.context
    ∙ answer_shorter full.context full.table s.table e limit k.full_sound.tabled.valid (rw k.context at k.sound.tabled.valid) k.full_sound.tabled.short
    (within_shorter s full k) (λ z. h (sound_answer full e k.full_sound ∙ z))
    ∙ sym (sound_answer full e k.full_sound)

pub within_verdict : (s full : Run) (e : List ℕ) → Within s full → (run_answer full e ≡ 12 → ⊥)
    → verdict (run_report s e) ≡ verdict (run_report full e)
unfolding verdict
within_verdict s full e k room = by_answer (run_answer full e) accepted refused
  where
    same : run_answer s e ≡ run_answer full e
    same = within_answer s full e k room

    accepted : run_answer full e ≡ 0 → verdict (run_report s e) ≡ verdict (run_report full e)
    accepted h = rw (run_report_accepted s e (same ∙ h), run_report_accepted full e h, k.context)

    refused : (run_answer full e ≡ 0 → ⊥) → verdict (run_report s e) ≡ verdict (run_report full e)
    refused h = rw (run_report_refused s e (λ z. h (sym same ∙ z)), run_report_refused full e h, same, k.context)

pub within_after : (s full : Run) (e : List ℕ) → Within s full → (run_answer full e ≡ 12 → ⊥) → Within (run_after s e) (run_after full e)
unfolding new_records
within_after s full e k room = by_answer (run_answer full e) accepted refused
  where
    same : run_answer s e ≡ run_answer full e
    same = within_answer s full e k room

    outside : List ℕ → Bool
    outside r = not (in_scope full.context e r)

    accepted : run_answer full e ≡ 0 → Within (run_after s e) (run_after full e)
    accepted h =
        let valid = run_accepted_valid full e h in
        record {
          sound = sound_after s e k.sound;
          full_sound = sound_after full e k.full_sound;
          context = rw (run_after_accepted s e (same ∙ h), run_after_accepted full e h, k.context);
          part =
              rw (run_after_accepted s e (same ∙ h), run_after_accepted full e h, records_new_table _ s.context s.table e valid, records_new_table _ full.context full.table e valid, k.context)
              (part_append (only outside (records s.table)) (only outside (records full.table)) (creation e)
              (part_only outside (records s.table) (records full.table) k.part));
        }

    refused : (run_answer full e ≡ 0 → ⊥) → Within (run_after s e) (run_after full e)
    refused h = rw (run_after_refused s e (λ z. h (sym same ∙ z)), run_after_refused full e h) k

-- a whole list of events, none of which the full run refuses for room
not_for_room : (s : Run) (e : List ℕ) (es : List (List ℕ)) → Sound s → refused_for_room s (e ∷ es) ≡ false
    → (run_answer s e ≡ 12 → ⊥) × (refused_for_room (run_after s e) es ≡ false)
unfolding refused_for_room
not_for_room s e es k h =
    let creation = mapping_kind (kind_of e) && eqb (run_answer s e) 12 in
    let parts = (or-eq-false-eq-eq-false-and-eq-false creation (refused_for_room (run_after s e) es)).0 h in
    (λ full. eqb-false (run_answer s e) 12 (rw (room_refuses_creations s e k full) at parts.0) full, parts.1)

pub within_verdicts : (removals : ℕ → List Bool) (s full : Run) (es : List (List ℕ)) → Within s full
    → refused_for_room full es ≡ false
    → map verdict (second_reports removals s es) ≡ map verdict (run_reports full es)
unfolding second_reports run_reports
within_verdicts removals s full [] k h = refl
within_verdicts removals s full (e ∷ es) k h =
    let room = not_for_room full e es k.full_sound h in
    let kept = within_without (removals 0) s full k in
    ap₂ (λ v vs. v ∷ vs) (within_verdict (run_without (removals 0) s) full e kept room.0)
    (within_verdicts (λ n. removals (suc n)) (run_after (run_without (removals 0) s) e) (run_after full e) es
    (within_after (run_without (removals 0) s) full e kept room.0) room.1)

pub within_compared : (removals : ℕ → List Bool) (s full : Run) (es : List (List ℕ)) → Within s full
    → refused_for_room full es ≡ false
    → Compared (second_gaps removals s es) (run_states full es)
unfolding second_gaps run_states
within_compared removals s full [] k h =
    let kept = within_without (removals 0) s full k in
    more k.context (within_usable s full k) (within_usable (run_without (removals 0) s) full kept) none
within_compared removals s full (e ∷ es) k h =
    let room = not_for_room full e es k.full_sound h in
    let kept = within_without (removals 0) s full k in
    more k.context (within_usable s full k) (within_usable (run_without (removals 0) s) full kept)
    (within_compared (λ n. removals (suc n)) (run_after (run_without (removals 0) s) e) (run_after full e) es
    (within_after (run_without (removals 0) s) full e kept room.0) room.1)

pub second_run_holds : (c : Context) (es : List (List ℕ)) (a b : List ℕ) (removals : ℕ → List Bool) (a' b' : List ℕ)
    → limit ≤ length a → limit ≤ length b → limit ≤ length a' → limit ≤ length b'
    → refused_for_room (started c a b) es ≡ false
    → SecondRun c es a b removals a' b'
second_run_holds c es a b removals a' b' h k h' k' room =
    let begun = within_started c a b a' b' h k h' k' in
    record {
      verdicts = within_verdicts removals (started c a' b') (started c a b) es begun room;
      usable = within_compared removals (started c a' b') (started c a b) es begun room;
    }
