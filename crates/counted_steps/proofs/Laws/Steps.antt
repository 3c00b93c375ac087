-- The step beside a tally: with one that matches it is the plain step, and its counts are those of the table after it.
use Rattle.std.specs.Prelude.{ℕ, ◌<◌, Bool, List, [], ◌∷◌, ◌++◌, ◌≡◌, Ok, Err, length}
use Rattle.std.proofs.Math.Bool.{true, false, cond, not, and-eq-true_iff}
use Rattle.std.proofs.Common.{append_assoc, ap, ◌∙◌, arith}
use Rattle.std.proofs.Math.Path.{refl, sym}
use borrow.Author.Tests.{ne_eqb, eqb-true, eqb-false}
use Rattle.std.proofs.Math.Dec.{eqb}
use Rattle.model.specs.declared.Context.{Context}
use Rattle.model.specs.declared.Refusal.{Refusal}
use Rattle.model.specs.declared.Step.{Step}
use Rattle.model.specs.Buffers.{put}
use Rattle.model.specs.Tables.{records}
use Rattle.model.specs.Events.{event}
use Rattle.model.specs.Answers.{first, valid_here, table_grounds, event_grounds, no_room, answer, grounds, rule_with}
use Rattle.model.specs.Steps.{new_table, accepted_step, refused_step, stepped, written}
use Rattle.model.specs.Refusals.{refusal_number, refusal_rule}
use Rattle.laws.specs.Answers.{first_append, first_append_some, first_append_none}
use Rattle.laws.specs.Rules.{table_answer_below_8}
use Rattle.laws.specs.Tables.{records_valid}
use Rattle.tallies.specs.Tallies.{Tallied, pcid_counts}
use Rattle.tally_rows.specs.declared.KindCounts.{KindCounts}
use Rattle.tally_rows.specs.Rows.{kind_counts, matching, same, same_kinds, rows_of}
use Rattle.tally_rows.proofs.Laws.Compared.{same_refl, same_true}
use Rattle.tally_rows.proofs.Laws.Rows.{kind_counts_rows, same_kinds_refl, same_kinds_true}
use Rattle.steps.specs.Counts.{records_after}
use Rattle.counted_steps.specs.declared.CountedStep.{CountedStep}
use Rattle.counted_steps.specs.declared.Shown.{Shown}
use Rattle.counted_steps.specs.Steps.{counted_grounds, counted_answer, Shows, counted_refusal, counted_stepped, counted_pcids, counted_written}

module _ (c : Context) (kinds : List KindCounts) (pcids t e : List ℕ) (room : ℕ) where
  -- the grounds behind those of the table, and behind the tally's
  abbrev rest : List (ℕ × Bool)
  rest = event_grounds c (event e) ++ ((12, no_room room t e) ∷ [])

  counted_split : counted_answer c kinds pcids t e room ≡ first (table_grounds c t ++ (4, not (valid_here c e)) ∷ (13, not (matching kinds pcids (records t))) ∷ rest)
  unfolding counted_answer counted_grounds
  counted_split = rw (append_assoc, append_assoc)

  split : answer c t e room ≡ first (table_grounds c t ++ (4, not (valid_here c e)) ∷ rest)
  unfolding answer grounds
  split = rw (append_assoc, append_assoc)

  -- the answer where the table is refused, the event invalid, or the tally another
  pub counted_of_table : {n : ℕ} → n ≡ first (table_grounds c t) → (n ≡ 0 → ⊥) → counted_answer c kinds pcids t e room ≡ n
  counted_of_table is some = counted_split ∙ first_append_some (table_grounds c t) _ (λ z. some (is ∙ z)) ∙ sym is

  pub counted_of_invalid : valid_here c e ≡ false → counted_answer c kinds pcids t e room ≡ first (table_grounds c t ++ ((4, true) ∷ []))
  unfolding first
  counted_of_invalid v =
      counted_split
      ∙ first_append (table_grounds c t) ((4, not (valid_here c e)) ∷ (13, not (matching kinds pcids (records t))) ∷ rest) ((4, true) ∷ []) (rw v)

  module _ (passes : first (table_grounds c t) ≡ 0) where
    past_table : counted_answer c kinds pcids t e room ≡ first ((4, not (valid_here c e)) ∷ (13, not (matching kinds pcids (records t))) ∷ rest)
    unfolding table_grounds
    past_table = counted_split ∙ first_append_none (table_grounds c t) _ refl passes

    pub counted_of_other : valid_here c e ≡ true → matching kinds pcids (records t) ≡ false → counted_answer c kinds pcids t e room ≡ 13
    unfolding first
    counted_of_other v other = past_table ∙ rw (v, other)

  -- a tally that matches is no ground: the answer is the plain step's
  pub counted_answer_matching : matching kinds pcids (records t) ≡ true → counted_answer c kinds pcids t e room ≡ answer c t e room
  unfolding first
  counted_answer_matching match =
      counted_split
      ∙ first_append (table_grounds c t) ((4, not (valid_here c e)) ∷ (13, not (matching kinds pcids (records t))) ∷ rest) ((4, not (valid_here c e)) ∷ rest) (rw match)
      ∙ sym split

-- an event that is not valid is answered 1 to 3, of the context and the table, else 4
module _ (c : Context) (t : List ℕ) where
  pub invalid_of_table : {n : ℕ} → n ≡ first (table_grounds c t) → (n ≡ 0 → ⊥) → n ≡ first (table_grounds c t ++ ((4, true) ∷ []))
  invalid_of_table is some = is ∙ sym (first_append_some (table_grounds c t) ((4, true) ∷ []) (λ z. some (is ∙ z)))

  pub invalid_is_4 : first (table_grounds c t) ≡ 0 → 4 ≡ first (table_grounds c t ++ ((4, true) ∷ []))
  unfolding first table_grounds
  invalid_is_4 passes = sym (first_append_none (table_grounds c t) ((4, true) ∷ []) refl passes)

pub invalid_refused : (c : Context) (t : List ℕ) → (first (table_grounds c t ++ ((4, true) ∷ [])) ≡ 0 → ⊥) × (first (table_grounds c t ++ ((4, true) ∷ [])) < 8)
invalid_refused c t = go (eqb (first (table_grounds c t)) 0) refl
  where
    go : (b : Bool) → eqb (first (table_grounds c t)) 0 ≡ b
        → (first (table_grounds c t ++ ((4, true) ∷ [])) ≡ 0 → ⊥) × (first (table_grounds c t ++ ((4, true) ∷ [])) < 8)
    go true is =
        let four = invalid_is_4 c t (eqb-true (first (table_grounds c t)) 0 is) in
        (λ z. omega (arith, four, z), omega (arith, four))
    go false is =
        let some = eqb-false (first (table_grounds c t)) 0 is in
        let same = invalid_of_table c t refl some in
        (λ z. some (same ∙ z), rw (sym same) (table_answer_below_8 c t))

-- ---- a tally that matches has the counts

module _ (kinds : List KindCounts) (pcids : List ℕ) (rs : List (List ℕ)) where
  pub matching_counts : matching kinds pcids rs ≡ true → (kinds ≡ kind_counts rs) × (pcids ≡ pcid_counts rs)
  unfolding matching
  matching_counts match =
      let both = (and-eq-true_iff (same_kinds kinds (kind_counts rs)) (same pcids (pcid_counts rs))).0 match in
      (same_kinds_true kinds (kind_counts rs) both.0, same_true pcids (pcid_counts rs) both.1)

  pub counts_matching : kinds ≡ kind_counts rs → pcids ≡ pcid_counts rs → matching kinds pcids rs ≡ true
  unfolding matching
  counts_matching is are = rw (is, are, same_kinds_refl, same_refl)

-- ---- what a table beside its tally shows

module _ (c : Context) (kinds : List KindCounts) (pcids t e : List ℕ) (room : ℕ) where
  pub shown_refused : (why : Refusal) → counted_answer c kinds pcids t e room ≡ refusal_number why → refusal_rule why ≡ rule_with c e (refusal_number why)
      → Shows c kinds pcids t e room (Err why)
  shown_refused why is rule = record { answer = sym is; rule = rule; passed = tt }

  -- an accepted event is one for the plain step
  pub shown_accepted : {shown : Shown} → Shows c kinds pcids t e room (Ok shown) → answer c t e room ≡ 0
  shown_accepted shows = sym (counted_answer_matching c kinds pcids t e room shows.passed.match) ∙ sym shows.answer

-- ---- with a tally that matches, the step is the plain one

module _ (c : Context) (kinds : List KindCounts) (pcids t e : List ℕ) (match : matching kinds pcids (records t) ≡ true) where
  pub counted_stepped_matching : (room : ℕ) → (counted_stepped c kinds pcids t e room).step ≡ stepped c t e room
  unfolding counted_stepped stepped
  counted_stepped_matching room = rw (counted_answer_matching c kinds pcids t e room match) (go (answer c t e room) (eqb (answer c t e room) 0))
    where
      go : (n : ℕ) (accepted : Bool)
          → (cond {A = CountedStep} accepted (record { step = accepted_step c t e; kinds = kind_counts (records (new_table c t e)) }) (record { step = refused_step n c e; kinds = kinds })).step
          ≡ cond accepted (accepted_step c t e) (refused_step n c e)
      go n true = refl
      go n false = refl

  pub counted_written_matching : (b : List ℕ) → counted_written c kinds pcids t e b ≡ written c t e b
  unfolding counted_written written
  counted_written_matching b = rw (counted_answer_matching c kinds pcids t e (length b) match)

-- ---- the counts after a step, by its answer

module _ (c : Context) (kinds : List KindCounts) (pcids t e : List ℕ) (room : ℕ) where
  pub counts_accepted : counted_answer c kinds pcids t e room ≡ 0
      → ((counted_stepped c kinds pcids t e room).kinds ≡ kind_counts (records (new_table c t e))) × (counted_pcids c kinds pcids t e room ≡ pcid_counts (records (new_table c t e)))
  unfolding counted_stepped counted_pcids
  counts_accepted zero = (rw zero, rw zero)

  pub counts_refused : (counted_answer c kinds pcids t e room ≡ 0 → ⊥)
      → ((counted_stepped c kinds pcids t e room).kinds ≡ kinds) × (counted_pcids c kinds pcids t e room ≡ pcids)
  unfolding counted_stepped counted_pcids
  counts_refused some = let other = ne_eqb (counted_answer c kinds pcids t e room) 0 some in (rw other, rw other)

-- ---- the step, by its answer

module _ (c : Context) (kinds : List KindCounts) (pcids t e b : List ℕ) where
  abbrev room : ℕ
  room = length b

  -- what a step hands back and writes
  abbrev Steps : CountedStep → List ℕ → List ℕ → Type 0
  Steps r pcids' b' =
      (r ≡ counted_stepped c kinds pcids t e room) × ((pcids' ≡ counted_pcids c kinds pcids t e room) × (b' ≡ counted_written c kinds pcids t e b))

  pub counted_step_refused : {n : ℕ} → counted_answer c kinds pcids t e room ≡ n → (n ≡ 0 → ⊥) → {k : ℕ} → k ≡ rule_with c e n → {r : CountedStep} → r ≡ counted_refusal n k c kinds → Steps r pcids b
  unfolding counted_stepped counted_pcids counted_written refused_step
  counted_step_refused {n} is some rule told =
      let other : eqb n 0 ≡ false = ne_eqb n 0 some in
      (told ∙ rw (is, other, ← rule), (rw (is, other), rw (is, other)))

  -- with a tally that matches it is the plain step, and the counts are those of the table after it
  module _ (match : matching kinds pcids (records t) ≡ true) where
    pub counted_step_matching : {s : Step} {b' cells pcids' : List ℕ} {rows : List KindCounts} → s ≡ stepped c t e room → b' ≡ written c t e b
        → Tallied (records_after c t e room) cells pcids' → rows ≡ rows_of cells → Steps (record { step = s; kinds = rows }) pcids' b'
    unfolding counted_stepped counted_pcids counted_written stepped written records_after
    counted_step_matching {s} {b'} {cells} {pcids'} {rows} told made counted shown = rw (counted_answer_matching c kinds pcids t e room match) (go (eqb (answer c t e room) 0) told made counted)
      where
        before : (kinds ≡ kind_counts (records t)) × (pcids ≡ pcid_counts (records t))
        before = matching_counts kinds pcids (records t) match

        counts : (u : List ℕ) → Tallied (records u) cells pcids' → (rows ≡ kind_counts (records u)) × (pcids' ≡ pcid_counts (records u))
        counts u tallied = (shown ∙ ap rows_of tallied.cells ∙ sym (kind_counts_rows (records_valid u)), tallied.pcids)

        go : (accepted : Bool)
            → s ≡ cond accepted (accepted_step c t e) (refused_step (answer c t e room) c e)
            → b' ≡ cond accepted (put 0 (new_table c t e) b) b
            → Tallied (cond accepted (records (new_table c t e)) (records t)) cells pcids'
            → (◌≡◌ {A = CountedStep} (record { step = s; kinds = rows }) (cond accepted (record { step = accepted_step c t e; kinds = kind_counts (records (new_table c t e)) }) (record { step = refused_step (answer c t e room) c e; kinds = kinds })))
            × ((pcids' ≡ cond accepted (pcid_counts (records (new_table c t e))) pcids) × (b' ≡ cond accepted (put 0 (new_table c t e) b) b))
        go true told made tallied = let now = counts (new_table c t e) tallied in (λ i. record { step = told i; kinds = now.0 i }, (now.1, made))
        go false told made tallied =
            let now = counts t tallied in
            (λ i. record { step = told i; kinds = (now.0 ∙ sym before.0) i }, (now.1 ∙ sym before.1, made))
