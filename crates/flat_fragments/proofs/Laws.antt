-- Numbers that stand for nothing: every event is answered 1 and the log goes on, nothing is written, and context and tally stay.
use Rattle.std.specs.Prelude.{ℕ, Bool, true, false, List, ◌≡◌, eqb, length}
use Rattle.std.proofs.Math.Bool.{and-false}
use Rattle.std.proofs.Math.Path.{refl}
use Rattle.std.proofs.Common.{sym, ◌∙◌, arith}
use Rattle.model.specs.Context.{in_range}
use Rattle.laws.specs.Answers.{table_grounds_out_of_range}
use Rattle.laws.specs.Rules.{rule_below_8}
use Rattle.counted_steps.specs.Steps.{counted_refusal, counted_stepped, counted_pcids, counted_written}
use Rattle.counted_steps.proofs.Laws.Steps.{counted_of_table, counted_step_refused}
use Rattle.readers.specs.Readers.{counts_as_ignoring}
use Rattle.fragments.proofs.Laws.Calls.{cut_answer_some}
use Rattle.fragments.specs.Fragments.{finishes, event_taken, taken_of, taken_pcids, taken_written, cut_answer, finished_of}
use Rattle.flat_contexts.specs.declared.FlatContext.{FlatContext}
use Rattle.flat_contexts.specs.Contexts.{is_known}
use Rattle.flat_steps.specs.declared.FlatKinds.{FlatKinds}
use Rattle.flat_steps.specs.Steps.{refused}
use Rattle.flat_fragments.specs.declared.FlatReader.{FlatReader}
use Rattle.flat_fragments.specs.Flat.{reader_of, as_read, flat_told, flat_taken, flat_taken_pcids, flat_taken_written, flat_finished}

module _ (r : FlatReader) (c : FlatContext) (kinds : FlatKinds) (pcids t x b : List ℕ) (unknown : is_known c ≡ false) where
  out : in_range (as_read c) ≡ false
  unfolding as_read in_range
  out = rw (unknown, and-false)

  -- any event
  refused_out : (e : List ℕ)
      → (counted_stepped (as_read c) kinds.rows pcids t e (length b) ≡ counted_refusal 1 0 (as_read c) kinds.rows)
      × ((counted_pcids (as_read c) kinds.rows pcids t e (length b) ≡ pcids) × (counted_written (as_read c) kinds.rows pcids t e b ≡ b))
  refused_out e =
      let one = counted_of_table (as_read c) kinds.rows pcids t e (length b) {n = 1} (sym (table_grounds_out_of_range (as_read c) t out)) (λ z. omega arith) in
      let all = counted_step_refused (as_read c) kinds.rows pcids t e b one (λ z. omega arith) (rule_below_8 (as_read c) e 1 (omega arith)) refl in
      (sym all.0, (sym all.1.0, sym all.1.1))

  -- the answer is 1 where an event is finished; else none is told, 0
  pub unknown_taken : ((flat_taken r c kinds pcids t x (length b)).step ≡ refused (flat_taken r c kinds pcids t x (length b)).finished 0 c)
      × (((flat_taken r c kinds pcids t x (length b)).kinds ≡ kinds)
      × ((flat_taken_pcids r c kinds pcids t x (length b) ≡ pcids) × (flat_taken_written r c kinds pcids t x b ≡ b)))
  unfolding flat_taken flat_taken_pcids flat_taken_written taken_of taken_pcids taken_written flat_told
  unknown_taken = go (finishes (as_read c).linear_width (reader_of r) x) refl
    where
      all : (counted_stepped (as_read c) kinds.rows pcids t (event_taken (as_read c).linear_width (reader_of r) x) (length b) ≡ counted_refusal 1 0 (as_read c) kinds.rows)
          × ((counted_pcids (as_read c) kinds.rows pcids t (event_taken (as_read c).linear_width (reader_of r) x) (length b) ≡ pcids)
          × (counted_written (as_read c) kinds.rows pcids t (event_taken (as_read c).linear_width (reader_of r) x) b ≡ b))
      all = refused_out (event_taken (as_read c).linear_width (reader_of r) x)

      go : (finished : Bool) → finishes (as_read c).linear_width (reader_of r) x ≡ finished
          → ((flat_taken r c kinds pcids t x (length b)).step ≡ refused (flat_taken r c kinds pcids t x (length b)).finished 0 c)
          × (((flat_taken r c kinds pcids t x (length b)).kinds ≡ kinds)
          × ((flat_taken_pcids r c kinds pcids t x (length b) ≡ pcids) × (flat_taken_written r c kinds pcids t x b ≡ b)))
      go true is = (rw (is, all.0), (rw (is, all.0), (rw is all.1.0, rw is all.1.1)))
      go false is = (rw is, (rw is, (rw is, rw is)))

  -- so of a cut record
  pub unknown_finished : (flat_finished r c t).answer ≡ (flat_finished r c t).finished
  unfolding flat_finished finished_of
  unknown_finished = go (counts_as_ignoring (as_read c).linear_width (reader_of r)) (eqb (reader_of r).length 0) refl refl
    where
      one : cut_answer (as_read c) t ≡ 1
      one =
          let is = table_grounds_out_of_range (as_read c) t out in
          cut_answer_some (as_read c) t (λ none. omega arith) ∙ is

      go : (ignores none : Bool) → counts_as_ignoring (as_read c).linear_width (reader_of r) ≡ ignores → eqb (reader_of r).length 0 ≡ none → (flat_finished r c t).answer ≡ (flat_finished r c t).finished
      go true none is size = rw is
      go false true is size = rw (is, size)
      go false false is size = rw (is, size, one)
