-- Renters apart over logs in fragments, proved: what fragments leave is what a counted run leaves on the events that it takes.
use Rattle.std.specs.Prelude.{ℕ, Bool, true, false, cond, ◌≡◌, refl, eqb, length}
use mathlib.Core.List.{List, [], ◌∷◌, ◌++◌, map}
use Rattle.std.proofs.Common.{sym, ap, ◌∙◌, arith}
use Rattle.model.specs.Tables.{joined}
use Rattle.readers.specs.Readers.{held_bytes, next_line}
use Rattle.runs.specs.Apart.{of_vpid, of_ep4ta, Alike}
use Rattle.counted_runs.specs.Runs.{CountedRun, counted_after, counted_of}
use Rattle.counted_runs.specs.Apart.{accepts}
use Rattle.counted_runs.proofs.Laws.Apart.{After, counted_alike_after}
use Rattle.logs.specs.Logs.{events_of}
use Rattle.streams.specs.Streams.{Stream, fed_all, finished}
use Rattle.streams.specs.AnyStart.{stops, until_stop, all_reported, events_fed, events_taken}
use Rattle.streams.specs.Apart.{Renters, accepted_lines, StreamsApart, StreamsRentersApart}
use Rattle.streams.proofs.Laws.AnyStart.{from_any_start_holds}

-- whether each event was accepted, of events one after another
accepted_all : CountedRun → List (List ℕ) → List Bool
accepted_all s [] = []
accepted_all s (e ∷ es) = accepts s e ∷ accepted_all (counted_after s e) es

accepted_reported : (line : ℕ) (s : CountedRun) (es : List (List ℕ)) → map (λ t. eqb t.report.answer 0) (all_reported line s es) ≡ accepted_all s es
unfolding all_reported accepted_all
accepted_reported line s [] = refl
accepted_reported line s (e ∷ es) = ap (λ bs. accepts s e ∷ bs) (accepted_reported (next_line line) (counted_after s e) es)

-- lists of yes and no
first_of : List Bool → Bool
first_of [] = false
first_of (b ∷ bs) = b

others_of : List Bool → List Bool
others_of [] = []
others_of (b ∷ bs) = bs

-- a run that takes no event is left as it was
taken_none : (s : CountedRun) (es : List (List ℕ)) → [] ≡ accepted_all s (until_stop s es) → counted_of s (until_stop s es) ≡ s
unfolding until_stop counted_of accepted_all
taken_none s [] none = refl
taken_none s (e ∷ es) none = absurd (omega (arith, ap length none))

module _ (test : List ℕ → Bool) where
  taken_alike : (s s' : CountedRun) (es : List (List ℕ)) → s.run.context ≡ s'.run.context → Alike test s.run.table s'.run.table
      → accepted_all s (until_stop s es) ≡ accepted_all s' (until_stop s' es)
      → Alike test (counted_of s (until_stop s es)).run.table (counted_of s' (until_stop s' es)).run.table
  unfolding until_stop counted_of accepted_all first_of others_of After
  taken_alike s s' [] context same both = same
  taken_alike s s' (e ∷ es) context same both =
      let after = counted_alike_after test s s' e context same (ap first_of both) in
      go (stops s e) (stops s' e) after.1 (ap others_of both) (λ rest. taken_alike (counted_after s e) (counted_after s' e) es after.0 after.1 rest)
    where
      r : CountedRun
      r = counted_after s e

      r' : CountedRun
      r' = counted_after s' e

      go : (stop stop' : Bool) → Alike test r.run.table r'.run.table
          → accepted_all r (cond stop [] (until_stop r es)) ≡ accepted_all r' (cond stop' [] (until_stop r' es))
          → (accepted_all r (until_stop r es) ≡ accepted_all r' (until_stop r' es) → Alike test (counted_of r (until_stop r es)).run.table (counted_of r' (until_stop r' es)).run.table)
          → Alike test (counted_of r (cond stop [] (until_stop r es))).run.table (counted_of r' (cond stop' [] (until_stop r' es))).run.table
      go true true alike rest others = alike
      go true false alike rest others = rw (taken_none r' es rest) alike
      go false true alike rest others = rw (taken_none r es (sym rest)) alike
      go false false alike rest others = others rest

  streams_log : (s s' : Stream) (xs xs' : List (List ℕ)) → Renters test s s' → joined xs ≡ joined xs'
      → accepted_lines (finished (fed_all s xs)) ≡ accepted_lines (finished (fed_all s' xs'))
      → Alike test (finished (fed_all s xs)).run.run.table (finished (fed_all s' xs')).run.run.table
  unfolding accepted_lines events_taken events_fed
  streams_log s s' xs xs' begun same_log both =
      let es = events_of s.run.run.context.linear_width (held_bytes s.reader ++ joined xs) in
      let here = from_any_start_holds s xs begun.full begun.awake in
      let there = from_any_start_holds s' xs' begun.full' begun.awake' in
      let same : events_fed s' xs' ≡ es = rw (begun.context, begun.held, same_log) in
      let lines : accepted_lines (finished (fed_all s xs)) ≡ accepted_all s.run (until_stop s.run es) =
      rw (here.told, begun.none) (accepted_reported s.reader.line s.run (until_stop s.run es)) in
      let lines' : accepted_lines (finished (fed_all s' xs')) ≡ accepted_all s'.run (until_stop s'.run es) =
      rw (there.told, begun.none', same) (accepted_reported s'.reader.line s'.run (until_stop s'.run es)) in
      rw (here.run, there.run, same) (taken_alike s.run s'.run es begun.context begun.tables (sym lines ∙ both ∙ lines'))

  pub streams_apart : StreamsApart test
  streams_apart = record { log = streams_log }

pub streams_renters_apart_holds : StreamsRentersApart
streams_renters_apart_holds = (λ vpid. streams_apart (of_vpid vpid), λ ep4ta. streams_apart (of_ep4ta ep4ta))
