-- Results as flat structs of numbers, for callers in other languages.
use Rattle.std.specs.Prelude.{ℕ, ◌≤◌, cond, List, ◌≡◌, Err, length, replicate}
use Rattle.model.specs.declared.Context.{Context}
use Rattle.model.specs.declared.Place.TheVariants.{Outside}
use Rattle.model.specs.declared.Address.{Address}
use Rattle.model.specs.Steps.{stepped, written}
use Rattle.model.specs.Lookups.{lookup_answer, lookup, lookup_start}
use Rattle.model.specs.Reasons.{explanation, explanation_number, explanation_answer, explanation_rule}
use Rattle.tables.specs.Counts.{table_counts}
use Rattle.counted_steps.specs.Steps.{counted_stepped, counted_pcids, counted_written}
use Rattle.claims.specs.declared.Values as Claims
use Rattle.claims.specs.declared.Judgement.TheVariants.{Refused}
use Rattle.claims.specs.Claims.{judgement, judgement_values}
use Rattle.walks.specs.declared.Outcome.{Outcome}
use Rattle.walks.specs.declared.Ground.TheVariants.{ContextOutOfRange}
use Rattle.walks.specs.Walks.{memory, ending_values, walk_of}
use Rattle.flat_contexts.specs.declared.FlatContext.{FlatContext}
use Rattle.flat_contexts.specs.Contexts.{is_known, unflatten, flatten}
use Rattle.flat_steps.specs.declared.FlatStep.{FlatStep}
use Rattle.flat_steps.specs.declared.FlatKinds.{FlatKinds}
use Rattle.flat_steps.specs.Steps.{refused, flat_result}
use Rattle.skuldrefn.specs.declared.FlatCountedStep.{FlatCountedStep}
use Rattle.skuldrefn.specs.declared.FlatCounts.{FlatCounts}
use Rattle.skuldrefn.specs.declared.FlatPart.{FlatPart}
use Rattle.skuldrefn.specs.declared.FlatReason.{FlatReason}
use Rattle.skuldrefn.specs.declared.FlatReplayed.{FlatReplayed}
use Rattle.skuldrefn.specs.declared.FlatWalk.{FlatWalk}
use Rattle.model.specs.Tables.{limit}
use Rattle.logs.specs.declared.Replayed.{Replayed}
use Rattle.logs.specs.Replays.{Replays, ByTheBook}

-- a step: answer 1 where a number stands for nothing
unfoldable pub flat_step : FlatContext → List ℕ → List ℕ → ℕ → FlatStep
flat_step c t e room = cond (is_known c) (flat_result c (stepped (unflatten c) t e room)) (refused 1 0 c)

-- the new buffer after it
unfoldable pub flat_written : FlatContext → List ℕ → List ℕ → List ℕ → List ℕ
flat_written c t e buffer = cond (is_known c) (written (unflatten c) t e buffer) buffer

-- the step beside a tally, whose result is that of a step and the counts by kind and span
unfoldable pub flat_counted_step : FlatContext → FlatKinds → List ℕ → List ℕ → List ℕ → ℕ → FlatCountedStep
flat_counted_step c kinds pcids t e room =
    let counted = counted_stepped (unflatten c) kinds.rows pcids t e room in
    cond (is_known c)
    (record { step = flat_result c counted.step; kinds = record { rows = counted.kinds } })
    (record { step = refused 1 0 c; kinds = kinds })

-- the counts by PCID after it, and the new buffer
unfoldable pub flat_counted_pcids : FlatContext → FlatKinds → List ℕ → List ℕ → List ℕ → ℕ → List ℕ
flat_counted_pcids c kinds pcids t e room = cond (is_known c) (counted_pcids (unflatten c) kinds.rows pcids t e room) pcids

unfoldable pub flat_counted_written : FlatContext → FlatKinds → List ℕ → List ℕ → List ℕ → List ℕ → List ℕ
flat_counted_written c kinds pcids t e buffer = cond (is_known c) (counted_written (unflatten c) kinds.rows pcids t e buffer) buffer

-- a fresh count
unfoldable pub flat_counts : ℕ → List ℕ → ℕ → FlatCounts
flat_counts width t n = record { answer = (table_counts width t n).answer; kinds = record { rows = (table_counts width t n).kinds } }

-- no part, with an answer
abbrev pub no_part : ℕ → FlatPart
no_part answer = record { answer = answer; start = 0; length = 0 }

-- a lookup: its answer, and where the part stands in the table
unfoldable pub flat_lookup : FlatContext → Address → List ℕ → ℕ → FlatPart
flat_lookup c a t k =
    cond (is_known c)
    (record {
      answer = lookup_answer (unflatten c) t;
      start = lookup_start (unflatten c) a t k;
      length = length (lookup (unflatten c) a t k);
    })
    (record { answer = 1; start = 0; length = 0 })

-- a reason: its number, its answer and its rule; a refusal with 1 where a number stands for nothing
unfoldable pub flat_explanation : FlatContext → List ℕ → List ℕ → FlatReason
flat_explanation c r e =
    cond (is_known c)
    (record {
      reason = explanation_number (explanation (unflatten c) r e);
      answer = explanation_answer (explanation (unflatten c) r e);
      rule = explanation_rule (explanation (unflatten c) r e);
    })
    (record { reason = 1; answer = 1; rule = 0 })

-- a judgement: a refusal with 1 where a number stands for nothing
unfoldable pub flat_judgement : FlatContext → List ℕ → List ℕ → List ℕ → Claims.Values
flat_judgement c t e claim = judgement_values (cond (is_known c) (judgement (unflatten c) t e claim) (Refused 1 0))

-- a walk: its ending, the entries read and the record; a context out of range where a number stands for nothing
abbrev pub flat_outcome : Outcome → FlatWalk
flat_outcome o = record { ending = ending_values o.ending; read = o.read; «record» = o.«record» }

unfoldable pub flat_walk : FlatContext → List ℕ → ℕ → ℕ → ℕ → ℕ → FlatWalk
flat_walk c image root eptp vpid address =
    flat_outcome
    (cond (is_known c)
    (walk_of (memory image) (unflatten c) root eptp vpid address)
    (record { ending = Err ContextOutOfRange; read = 0; «record» = replicate 22 0 }))

-- the context of a capability, N and a linear width after a reset
abbrev pub fresh : ℕ → ℕ → ℕ → Context
fresh capability width linear_width =
    record {
      capability = capability;
      width = width;
      linear_width = linear_width;
      pcid = 0;
      cpl = 0;
      place = Outside;
    }

-- what a replay leaves, as numbers
unfoldable pub flat_replayed : Replayed → FlatReplayed
flat_replayed r =
    record { context = flatten r.context; length = r.length; first = cond r.first 1 0; count = r.count }

-- a replay: the run's, for any buffers, and the book's for buffers of at least 47,104 bytes
pub record FlatReplays (c : Context) (log a b out : List ℕ) (r : FlatReplayed) (a' b' out' : List ℕ) : Type 0 where
  pub replayed : Replayed
  pub told : r ≡ flat_replayed replayed
  pub run : Replays c log a b out replayed a' b' out'
  pub book : limit ≤ length a → limit ≤ length b → ByTheBook c log out replayed a' b' out'
