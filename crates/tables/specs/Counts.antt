-- Document 02, Ask 7: a table judged beside a tally, and a fresh count of it.
use Rattle.std.specs.Prelude.{ℕ, Bool, false, cond, not, List, [], ◌∷◌, ◌++◌, Result, Ok, Err, eqb, length, replicate}
use Rattle.model.specs.declared.Refusal.{Refusal}
use Rattle.model.specs.Tables.{records}
use Rattle.model.specs.Answers.{first, stored_grounds}
use Rattle.model.specs.Refusals.{refusal_number}
use Rattle.tallies.specs.Tallies.{pcid_counts, cell_counts}
use Rattle.tally_rows.specs.declared.KindCounts.{KindCounts}
use Rattle.tally_rows.specs.Rows.{kind_counts, matching}
use Rattle.tables.specs.declared.CountedTable.{CountedTable}

-- what is told of an accepted table beside a tally
unfoldable pub counted_table : List KindCounts → List ℕ → List ℕ → CountedTable
counted_table kinds pcids t =
    record { records = length (records t); matching = matching kinds pcids (records t); cells = cell_counts (records t) }

-- what judging a table beside a tally tells, of a refused one too
pub record CountedJudged : Type 0 where
  pub answer : ℕ
  pub records : ℕ
  pub matching : Bool
  pub cells : List ℕ

-- the table is refused
abbrev pub judged_refusal : ℕ → CountedJudged
judged_refusal answer = record { answer = answer; records = 0; matching = false; cells = replicate 30 0 }

unfoldable pub counted_judged : ℕ → List ℕ → List KindCounts → List ℕ → CountedJudged
counted_judged width t kinds pcids =
    cond (eqb (first (stored_grounds width t)) 0)
    (record {
      answer = 0;
      records = length (records t);
      matching = matching kinds pcids (records t);
      cells = cell_counts (records t);
    })
    (judged_refusal (first (stored_grounds width t)))

-- which of these a result is
abbrev pub told_judged : Result CountedTable Refusal → CountedJudged
told_judged (Ok j) = record { answer = 0; records = j.records; matching = j.matching; cells = j.cells }
told_judged (Err why) = judged_refusal (refusal_number why)

-- what is told of a fresh count: the answer, and the counts by kind and span
pub record TableCounts : Type 0 where
  pub answer : ℕ
  pub kinds : List KindCounts

-- a table that is not counted
unfoldable pub uncounted : ℕ → TableCounts
uncounted answer = record { answer = answer; kinds = kind_counts [] }

-- 2 and 3 of the table, and 13, where there is not a count for each of the 4,096 PCIDs
unfoldable pub count_answer : ℕ → List ℕ → ℕ → ℕ
count_answer width t n = first (stored_grounds width t ++ ((13, not (eqb n 4096)) ∷ []))

unfoldable pub table_counts : ℕ → List ℕ → ℕ → TableCounts
table_counts width t n =
    cond (eqb (count_answer width t n) 0) (record { answer = 0; kinds = kind_counts (records t) }) (uncounted (count_answer width t n))

-- the counts by PCID after it
unfoldable pub table_pcid_counts : ℕ → List ℕ → List ℕ → List ℕ
table_pcid_counts width t pcids = cond (eqb (count_answer width t (length pcids)) 0) (pcid_counts (records t)) pcids
