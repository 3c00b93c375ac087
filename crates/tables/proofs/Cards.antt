-- Rows about a table judged beside a tally, and a fresh count of it (document 02, Ask 7), all under one statement.
use Rattle.std.specs.Prelude.{false, [], ◌∷◌, ◌≡◌, refl, replicate}
use Rattle.model.specs.Layouts.{kind_of, mapping_kind, body_of, length_of, field}
use Rattle.model.specs.Mappings.{mapping, fields_in_range, starts_record, record_length}
use Rattle.model.specs.Tables.{joined, cut, records_within, records, whole, of_width}
use Rattle.model.specs.Answers.{first, valid_table}
use Rattle.tally_rows.specs.Rows.{kind_counts}
use Rattle.tables.specs.Counts.{counted_judged, uncounted, count_answer, table_counts, table_pcid_counts}

-- Every row holds.
record Rows : Type 0 where
  -- a refused table has no records, matches no tally, and its counts are 0; a fresh count of it has 0 in every row
  refused : counted_judged 48 (0 ∷ []) [] [] ≡ record { answer = 3; records = 0; matching = false; cells = replicate 30 0 }
  refused_rows : table_counts 48 (0 ∷ []) 4096 ≡ record { answer = 3; kinds = kind_counts [] }
  -- 3 of the table before 13; then 4,096 counts for the PCIDs, no more and no less
  bad_first : count_answer 48 (0 ∷ []) 0 ≡ 3
  fewer : count_answer 48 [] 4095 ≡ 13
  exact : count_answer 48 [] 4096 ≡ 0
  more : count_answer 48 [] 4097 ≡ 13
  -- a refusal leaves the counts by PCID
  kept : table_pcid_counts 48 [] (7 ∷ []) ≡ 7 ∷ []

cards_hold : Rows
unfolding kind_of mapping_kind body_of length_of field mapping fields_in_range starts_record record_length joined cut records_within records whole of_width first valid_table counted_judged uncounted count_answer table_counts table_pcid_counts
cards_hold = record { refused = refl; refused_rows = refl; bad_first = refl; fewer = refl; exact = refl; more = refl; kept = refl }
