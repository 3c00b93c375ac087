-- The counts of no records.
use mathlib.Core.Path.{sym}
use Rattle.tallies.specs.Tallies.{tabulate}
use Rattle.tally_rows.proofs.Laws.Rows.{kind_counts_nil}
use Rattle.tally_rows.proofs.no_rows.Goals as goal

pub returns : goal.returns
unfolding tabulate
returns c = sym kind_counts_nil
