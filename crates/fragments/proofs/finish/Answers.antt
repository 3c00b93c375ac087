-- A reader that ignores, one that holds nothing, and a cut record.
use borrow.Author.Tests.{ne_eqb}
use mathlib.Core.Path.{sym, ◌∙◌}
use Rattle.fragments.specs.Fragments.{cut_answer, finished_of}
use Rattle.fragments.proofs.finish.Goals as goal

pub returns-then-is_ignoring : goal.returns-then-is_ignoring
unfolding finished_of
returns-then-is_ignoring c = rw (sym c.is_ignoring.ensures ∙ c.if-is_ignoring.true)

pub returns-then-reader-eq0 : goal.returns-then-reader-eq0
unfolding finished_of
returns-then-reader-eq0 c = rw (sym c.is_ignoring.ensures ∙ c.if-is_ignoring.false, c.end.ensures, c.if-reader-eq0.true)

pub returns : goal.returns
unfolding finished_of cut_answer
returns c =
    let r = c.args.reader in
    rw (sym c.is_ignoring.ensures ∙ c.if-is_ignoring.false, ne_eqb r.length 0 c.if-reader-eq0.false, c.report.ensures, c.number.ensures, c.refuse_invalid.ensures)
