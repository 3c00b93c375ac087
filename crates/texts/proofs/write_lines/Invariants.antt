use Rattle.texts.proofs.Laws.Texts.{Telling}
use Rattle.texts.proofs.write_lines.Given as goal

abbrev pub invariant-loop : goal.invariant-loop
invariant-loop l = Telling l.initial.progress l.log l.initial.first l.initial.second l.initial.out l.end l.progress l.counter l.length l.first l.second l.out
