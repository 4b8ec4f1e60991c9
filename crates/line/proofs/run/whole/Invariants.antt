use Rattle.line.proofs.Running.{Along}
use Rattle.line.proofs.run.whole.Given as goal

abbrev pub invariant-loop-at : goal.invariant-loop-at
invariant-loop-at l = Along l.input l.initial.output 0 l.n l.initial.going l.n l.output l.going l.at
