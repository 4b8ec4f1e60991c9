use Rattle.line.proofs.Sums.{Summed}
use Rattle.line.proofs.cover.sum.Given as goal

abbrev pub invariant-loop-i : goal.invariant-loop-i
invariant-loop-i l = Summed l.initial.sum l.b l.sum l.i
