use Rattle.linefile.proofs.Appended.{Appended}
use Rattle.linefile.proofs.running.append.Given as goal

abbrev pub invariant-loop-i : goal.invariant-loop-i
invariant-loop-i l = Appended l.initial.output l.at l.s l.n l.output l.i
