use Rattle.line.specs.Good.{Good}
use Rattle.line.proofs.Running.{Along, going}
use Rattle.paced.proofs.closing.pass_on.Given as goal

abbrev pub invariant-loop-i : goal.invariant-loop-i
invariant-loop-i l = (g : Good l.initial.line) × (h : Good l.line) × Along l.q l.initial.output l.from l.n (going l.initial.line g) l.end l.output (going l.line h) l.i
