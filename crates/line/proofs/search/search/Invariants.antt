use Rattle.line.proofs.Scanning.{Searching}
use Rattle.line.proofs.search.search.Given as goal

abbrev pub invariant-loop-i : goal.invariant-loop-i
invariant-loop-i l = Searching l.bits l.n l.initial.window.bits l.initial.window.seen l.pattern l.window.bits l.window.seen l.i
