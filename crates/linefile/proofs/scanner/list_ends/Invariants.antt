use Rattle.linefile.proofs.Listing.{Listing}
use Rattle.linefile.proofs.scanner.list_ends.Given as goal

abbrev pub invariant-loop-i : goal.invariant-loop-i
invariant-loop-i l = Listing l.s l.from l.n l.pattern l.l l.initial.d l.d l.scanner l.count l.i
