use Rattle.std.proofs.Common.{◌*◌}
use Rattle.linefile.proofs.Pacing.{Pacing}
use Rattle.linefile.proofs.running.run_paced.Given as goal

abbrev pub invariant-loop-i : goal.invariant-loop-i
invariant-loop-i l = Pacing l.fn.contents.settings l.file (8 * l.fn.contents.start) l.fn.contents.count l.initial.output l.output l.going l.i
