-- Two runs that call each other, the number of bits left falling at each call. Each keeps `Along`: the bits run so far, from the line as it came, gave
-- the line and the output at hand.
use Rattle.std.proofs.Common.{◌≡◌, ◌-◌, ◌<◌}
use Rattle.line.proofs.Running.{Along}
use Rattle.line.proofs.run.+dark_run_scan_run.Given as goal

abbrev pub decreases-dark_run : goal.decreases-dark_run
decreases-dark_run l = l.n

abbrev pub decreases-scan_run : goal.decreases-scan_run
decreases-scan_run l = l.n

abbrev pub invariant-dark_run-loop-i : goal.invariant-dark_run-loop-i
invariant-dark_run-loop-i l = Along l.input l.initial.output l.from l.n l.initial.h l.end l.output l.h l.i × (0 < l.h.line.left)

abbrev pub decreases-dark_run-loop-i : goal.decreases-dark_run-loop-i
decreases-dark_run-loop-i l = l.end - l.i

abbrev pub invariant-scan_run-loop-i : goal.invariant-scan_run-loop-i
invariant-scan_run-loop-i l = Along l.input l.initial.output l.from l.n l.initial.h l.end l.output l.h l.i × (l.h.line.left ≡ 0)

abbrev pub decreases-scan_run-loop-i : goal.decreases-scan_run-loop-i
decreases-scan_run-loop-i l = l.end - l.i
