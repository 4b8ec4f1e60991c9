use mathlib.Core.Path.{◌≡◌}
use Prim.Native.Nat.{◌≤◌}
use Rattle.bits.specs.Bits.{part, laid}
use Rattle.paced.proofs.queue.copy.Given as goal

abbrev pub invariant-loop-i : goal.invariant-loop-i
invariant-loop-i l = (l.i ≤ l.n) × (l.output ≡ laid l.initial.output 0 (part l.q 0 l.i))
