use mathlib.Core.Path.{◌≡◌}
use lib.ListN.{length, drop}
use Rattle.bits.specs.Bits.{pack}
use Rattle.bits.proofs.Octets.{coming, filled}
use Rattle.bits.proofs.pour.Given as goal

abbrev pub invariant-loop-i : goal.invariant-loop-i
invariant-loop-i l =
    filled l.d l.i (coming l.q l.top (drop l.i l.s)) ≡ pack (length l.fn.d) (coming l.q l.high l.s)

abbrev pub invariant-loop-i-2 : goal.invariant-loop-i-2
invariant-loop-i-2 l =
    filled l.d l.i (coming l.q l.top (drop l.i l.s)) ≡ pack (length l.fn.d) (coming l.q l.high l.s)
