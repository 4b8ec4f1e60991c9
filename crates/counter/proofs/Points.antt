-- P1 to P5, by computation.
use mathlib.Core.Path.{refl}
use Rattle.bits.specs.Bits.{bits_of, pack}
use Rattle.counter.specs.Counter.{feedback, stepped, stepped_bytes}
use Rattle.counter.specs.Points.{P1, P2, P3, P4, P5}

pub p1_to_p5 : P1 × P2 × P3 × P4 × P5
unfolding bits_of pack feedback stepped stepped_bytes
p1_to_p5 = (refl, refl, refl, refl, refl)
