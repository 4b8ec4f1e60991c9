-- Words for several calls of a paced line: ticks, the record after them and the bits that stand in their outputs; any calls, and the record after them.
use Rattle.std.specs.Prelude.{Bool, cond, List, [], ◌∷◌, ◌++◌, ℕ, ◌+◌, ◌/◌, ◌≤◌, length}
use Rattle.bits.specs.Bits.{part}
use Rattle.paced.specs.declared.record.Paced.{Paced}
use Rattle.paced.specs.Answers.{bits_in}
use Rattle.paced.specs.Ticking.{tick_answer, ticking, tick_writes}
use Rattle.paced.specs.Closing.{closing}

-- one tick: the input, and the output as it was lent
pub record Turn : Type 0 where
  pub input : List ℕ
  pub output : List ℕ

-- buffers long enough for D bits on both sides
abbrev pub Roomy : ℕ → List Turn → Type 0
Roomy d [] = Unit {0}
Roomy d (c ∷ cs) = ((d + 7) / 8 ≤ length c.input) × ((d + 7) / 8 ≤ length c.output) × Roomy d cs

-- the bits given, tick by tick
abbrev pub inputs : ℕ → List Turn → List (List ℕ)
inputs d [] = []
inputs d (c ∷ cs) = part c.input 0 d ∷ inputs d cs

-- the record after some ticks, and all the line bits that they wrote
abbrev pub paced : Paced → List Turn → Paced
paced p [] = p
paced p (c ∷ cs) = paced (ticking p c.input c.output).line cs

abbrev pub wrote : Paced → List Turn → List ℕ
wrote p [] = []
wrote p (c ∷ cs) = part (tick_writes p c.input c.output) 0 (bits_in (tick_answer p c.input c.output)) ++ wrote (ticking p c.input c.output).line cs

-- any call: closing, or a tick, with the buffers as they were lent
pub record Act : Type 0 where
  pub closes : Bool
  pub input : List ℕ
  pub output : List ℕ

abbrev pub called : Paced → List Act → Paced
called p [] = p
called p (a ∷ acts) = called (cond a.closes (closing p a.output).line (ticking p a.input a.output).line) acts
