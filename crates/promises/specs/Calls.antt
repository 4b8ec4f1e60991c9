-- Words for several calls: tests tried in an order, and a line run in several calls.
use Rattle.std.specs.Prelude.{Ok, Err, ◌≡◌, Bool, cond, List, [], ◌∷◌, ◌++◌, ℕ}
use Rattle.refusal.specs.declared.Refusal.{Refusal}
use Rattle.refusal.specs.Numbers.{Answer}
use Rattle.bits.specs.Bits.{part}
use Rattle.line.specs.declared.record.Line.{Line}
use Rattle.line.specs.Free.{run_answer, running, written}

-- a test, and the refusal that is given where it holds
pub record Test : Type 0 where
  pub holds : Bool
  pub refusal : Refusal

-- the tests are tried in order, and the first that holds decides
abbrev pub tried : List Test → Answer
tried [] = Ok tt
tried (t ∷ ts) = cond t.holds (Err t.refusal) (tried ts)

-- one call of a run: so many bits, the input, the output as it was lent
pub record Call : Type 0 where
  pub bits : ℕ
  pub input : List ℕ
  pub output : List ℕ

module _ where
  -- the line after some runs, each taking the record that the previous one gave
  abbrev pub line : Line → List Call → Line
  line g [] = g
  line g (c ∷ cs) = line (running g c.bits c.input c.output).line cs

  -- none of them is refused
  abbrev pub AllDone : Line → List Call → Type 0
  AllDone g [] = Unit {0}
  AllDone g (c ∷ cs) = (run_answer g c.bits c.input c.output ≡ Ok tt) × AllDone (running g c.bits c.input c.output).line cs

  -- all the bits given, and all the bits that stand in the outputs
  abbrev pub given : List Call → List ℕ
  given [] = []
  given (c ∷ cs) = part c.input 0 c.bits ++ given cs

  abbrev pub out : Line → List Call → List ℕ
  out g [] = []
  out g (c ∷ cs) = part (written g c.bits c.input c.output) 0 c.bits ++ out (running g c.bits c.input c.output).line cs
