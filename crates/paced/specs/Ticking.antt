-- A tick on a record (01, "The tick", "Numbers given instead of bits"): the answer, the record and the output, on all inputs.
use Rattle.std.specs.Prelude.{Err, cond, List, ℕ, ◌+◌, ◌/◌, ltb, length}
use Rattle.bits.specs.Bits.{part, laid}
use Rattle.pace.specs.Tick.{Held, written, ticked}
use Rattle.refusal.specs.declared.Refusal.{Refusal}
use Rattle.line.specs.View.{rule_of}
use Rattle.paced.specs.declared.record.Paced.{Paced}
use Rattle.paced.specs.Answers.{counted, Ticked}
use Rattle.paced.specs.Answers.{Moved}
use Rattle.refusal.specs.Numbers.{outcome}
use Rattle.paced.specs.Tests.{faulty}
use Rattle.paced.specs.View.{viewed, keeping}

-- the line bits that a tick writes
abbrev pub leaving_from : Paced → List ℕ
leaving_from p = written (rule_of p.line) p.d (viewed p)

-- what the line holds after a tick with the first D bits of the input
abbrev pub held_after : (p : Paced) → List ℕ → Held (rule_of p.line)
held_after p input = ticked (rule_of p.line) p.d (viewed p) (part input 0 p.d)

-- the first of these that holds: a test for 9, closed, fewer bytes of input than D bits need, fewer of output; else the bits written and those waiting
unfoldable pub tick_answer : Paced → List ℕ → List ℕ → Ticked
tick_answer p input output =
    cond (faulty p) (Err (Refusal.State))
    (cond p.closed (Err (Refusal.Closed))
    (cond (ltb (length input) ((p.d + 7) / 8)) (Err (Refusal.Input))
    (cond (ltb (length output) ((p.d + 7) / 8)) (Err (Refusal.Output))
    (counted (length (leaving_from p)) (length (held_after p input).waiting)))))

abbrev pub ticking : Paced → List ℕ → List ℕ → Moved
ticking p input output = record {
  answer = tick_answer p input output;
  line = outcome (tick_answer p input output) (keeping p (held_after p input)) p;
}

-- the output has the line bits from its first bit on
abbrev pub tick_writes : Paced → List ℕ → List ℕ → List ℕ
tick_writes p input output = outcome (tick_answer p input output) (laid output 0 (leaving_from p)) output
