-- Closing a record (01, "The tick", "Numbers given instead of bits"): the answer, the record and the output, on all inputs.
use Rattle.std.specs.Prelude.{Err, cond, List, ℕ, ◌+◌, ◌/◌, ltb, length}
use Rattle.bits.specs.Bits.{laid}
use Rattle.pace.specs.Tick.{closing as closing_of, closed}
use Rattle.refusal.specs.declared.Refusal.{Refusal}
use Rattle.line.specs.View.{rule_of}
use Rattle.paced.specs.declared.record.Paced.{Paced}
use Rattle.paced.specs.Answers.{counted, Ticked}
use Rattle.paced.specs.Answers.{Moved}
use Rattle.refusal.specs.Numbers.{outcome}
use Rattle.paced.specs.Tests.{faulty}
use Rattle.paced.specs.View.{viewed, keeping, shut}

-- the bits that closing writes: the ready ones, and then the waiting ones, passed
abbrev pub last_from : Paced → List ℕ
last_from p = closing_of (rule_of p.line) (viewed p)

-- the first of these that holds: a test for 9, closed, fewer bytes of output than the waiting and the ready bits need; else the bits written, and none waiting
unfoldable pub close_answer : Paced → List ℕ → Ticked
close_answer p output =
    cond (faulty p) (Err (Refusal.State))
    (cond p.closed (Err (Refusal.Closed))
    (cond (ltb (length output) ((p.waiting + p.ready + 7) / 8)) (Err (Refusal.Output))
    (counted (length (last_from p)) 0)))

-- a closed line holds nothing, and its line has taken all waiting bits
abbrev pub closing : Paced → List ℕ → Moved
closing p output = record {
  answer = close_answer p output;
  line = outcome (close_answer p output) (shut (keeping p (closed (rule_of p.line) (viewed p)))) p;
}

-- the output has these bits from its first bit on
abbrev pub close_writes : Paced → List ℕ → List ℕ
close_writes p output = outcome (close_answer p output) (laid output 0 (last_from p)) output
