-- Opening a paced line (01, "The tick", "Numbers given instead of bits"): the answer and the record, on all inputs.
use Rattle.std.specs.Prelude.{Result, Err}
use Rattle.std.specs.Prelude.{Bool, false, cond, List, ℕ, replicate}
use Rattle.pace.specs.Tick.{hold, opened as opened_holding}
use Rattle.refusal.specs.declared.Refusal.{Refusal}
use Rattle.refusal.specs.Numbers.{Answer, outcome, given}
use Rattle.line.specs.Free.{open_answer, fresh, zero_line}
use Rattle.line.specs.declared.record.Line.{Line}
use Rattle.line.specs.View.{rule_of, view}
use Rattle.paced.specs.declared.record.Paced.{Paced}
use Rattle.refusal.specs.declared.Reply.{Reply}
use Rattle.paced.specs.Tests.{too_fast}
use Rattle.paced.specs.View.{keeping}

-- the first of 1, 2 and 3 that holds, and then 4
abbrev rated : Answer → ℕ → ℕ → Answer
rated a l d = outcome a (cond (too_fast d l) (Err (Refusal.Rate)) a) a

unfoldable pub paced_answer : List ℕ → List ℕ → ℕ → ℕ → Answer
paced_answer key iv l d = rated (open_answer key iv l) l d

-- a line that paces and holds no bits
abbrev pub empty : Line → ℕ → ℕ → Paced
empty s d fillers = record { line = s; d = d; closed = false; ready = 0; waiting = 0; fillers = fillers; queue = replicate 60 0 }

-- it opens with M fillers, no waiting bits and no ready bits
abbrev pub fresh_paced : Line → ℕ → Paced
fresh_paced s d = keeping (empty s d 0) (opened_holding (rule_of s) (hold d) (view s))

-- a record of zeros, which every call refuses with 9, since its L is 0
abbrev pub zero_paced : Paced
zero_paced = empty zero_line 0 0

-- what an opening gives: the line, or why it is refused
abbrev pub opened : List ℕ → List ℕ → ℕ → ℕ → Bool → ℕ → Result Paced Refusal
opened key iv pattern l receiving d = given (paced_answer key iv l d) (fresh_paced (fresh key iv pattern l receiving) d)

-- what it replies: of a refused opening a record of zeros
abbrev pub opening : List ℕ → List ℕ → ℕ → ℕ → Bool → ℕ → Reply (Unit {0}) Paced
opening key iv pattern l receiving d = record {
  answer = paced_answer key iv l d;
  line = outcome (paced_answer key iv l d) (fresh_paced (fresh key iv pattern l receiving) d) zero_paced;
}
