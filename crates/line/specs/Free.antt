-- Opening and running a free line (01, "The bit rule", "Numbers given instead of bits"): the answer, the record and the output, on all inputs.
use Rattle.std.specs.Prelude.{Result, Ok, Err, Bool, false, cond, ◌||◌, List, ℕ, ◌+◌, ◌/◌, eqb, ltb, length, replicate}
use Rattle.mode.specs.Rule.{after, outs}
use Rattle.bits.specs.Bits.{part, laid}
use Rattle.refusal.specs.declared.Refusal.{Refusal}
use Rattle.refusal.specs.declared.Reply.{Reply}
use Rattle.refusal.specs.Numbers.{Answer, outcome, given}
use Rattle.line.specs.declared.record.Line.{Line}
use Rattle.line.specs.View.{rule_of, view, holding}
use Rattle.line.specs.Tests.{faulty}

-- the first of these that holds: the key is not 16 bytes, the IV is not, L is 0 or above 11
unfoldable pub open_answer : List ℕ → List ℕ → ℕ → Answer
open_answer key iv l =
    cond (eqb (length key) 16)
    (cond (eqb (length iv) 16) (cond (ltb l 1 || ltb 11 l) (Err (Refusal.Blackout)) (Ok tt)) (Err (Refusal.Iv)))
    (Err (Refusal.Key))

-- a line's record: its first keystream block is AES of the IV itself; the window is empty, and no blackout has begun
abbrev pub fresh : List ℕ → List ℕ → ℕ → ℕ → Bool → Line
fresh key iv pattern l receiving = record {
  key = key;
  pattern = pattern;
  l = l;
  receiving = receiving;
  position = record { counter = iv; place = 0 };
  window = 0;
  seen = 0;
  left = 0;
  iv = replicate 16 0;
  collected = 0;
}

-- a record of zeros, which every call refuses with 9, since its L is 0
abbrev pub zero_line : Line
zero_line = fresh (replicate 16 0) (replicate 16 0) 0 0 false

-- what an opening gives: the line, or why it is refused
abbrev pub opened : List ℕ → List ℕ → ℕ → ℕ → Bool → Result Line Refusal
opened key iv pattern l receiving = given (open_answer key iv l) (fresh key iv pattern l receiving)

-- what it replies: of a refused opening a record of zeros
abbrev pub opening : List ℕ → List ℕ → ℕ → ℕ → Bool → Reply (Unit {0}) Line
opening key iv pattern l receiving = record {
  answer = open_answer key iv l;
  line = outcome (open_answer key iv l) (fresh key iv pattern l receiving) zero_line;
}

-- the first of these that holds: a test for 9, more than 524,288 bits, fewer bytes of input than the bits need, fewer of output
unfoldable pub run_answer : Line → ℕ → List ℕ → List ℕ → Answer
run_answer g n input output =
    cond (faulty g) (Err (Refusal.State))
    (cond (ltb 524288 n) (Err (Refusal.Bits))
    (cond (ltb (length input) ((n + 7) / 8)) (Err (Refusal.Input))
    (cond (ltb (length output) ((n + 7) / 8)) (Err (Refusal.Output)) (Ok tt))))

-- a run: the record holds the state that the bit rule reaches
abbrev pub running : Line → ℕ → List ℕ → List ℕ → Reply (Unit {0}) Line
running g n input output = record {
  answer = run_answer g n input output;
  line = outcome (run_answer g n input output) (holding g (after (rule_of g) (view g) (part input 0 n))) g;
}

-- and the output has the bits that come out, from its first bit on
abbrev pub written : Line → ℕ → List ℕ → List ℕ → List ℕ
written g n input output = outcome (run_answer g n input output) (laid output 0 (outs (rule_of g) (view g) (part input 0 n))) output
