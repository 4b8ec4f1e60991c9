-- What `linerun` makes of a line file (01, "Line files and the two programs").
use Rattle.std.specs.Prelude.{Result, Ok, Err, cond, List, ℕ, ltb, length}
use Rattle.mode.specs.Rule.{outs}
use Rattle.bits.specs.Bits.{laid}
use Rattle.refusal.specs.declared.Refusal.{Refusal}
use Rattle.refusal.specs.Numbers.{Answer, outcome, given}
use Rattle.line.specs.declared.record.Line.{Line}
use Rattle.line.specs.Free.{fresh}
use Rattle.line.specs.View.{rule_of, view}
use Rattle.linefile.specs.declared.reader.Settings.{Settings}
use Rattle.linefile.specs.File.{count_of, bytes_for, settings_of, bits_of_file, read_answer}

-- the line that a file's settings open
abbrev pub line_of : Settings → Line
line_of c = fresh c.key c.iv c.pattern c.l c.receiving

-- the result bits: what the bit rule gives for the file's bits. By ticks and closing they are the same, since what closing writes after all ticks is the rest
abbrev pub result_bits : List ℕ → List ℕ
result_bits s = outs (rule_of (line_of (settings_of s))) (view (line_of (settings_of s))) (bits_of_file s)

-- 10, 3 and 4 as for every file, and then 7 where the output has fewer bytes than the bits need
unfoldable pub ran_answer : List ℕ → List ℕ → Answer
ran_answer s output =
    outcome (read_answer s) (cond (ltb (length output) (bytes_for (count_of s))) (Err (Refusal.Output)) (Ok tt)) (read_answer s)

-- the number of bits written, or why it is refused
abbrev pub ran : List ℕ → List ℕ → Result ℕ Refusal
ran s output = given (ran_answer s output) (count_of s)

-- the result bits stand in the output from its first bit on
abbrev pub result_left : List ℕ → List ℕ → List ℕ
result_left s output = outcome (ran_answer s output) (laid output 0 (result_bits s)) output
