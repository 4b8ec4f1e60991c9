-- A free line for a host (01, "The equipment covered"): what the calls on a line give, between loading the record and storing it.
use Rattle.std.specs.Prelude.{Bool, not, cond, List, ℕ, eqb, leb, length}
use Rattle.refusal.specs.Numbers.{number_of, outcome}
use Rattle.refusal.specs.declared.Reply.{Reply}
use Rattle.line.specs.declared.record.Line.{Line}
use Rattle.line.specs.Free.{opening, running, written}
use Rattle.tisarqluk.specs.FreeRecord.{line_in, stored_free, holds_free}

-- what a buffer holds after a call on a line: the line that it gave, and on a refusal what it held
abbrev pub kept : Reply (Unit {0}) Line → List ℕ → List ℕ
kept r s = outcome r.answer (stored_free r.line s) s

-- direction: 0 sends, any other receives
abbrev pub receives : ℕ → Bool
receives direction = not (eqb direction 0)

-- ---- opening: a buffer that is too short is refused 9, before anything else

abbrev pub opened_answer : List ℕ → List ℕ → List ℕ → ℕ → ℕ → ℕ → ℕ
opened_answer s key iv pattern l direction = cond (leb 58 (length s)) (number_of (opening key iv pattern l (receives direction)).answer) 9

abbrev pub opened_buffer : List ℕ → List ℕ → List ℕ → ℕ → ℕ → ℕ → List ℕ
opened_buffer s key iv pattern l direction = cond (leb 58 (length s)) (kept (opening key iv pattern l (receives direction)) s) s

-- ---- a run: so is one whose bytes stand for no free line's record

abbrev pub ran_answer : List ℕ → ℕ → List ℕ → List ℕ → ℕ
ran_answer s n input output = cond (holds_free s) (number_of (running (line_in s) n input output).answer) 9

abbrev pub ran_buffer : List ℕ → ℕ → List ℕ → List ℕ → List ℕ
ran_buffer s n input output = cond (holds_free s) (kept (running (line_in s) n input output) s) s

abbrev pub ran_output : List ℕ → ℕ → List ℕ → List ℕ → List ℕ
ran_output s n input output = cond (holds_free s) (written (line_in s) n input output) output
