-- A paced line for a host (01, "The equipment covered"): what the calls on a line give, between loading the record and storing it.
use Rattle.std.specs.Prelude.{cond, List, ℕ, leb, length}
use Rattle.refusal.specs.Numbers.{number_of, outcome}
use Rattle.refusal.specs.declared.Reply.{Reply}
use Rattle.paced.specs.declared.record.Paced.{Paced}
use Rattle.paced.specs.Answers.{Ticked, Moved, bits_in, waiting_in}
use Rattle.paced.specs.Opening.{opening}
use Rattle.paced.specs.Ticking.{ticking, tick_writes}
use Rattle.paced.specs.Closing.{closing, close_writes}
use Rattle.tisarqluk.specs.declared.paced_calls.TqAnswer.{TqAnswer}
use Rattle.tisarqluk.specs.FreeCalls.{receives}
use Rattle.tisarqluk.specs.PacedRecord.{paced_in, stored_paced, holds_paced}

-- the answer of a tick or a closing as a host has it
abbrev pub answer_of : Ticked → TqAnswer
answer_of a = record { refusal = number_of a; bits = bits_in a; waiting = waiting_in a }

abbrev pub nine : TqAnswer
nine = record { refusal = 9; bits = 0; waiting = 0 }

-- what a buffer holds after a call on a line: the line that it gave, and on a refusal what it held
abbrev pub opened_kept : Reply (Unit {0}) Paced → List ℕ → List ℕ
opened_kept r s = outcome r.answer (stored_paced r.line s) s

abbrev pub moved_kept : Moved → List ℕ → List ℕ
moved_kept m s = outcome m.answer (stored_paced m.line s) s

-- ---- opening: a buffer that is too short is refused 9, before anything else

abbrev pub opened_answer : List ℕ → List ℕ → List ℕ → ℕ → ℕ → ℕ → ℕ → ℕ
opened_answer s key iv pattern l direction d = cond (leb 126 (length s)) (number_of (opening key iv pattern l (receives direction) d).answer) 9

abbrev pub opened_buffer : List ℕ → List ℕ → List ℕ → ℕ → ℕ → ℕ → ℕ → List ℕ
opened_buffer s key iv pattern l direction d = cond (leb 126 (length s)) (opened_kept (opening key iv pattern l (receives direction) d) s) s

-- ---- a tick: so is one whose bytes stand for no paced line's record

abbrev pub ticked_answer : List ℕ → List ℕ → List ℕ → TqAnswer
ticked_answer s input output = cond (holds_paced s) (answer_of (ticking (paced_in s) input output).answer) nine

abbrev pub ticked_buffer : List ℕ → List ℕ → List ℕ → List ℕ
ticked_buffer s input output = cond (holds_paced s) (moved_kept (ticking (paced_in s) input output) s) s

abbrev pub ticked_output : List ℕ → List ℕ → List ℕ → List ℕ
ticked_output s input output = cond (holds_paced s) (tick_writes (paced_in s) input output) output

-- ---- closing

abbrev pub closed_answer : List ℕ → List ℕ → TqAnswer
closed_answer s output = cond (holds_paced s) (answer_of (closing (paced_in s) output).answer) nine

abbrev pub closed_buffer : List ℕ → List ℕ → List ℕ
closed_buffer s output = cond (holds_paced s) (moved_kept (closing (paced_in s) output) s) s

abbrev pub closed_output : List ℕ → List ℕ → List ℕ
closed_output s output = cond (holds_paced s) (close_writes (paced_in s) output) output
