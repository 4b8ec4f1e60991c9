-- The document's number and values of what a tick or a closing answers (01, "The tick", "Numbers given instead of bits").
use Rattle.std.specs.Prelude.{ℕ, Result, Ok, Err}
use Rattle.refusal.specs.declared.Refusal.{Refusal}
use Rattle.refusal.specs.declared.Reply.{Reply}
use Rattle.paced.specs.declared.record.Paced.{Paced}
use Rattle.paced.specs.declared.counts.Counts.{Counts}

-- what a tick or a closing answers, and with it the line after it
abbrev pub Ticked : Type 0
Ticked = Result Counts Refusal

abbrev pub Moved : Type 0
Moved = Reply Counts Paced

-- where the call was done: the number of line bits written, and the number of bits waiting
abbrev pub counted : ℕ → ℕ → Ticked
counted n w = Ok (record { bits = n; waiting = w })

-- these two numbers: on a refusal 0
abbrev pub bits_in : Ticked → ℕ
bits_in (Ok c) = c.bits
bits_in (Err r) = 0

abbrev pub waiting_in : Ticked → ℕ
waiting_in (Ok c) = c.waiting
waiting_in (Err r) = 0
