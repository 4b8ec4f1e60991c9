-- 01, "Numbers given instead of bits": the number of each refusal and of each answer.
use Rattle.std.specs.Prelude.{ℕ, Result, Ok, Err}
use Rattle.refusal.specs.declared.Refusal.{Refusal}
use Rattle.refusal.specs.declared.Reply.{Reply}

abbrev pub refusal_of : Refusal → ℕ
refusal_of (Refusal.Key) = 1
refusal_of (Refusal.Iv) = 2
refusal_of (Refusal.Blackout) = 3
refusal_of (Refusal.Rate) = 4
refusal_of (Refusal.Bits) = 5
refusal_of (Refusal.Input) = 6
refusal_of (Refusal.Output) = 7
refusal_of (Refusal.Closed) = 8
refusal_of (Refusal.State) = 9
refusal_of (Refusal.File) = 10

-- what a call answers that says no more than that it was done
abbrev pub Answer : Type 0
Answer = Result (Unit {0}) Refusal

-- an answer: 0 where the call was done
abbrev pub number_of : {T : Type 0} → Result T Refusal → ℕ
number_of (Ok x) = 0
number_of (Err r) = refusal_of r

-- what there is after a call that was done, and after one that was refused
abbrev pub outcome {ℓ} : {T : Type 0} {A : Type ℓ} → Result T Refusal → A → A → A
outcome (Ok r) x y = x
outcome (Err r) x y = y

-- what a call gives that has something to give where it is done
abbrev pub given : {T A : Type 0} → Result T Refusal → A → Result A Refusal
given (Ok r) x = Ok x
given (Err r) x = Err r

-- what an opening replies: the line that it opened, or in its place the one for a refused opening
abbrev pub replied : {L : Type 0} → Result L Refusal → L → Reply (Unit {0}) L
replied (Ok x) z = record { answer = Ok tt; line = x }
replied (Err r) z = record { answer = Err r; line = z }
