-- Document 01, "Numbers given instead of bits": what AES of one block on byte slices answers, and what it leaves in the output.
-- Assumes nothing.
use Rattle.std.specs.Prelude.{ℕ, Ok, Err, cond, List, ◌++◌, eqb, ltb, length, take, drop}
use Rattle.refusal.specs.declared.Refusal.{Refusal}
use Rattle.refusal.specs.Numbers.{Answer, outcome}
use Rattle.aes.specs.Cipher.{aes128}

-- by the three lengths, the first of these that holds: the key is not 16 bytes, 1; fewer than 16 bytes of input, 6; or of room, 7
abbrev pub tried_of : ℕ → ℕ → ℕ → Answer
tried_of key input output =
    cond (eqb key 16)
    (cond (ltb input 16) (Err (Refusal.Input)) (cond (ltb output 16) (Err (Refusal.Output)) (Ok tt)))
    (Err (Refusal.Key))

abbrev pub answer : List ℕ → List ℕ → List ℕ → Answer
answer key input output = tried_of (length key) (length input) (length output)

-- the output: the block and then the bytes that were there, and unchanged on a refusal
abbrev pub after : List ℕ → List ℕ → List ℕ → List ℕ
after key input output = outcome (answer key input output) (aes128 key (take 16 input) ++ drop 16 output) output
