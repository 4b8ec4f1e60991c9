-- 01, "Tests for 9", for a free line, in the document's order.
use Rattle.std.specs.Prelude.{ℕ, ◌-◌, ◌*◌, ◌/◌, ◌^◌, min, Bool, not, cond, ◌||◌, drop, ltb, eqb}
use Rattle.bits.specs.Bits.{bits_of}
use Rattle.bits.specs.Blank.{blank}
use Rattle.line.specs.declared.record.Line.{Line}

-- the smaller of 128 and the blackout bits already passed; none while scanning
abbrev pub due_in : Line → ℕ
due_in s = cond (ltb 0 s.left) (min 128 (128 * s.l - s.left)) 0

-- no window bits during a blackout, 7 at most otherwise
abbrev pub most_in : Line → ℕ
most_in s = cond (ltb 0 s.left) 0 7

-- the last two tests are on what only this record has: the window's number, which its count bounds, and the IV bits past those collected, which are 0
unfoldable pub faulty : Line → Bool
faulty s =
    ltb s.l 1 || ltb 11 s.l
    || ltb 127 s.position.place
    || ltb (128 * s.l) s.left
    || not (eqb s.collected (due_in s))
    || ltb (most_in s) s.seen
    || not (eqb (s.window / 2 ^ s.seen) 0)
    || not (blank (drop s.collected (bits_of s.iv)))
