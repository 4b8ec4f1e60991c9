-- 01, "Tests for 9", for a paced line: those of its line, and those of D, the three counts and the queue.
use Rattle.std.specs.Prelude.{ℕ, ◌+◌, ◌-◌, ◌*◌, Bool, not, cond, ◌||◌, drop, ltb, eqb}
use Rattle.bits.specs.Bits.{bits_of}
use Rattle.bits.specs.Blank.{blank}
use Rattle.pace.specs.Tick.{hold}
use Rattle.line.specs.Tests.{faulty as line_faulty}
use Rattle.paced.specs.declared.record.Paced.{Paced}

-- what 4 refuses: D is 0, or D(L + 1) > 128L
abbrev pub too_fast : ℕ → ℕ → Bool
too_fast d l = eqb d 0 || ltb (128 * l) (d * (l + 1))

-- on an open line: waiting, ready and fillers not M together, or waiting above M - D
abbrev pub unbalanced : ℕ → ℕ → ℕ → ℕ → Bool
unbalanced d waiting ready fillers = not (eqb (waiting + ready + fillers) (hold d)) || ltb (hold d - d) waiting

-- on a closed one: any of the three not 0
abbrev pub leftover : ℕ → ℕ → ℕ → Bool
leftover waiting ready fillers = not (eqb waiting 0) || not (eqb ready 0) || not (eqb fillers 0)

abbrev pub miscounted : Paced → Bool
miscounted p = cond p.closed (leftover p.waiting p.ready p.fillers) (unbalanced p.d p.waiting p.ready p.fillers)

-- the last test is on what only this record has: the bits of the queue past those it holds, which are 0
unfoldable pub faulty : Paced → Bool
faulty p =
    line_faulty p.line
    || too_fast p.d p.line.l
    || miscounted p
    || not (blank (drop (p.ready + p.waiting) (bits_of p.queue)))
