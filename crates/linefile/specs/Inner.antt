-- What the functions inside tell each other. Nobody need believe this file: the public contracts cite nothing of it.
use Rattle.std.specs.Prelude.{◌≡◌, Bool, true, cond, [], ℕ, ◌*◌}
use Rattle.mode.specs.Mode.{Settings, State, step}
use Rattle.mode.specs.Ends.{silent, ended}
use Rattle.bits.specs.Bits.{digits}
use Rattle.linefile.specs.declared.scanner.Scanner.{Scanner}
use Rattle.linefile.specs.declared.scanner.Scanned.{Scanned}

-- the scanner's settings and state in the mode's words; it collects nothing
abbrev pub rules : ℕ → ℕ → Settings
rules pattern l = record { pattern = digits 8 pattern; collects = 0; lasts = 128 * l; sending = true }

abbrev pub held : Scanner → State (Unit {0})
held s = record { generator = tt; window = digits s.window.seen s.window.bits; left = s.left; collected = [] }

pub record Looked (s : Scanner) (b : Bool) (pattern l : ℕ) (r : Scanned) : Type 0 where
  pub state : held r.scanner ≡ step silent (rules pattern l) (held s) (cond b 1 0)
  pub match : r.found ≡ ended silent (rules pattern l) (held s) (cond b 1 0)
