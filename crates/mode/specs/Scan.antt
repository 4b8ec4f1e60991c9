-- The earliest match in a stretch of line bits: a word in which the theorems on stretches are stated.
use Rattle.std.specs.Prelude.{Bool, true, false, cond, List, [], ◌∷◌, ◌++◌, ℕ, suc, ◌-◌, length}
use Rattle.mode.specs.Mode.{same, last}

-- how many of the bits were scanned, the window after them, and whether the last of them ended a pattern
pub record Scan : Type 0 where
  pub count : ℕ
  pub window : List ℕ
  pub found : Bool

abbrev pub more : Scan → Scan
more r = record { count = suc r.count; window = r.window; found = r.found }

-- scanning goes to the end of the earliest match, or through all the bits where there is none
unfoldable pub scan : List ℕ → List ℕ → List ℕ → Scan
scan pattern window [] = record { count = 0; window = window; found = false }
scan pattern window (v ∷ vs) =
    cond (same (window ++ (v ∷ [])) pattern)
    (record { count = 1; window = []; found = true })
    (more (scan pattern (last (length pattern - 1) (window ++ (v ∷ []))) vs))
