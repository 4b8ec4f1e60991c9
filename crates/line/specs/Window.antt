-- 01, "Scanning": what one more line bit makes of a window, on the bits that it holds.
use Rattle.std.specs.Prelude.{Bool, cond, List, [], ◌∷◌, ◌++◌, ℕ, Option, None, Some}
use Rattle.mode.specs.Mode.{same, last}
use Rattle.bits.specs.Bits.{digits}

-- the bits of a window that is kept as a number with its count
abbrev pub window_bits : ℕ → ℕ → List ℕ
window_bits seen bits = digits seen bits

-- the line bits seen, with one more
abbrev pub with_bit : ℕ → ℕ → Bool → List ℕ
with_bit seen bits b = window_bits seen bits ++ (cond b 1 0 ∷ [])

-- whether they are the pattern
abbrev pub ends : List ℕ → ℕ → Bool
ends l pattern = same l (digits 8 pattern)

-- the window from then on: the last 7 of them; and none where they are the pattern
unfoldable pub window_after : List ℕ → ℕ → Option (List ℕ)
window_after l pattern = cond (ends l pattern) None (Some (last 7 l))
