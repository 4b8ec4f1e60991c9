-- Bits that hold nothing.
use Rattle.std.specs.Prelude.{ℕ, Bool, true, false, cond, List, [], ◌∷◌, eqb}

-- nothing but zeros
unfoldable pub blank : List ℕ → Bool
blank [] = true
blank (x ∷ l) = cond (eqb x 0) (blank l) false
