-- What a function is told of an array of bytes that it is passed: its length, and that each element is a byte. Assumes nothing.
-- The fact stands at `c.well_formed.0` for the first parameter, at `c.well_formed.1.0` for the second; for a field of a struct that is passed first, at
-- `c.well_formed.0.1.1`, then `.1` for each field before it, then `.0`.
use mathlib.Core.Path.{◌≡◌}
use mathlib.Core.List.{List, [], ◌∷◌}
use Prim.Native.Nat.{ℕ, zero, suc}
use lib.ListN.{length}
use lib.Dec.{lit<}
use mir.Syntax.{w8}
use mir.Val.{Val}
use denote.Laws.{Is}
use denote.Plain.{UInt}
use denote.Array.{Array, each}
use denote.Shadow.{shadow}
use Rattle.bits.proofs.Lists.{Bytes}

each_bytes : (xs : List ℕ) (us : List Val) → shadow (each ℕ (UInt w8).own_val xs us) → Bytes xs
each_bytes [] [] s i = lit< tt
each_bytes [] (u ∷ us) s i = absurd s
each_bytes (x ∷ xs) [] s i = absurd s
each_bytes (x ∷ xs) (u ∷ us) s zero = s.0.1
each_bytes (x ∷ xs) (u ∷ us) s (suc i) = each_bytes xs us s.1 i

module _ (n : ℕ) (xs : List ℕ) (vs : List Val) (p : Is (Array (UInt w8) n) xs vs) where
  pub array_length : length xs ≡ n
  array_length = p.1.0.1

  pub array_bytes : Bytes xs
  array_bytes = each_bytes xs p.0 p.1.1
