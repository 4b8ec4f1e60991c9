-- A file's bits tick by tick: the pieces of D bits joined are the bits.
use mathlib.Core.Path.{◌≡◌, refl, sym, ap, ◌∙◌}
use mathlib.Core.List.{List, [], ◌∷◌, ◌++◌}
use Prim.Native.Nat.{ℕ, zero, suc, ◌+◌, ◌*◌, ◌≤◌}
use native.Mathlib.Omega.{arith}
use native.Mathlib.Nat.{suc-mul}
use lib.ListN.{length, length-append}
use Rattle.pace.specs.Ticks.{joined, Each}
use Rattle.pace.proofs.More.{joined_more, each_more}
use Rattle.bits.specs.Bits.{part}
use Rattle.bits.proofs.Parts.{length_part, part_none, part_split}

module _ (s : List ℕ) (from D : ℕ) where
  -- the first k pieces of D bits, from a bit on
  abbrev pub pieces : ℕ → List (List ℕ)
  pieces zero = []
  pieces (suc k) = pieces k ++ (part s (from + k * D) D ∷ [])

  pub pieces_joined : (k : ℕ) → joined (pieces k) ≡ part s from (k * D)
  pieces_joined zero = sym (part_none s from (0 * D) (omega arith))
  pieces_joined (suc k) =
      let e : k * D + D ≡ suc k * D = sym (suc-mul k D) in
      joined_more (pieces k) (part s (from + k * D) D)
      ∙ ap (λ (l : List ℕ). l ++ part s (from + k * D) D) (pieces_joined k)
      ∙ sym (part_split s from (k * D) D)
      ∙ ap (part s from) e

  pub pieces_length : (k : ℕ) → length (pieces k) ≡ k
  pieces_length zero = refl
  pieces_length (suc k) = length-append (pieces k) (part s (from + k * D) D ∷ []) ∙ (let e : length (pieces k) ≡ k = pieces_length k in omega (arith, e))

  pub pieces_each : (k : ℕ) → from + k * D ≤ 8 * length s → Each D (pieces k)
  pieces_each zero h = tt
  pieces_each (suc k) h =
      let e : k * D + D ≡ suc k * D = sym (suc-mul k D) in
      each_more D (pieces k) (part s (from + k * D) D) (pieces_each k (omega (arith, e))) (length_part s (from + k * D) D (omega (arith, e)))
