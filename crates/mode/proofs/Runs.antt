-- Many bits under any rule: runs join, as many bits come out as go in, and what becomes of a blackout.
use mathlib.Core.Path.{◌≡◌, refl, ap}
use mathlib.Core.Logic.{◌⊎◌, inl, inr, ⊎_elim}
use mathlib.Core.List.{List, [], ◌∷◌, ◌++◌}
use Prim.Native.Nat.{ℕ, zero, suc, ◌+◌, ◌-◌, ◌*◌, ◌≤◌, ◌<◌}
use native.Mathlib.Omega.{arith}
use lib.ListN.{length, take}
use Rattle.mode.specs.Rule.{Rule, Blackout, after, outs}

module _ {A B : Type 0} (R : Rule A B) where
  pub after_append : (s : R.State) (xs ys : List A) → after R s (xs ++ ys) ≡ after R (after R s xs) ys
  after_append s [] ys = refl
  after_append s (x ∷ xs) ys = after_append (R.next s x) xs ys

  pub outs_append : (s : R.State) (xs ys : List A) → outs R s (xs ++ ys) ≡ outs R s xs ++ outs R (after R s xs) ys
  outs_append s [] ys = refl
  outs_append s (x ∷ xs) ys = ap (λ (l : List B). R.out s x ∷ l) (outs_append (R.next s x) xs ys)

  pub length_outs : (s : R.State) (xs : List A) → length (outs R s xs) ≡ length xs
  length_outs s [] = refl
  length_outs s (x ∷ xs) = ap suc (length_outs (R.next s x) xs)

  pub take_outs : (s : R.State) (xs : List A) (n : ℕ) → take n (outs R s xs) ≡ outs R s (take n xs)
  take_outs s xs zero = refl
  take_outs s [] (suc n) = refl
  take_outs s (x ∷ xs) (suc n) = ap (λ (l : List B). R.out s x ∷ l) (take_outs (R.next s x) xs n)

  module _ (L : ℕ) (law : Blackout R L) where
    -- in a blackout each bit takes one off
    pub left_down : (s : R.State) (xs : List A) (l : ℕ) → R.left s ≡ l + length xs → R.left (after R s xs) ≡ l
    left_down s [] l e = omega arith
    left_down s (x ∷ xs) l e = left_down (R.next s x) xs l (law.counts s x (l + length xs) (omega arith))

    -- from scanning at most one blackout begins within a block, and does not end there
    pub left_scan : (s : R.State) (xs : List A) → R.left s ≡ 0 → length xs ≤ 128
        → (R.left (after R s xs) ≡ 0) ⊎ (128 * L < R.left (after R s xs) + 128)
    left_scan s [] z h = inl z
    left_scan s (x ∷ xs) z h =
        ⊎_elim
        (λ stay. left_scan (R.next s x) xs stay (omega arith))
        (λ found. let d = left_down (R.next s x) xs (128 * L - length xs) (omega (arith, law.some)) in inr (omega (arith, law.some)))
        (law.scans s x z)
