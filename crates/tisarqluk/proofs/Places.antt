-- Bytes at their places: a list is its parts, one after the other, and a part is found again where it stands. Assumes nothing.
use mathlib.Core.Path.{◌≡◌, refl, sym, ap, ◌∙◌}
use mathlib.Core.Bool.{Bool, true, false}
use mathlib.Core.List.{List, [], ◌∷◌, ◌++◌}
use Prim.Native.Nat.{ℕ, zero, suc, ◌+◌, ◌*◌, ◌/◌, ◌%◌, ◌≤◌, ◌<◌}
use native.Mathlib.Nat.{add-zero}
use native.Mathlib.Omega.{arith}
use lib.Dec.{eqb, leb}
use lib.ListN.{length, get_or, take, drop, take-append-drop}
use lib.Seq.{take_at, drop_at, drop-drop, drop-cons, get_or-drop}
use Rattle.tisarqluk.specs.FreeRecord.{flag}

module _ (s a r : List ℕ) (i k : ℕ) (e : drop i s ≡ a ++ r) (long : length a ≡ k) where
  -- a part that stands from byte i on, and what follows it
  pub here : take k (drop i s) ≡ a
  here = ap (take k) e ∙ take_at a r k long

  pub then : drop (i + k) s ≡ r
  then = sym (drop-drop k i s) ∙ ap (drop k) e ∙ drop_at a r k long

-- byte i + j is byte j of what stands from byte i on
pub at : (s r : List ℕ) (i j : ℕ) → drop i s ≡ r → get_or s (i + j) 0 ≡ get_or r j 0
at s r i j e = sym (get_or-drop i s j 0) ∙ ap (λ (l : List ℕ). get_or l j 0) e

-- the k bytes from byte i on, and what follows them
pub split : (k i : ℕ) (s : List ℕ) → take k (drop i s) ++ drop (i + k) s ≡ drop i s
split k i s = rw (← drop-drop k i s, take-append-drop)

abbrev pub each : ℕ → ℕ → List ℕ → List ℕ
each zero i s = []
each (suc k) i s = get_or s i 0 ∷ each k (suc i) s

-- the same, one by one
pub split_each : (k i : ℕ) (s : List ℕ) → i + k ≤ length s → each k i s ++ drop (i + k) s ≡ drop i s
split_each zero i s h = rw add-zero
split_each (suc k) i s h =
    let e : i + suc k ≡ suc i + k = omega arith in
    let lt : i < length s = omega arith in
    rw e (ap (λ (l : List ℕ). get_or s i 0 ∷ l) (split_each k (suc i) s (omega arith))) ∙ sym (drop-cons s i 0 lt)

-- ---- numbers of two bytes, and bools, in bytes

pub pair_high : (h l : ℕ) → l < 256 → (h * 256 + l) / 256 ≡ h
pair_high h l b = omega arith

pub pair_low : (h l : ℕ) → l < 256 → (h * 256 + l) % 256 ≡ l
pair_low h l b = omega arith

pub flag_eqb : (b : Bool) → eqb (flag b) 1 ≡ b
flag_eqb true = refl
flag_eqb false = refl

pub flag_leb : (b : Bool) → leb (flag b) 1 ≡ true
flag_leb true = refl
flag_leb false = refl

-- a byte of 0 or 1 is a bool's
pub eqb_flag : (n : ℕ) → n ≤ 1 → flag (eqb n 1) ≡ n
eqb_flag zero h = refl
eqb_flag (suc zero) h = refl
eqb_flag (suc (suc n)) h = absurd (omega arith)
