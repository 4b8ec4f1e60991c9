-- What holds of the case that is taken, of the same lists, of the last bits.
use mathlib.Core.Path.{◌≡◌, refl, sym, ap}
use mathlib.Core.Bool.{Bool, true, false, true≢false, cond}
use mathlib.Core.List.{List, [], ◌∷◌, ◌++◌}
use Prim.Native.Nat.{ℕ, zero, suc, ◌<◌, ◌≤◌}
use native.Mathlib.Omega.{arith}
use lib.Dec.{eqb}
use lib.ListN.{length, take, drop, length-drop}
use borrow.Author.Tests.{eqb-true, eq-eqb}
use Rattle.mode.specs.Mode.{stage, last, same, Bits}

-- what holds of both holds of the one that a test picks
pub picked {ℓ} : {A : Type 0} (P : A → Type ℓ) (t : Bool) (x y : A) → (t ≡ true → P x) → (t ≡ false → P y) → P (cond t x y)
picked P true x y f g = f refl
picked P false x y f g = g refl

pub staged {ℓ} : {A : Type 0} (P : A → Type ℓ) (l : ℕ) (x y z : A) → (l ≡ 0 → P x) → (l ≡ 1 → P y) → (1 < l → P z) → P (stage l x y z)
staged P zero x y z f g h = f refl
staged P (suc zero) x y z f g h = g refl
staged P (suc (suc k)) x y z f g h = h (omega arith)

pub same_true : (a b : List ℕ) → same a b ≡ true → a ≡ b
unfolding same
same_true [] [] e = refl
same_true [] (y ∷ b) e = absurd (true≢false (sym e))
same_true (x ∷ a) [] e = absurd (true≢false (sym e))
same_true (x ∷ a) (y ∷ b) e =
    picked (λ (t : Bool). t ≡ true → x ∷ a ≡ y ∷ b) (eqb x y) (same a b) false
    (λ h q. let p : x ≡ y = eqb-true x y h in λ i. p i ∷ same_true a b q i)
    (λ h q. absurd (true≢false (sym q)))
    e

pub same_refl : (a : List ℕ) → same a a ≡ true
unfolding same
same_refl [] = refl
same_refl (x ∷ a) = rw (eq-eqb x x refl) (same_refl a)

pub same_false : (a b : List ℕ) → (a ≡ b → ⊥) → same a b ≡ false
same_false a b h = go (same a b) refl
  where
    go : (t : Bool) → same a b ≡ t → t ≡ false
    go true e = absurd (h (same_true a b e))
    go false e = refl

pub length_last : (n : ℕ) (l : List ℕ) → length (last n l) ≤ n
length_last n l = simp length-drop (omega arith)

pub take_take_append : (n : ℕ) (a b : List ℕ) → take n (take n a ++ b) ≡ take n (a ++ b)
take_take_append zero a b = refl
take_take_append (suc n) [] b = refl
take_take_append (suc n) (x ∷ a) b = ap (λ (l : List ℕ). x ∷ l) (take_take_append n a b)

-- ---- lists of bits

pub bits_drop : (n : ℕ) (l : List ℕ) → Bits l → Bits (drop n l)
bits_drop zero l h = h
bits_drop (suc n) [] h = h
bits_drop (suc n) (x ∷ l) h = bits_drop n l h.1

pub bits_take : (n : ℕ) (l : List ℕ) → Bits l → Bits (take n l)
bits_take zero l h = tt
bits_take (suc n) [] h = h
bits_take (suc n) (x ∷ l) h = (h.0, bits_take n l h.1)

pub bits_append : (a b : List ℕ) → Bits a → Bits b → Bits (a ++ b)
bits_append [] b h k = k
bits_append (x ∷ a) b h k = (h.0, bits_append a b h.1 k)
