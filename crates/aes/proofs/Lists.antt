-- Laws of lists that several proofs cite: lists of four, lists made by index, and one list written over the front of another.
-- Assumes nothing.
use mathlib.Core.Path.{◌≡◌, refl, ap, sym, ◌∙◌}
use mathlib.Core.List.{List, [], ◌∷◌, ◌++◌}
use Prim.Native.Nat.{ℕ, zero, suc, ◌+◌, ◌<◌}
use native.Mathlib.Nat.{zero-add, add-zero, add-suc, suc-add, le_of_suc-le-suc, not-suc-le-zero}
use native.Mathlib.Numerals.{add-one}
use native.Mathlib.Omega.{arith}
use lib.ListN.{length, get_or, set, take, drop}
use lib.Seq.{paste-suc}
use Rattle.aes.specs.State.{four, many}

pub four_equal : {A : Type 0} {p q r s a b c d : A} → p ≡ a → q ≡ b → r ≡ c → s ≡ d → p ∷ q ∷ r ∷ s ∷ [] ≡ a ∷ b ∷ c ∷ d ∷ []
four_equal e f g h = rw (e, f, g, h)

-- a list of four, by its index
pub four_is : {A : Type 0} (l : List A) (d : A) → length l ≡ 4 → l ≡ four (λ i. get_or l i d)
four_is (p ∷ q ∷ r ∷ s ∷ []) d e = refl
four_is (p ∷ q ∷ r ∷ s ∷ t ∷ l) d e = absurd (omega (arith, e))
four_is [] d e = absurd (omega (arith, e))
four_is (p ∷ []) d e = absurd (omega (arith, e))
four_is (p ∷ q ∷ []) d e = absurd (omega (arith, e))
four_is (p ∷ q ∷ r ∷ []) d e = absurd (omega (arith, e))

-- the one at place i of k of a kind, from n on
pub many_at : {A : Type 0} (f : ℕ → A) (d : A) (n k i : ℕ) → i < k → get_or (many f n k) i d ≡ f (n + i)
many_at f d n zero i h = absurd (not-suc-le-zero h)
many_at f d n (suc k) zero h = ap f (sym (add-zero n))
many_at f d n (suc k) (suc i) h = many_at f d (suc n) k i (le_of_suc-le-suc h) ∙ ap f (suc-add n i ∙ sym (add-suc n i))

-- o is d with the first i elements of s over its front; so is o with element i of s set, for i + 1
pub front_more : {A : Type 0} (d s o : List A) (i : ℕ) (z : A) → i < length d → i < length s → o ≡ take i s ++ drop i d
    → set o i (get_or s i z) ≡ take (i + 1) s ++ drop (i + 1) d
front_more d s o i z hd hs e = rw (e, add-one) (simp zero-add at (paste-suc d 0 s i z (omega arith) hs))
