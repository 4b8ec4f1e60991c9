-- Elements stored one after the other: where they lie they are read back, and everywhere else the list is as it was.
use mathlib.Core.Path.{◌≡◌, refl, sym, ap, ◌∙◌}
use mathlib.Core.Logic.{◌⊎◌, inl, inr}
use mathlib.Core.List.{List, [], ◌∷◌}
use Prim.Native.Nat.{ℕ, zero, suc, ◌+◌, ◌<◌, ◌≤◌}
use native.Mathlib.Omega.{arith}
use lib.ListN.{length, get_or, take, drop, set, length-set, length-take, length-drop}
use lib.Seq.{sets, get_or-set_same, get_or-set_other, get_or-take, get_or-drop, ext_get_or}

pub stored_outside : (vs l : List ℕ) (i k : ℕ) → (k < i) ⊎ (i + length vs ≤ k) → get_or (sets l i vs) k 0 ≡ get_or l k 0
stored_outside [] l i k h = refl
stored_outside (v ∷ vs) l i k (inl h) = stored_outside vs (set l i v) (suc i) k (inl (omega arith)) ∙ get_or-set_other l i k v 0 (λ e. omega arith)
stored_outside (v ∷ vs) l i k (inr h) = stored_outside vs (set l i v) (suc i) k (inr (omega arith)) ∙ get_or-set_other l i k v 0 (λ e. omega arith)

pub stored_inside : (vs l : List ℕ) (i j : ℕ) → i + length vs ≤ length l → j < length vs → get_or (sets l i vs) (i + j) 0 ≡ get_or vs j 0
stored_inside [] l i j h lt = absurd (omega arith)
stored_inside (v ∷ vs) l i zero h lt =
    let z : i + 0 ≡ i = omega arith in
    ap (λ (k : ℕ). get_or (sets (set l i v) (suc i) vs) k 0) z ∙ stored_outside vs (set l i v) (suc i) i (inl (omega arith)) ∙ get_or-set_same l i v 0 (omega arith)
stored_inside (v ∷ vs) l i (suc j) h lt =
    let z : i + suc j ≡ suc i + j = omega arith in
    ap (λ (k : ℕ). get_or (sets (set l i v) (suc i) vs) k 0) z ∙ stored_inside vs (set l i v) (suc i) j (omega (arith, length-set l i v)) (omega arith)

-- sixteen elements that stand in a list are what is taken there
pub taken : (s k : List ℕ) (i : ℕ) → length k ≡ 16 → i + 16 ≤ length s → ((j : ℕ) → j < 16 → get_or s (i + j) 0 ≡ get_or k j 0) → take 16 (drop i s) ≡ k
taken s k i hk hs same =
    let n : length (take 16 (drop i s)) ≡ 16 = simp (length-take, length-drop) (omega arith) in
    ext_get_or 0 (take 16 (drop i s)) k (n ∙ sym hk)
    (λ j lt. get_or-take 16 (drop i s) j 0 (omega (arith, n)) ∙ get_or-drop i s j 0 ∙ same j (omega (arith, n)))
