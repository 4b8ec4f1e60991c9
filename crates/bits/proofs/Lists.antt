-- Lists of bits and of bytes, and when two lists are the same but for zeros at their ends. Each fact goes by the elements. Assumes nothing.
--     Small, Bytes      every element is a bit, a byte
--     Alike             the same elements, where those past the end count as 0
use mathlib.Core.Path.{◌≡◌, refl, sym, ap, ◌∙◌}
use mathlib.Core.List.{List, [], ◌∷◌, ◌++◌}
use Prim.Native.Nat.{ℕ, zero, suc, ◌+◌, ◌≤◌, ◌<◌}
use native.Mathlib.Decide.{dec_lt}
use native.Mathlib.Omega.{arith}
use lib.ListN.{length, get_or, take, drop, replicate, length-take, drop_of_length-le, get_or-eq_default}
use lib.Seq.{get_or-take, get_or-drop, drop-cons}

-- every element is below n
abbrev pub Under : ℕ → List ℕ → Type 0
Under n r = (i : ℕ) → get_or r i 0 < n

-- every element is a bit
abbrev pub Small : List ℕ → Type 0
Small r = Under 2 r

-- every element is a byte
abbrev pub Bytes : List ℕ → Type 0
Bytes s = Under 256 s

abbrev pub zeros : ℕ → List ℕ
zeros n = replicate n 0

pub drop_first : (j : ℕ) (l : List ℕ) → get_or (drop j l) 0 0 ≡ get_or l j 0
drop_first j l = let z : j + 0 ≡ j = omega arith in get_or-drop j l 0 0 ∙ ap (λ (n : ℕ). get_or l n 0) z

module _ (n : ℕ) (pos : 0 < n) where
  under_drop : (r : List ℕ) (k : ℕ) → Under n r → Under n (drop k r)
  under_drop r k h i = rw get_or-drop (h (k + i))

  under_take : (k : ℕ) (r : List ℕ) → Under n r → Under n (take k r)
  under_take zero r h i = pos
  under_take (suc k) [] h i = pos
  under_take (suc k) (x ∷ r) h zero = h zero
  under_take (suc k) (x ∷ r) h (suc i) = under_take k r (λ j. h (suc j)) i

  under_append : (r s : List ℕ) → Under n r → Under n s → Under n (r ++ s)
  under_append [] s h g i = g i
  under_append (x ∷ r) s h g zero = h zero
  under_append (x ∷ r) s h g (suc i) = under_append r s (λ j. h (suc j)) g i

  under_one : (v : ℕ) → v < n → Under n (v ∷ [])
  under_one v h zero = h
  under_one v h (suc i) = pos

pub small_drop : (r : List ℕ) (k : ℕ) → Small r → Small (drop k r)
small_drop = under_drop 2 (omega arith)

pub small_take : (k : ℕ) (r : List ℕ) → Small r → Small (take k r)
small_take = under_take 2 (omega arith)

pub small_append : (r s : List ℕ) → Small r → Small s → Small (r ++ s)
small_append = under_append 2 (omega arith)

-- and of each of the two
pub small_left : (x y : List ℕ) → Small (x ++ y) → Small x
small_left [] y h i = omega arith
small_left (a ∷ x) y h zero = h zero
small_left (a ∷ x) y h (suc i) = small_left x y (λ j. h (suc j)) i

pub small_right : (x y : List ℕ) → Small (x ++ y) → Small y
small_right [] y h = h
small_right (a ∷ x) y h = small_right x y (λ j. h (suc j))

pub small_one : (v : ℕ) → v < 2 → Small (v ∷ [])
small_one = under_one 2 (omega arith)

pub bytes_drop : (s : List ℕ) (k : ℕ) → Bytes s → Bytes (drop k s)
bytes_drop = under_drop 256 (omega arith)

pub bytes_take : (k : ℕ) (s : List ℕ) → Bytes s → Bytes (take k s)
bytes_take = under_take 256 (omega arith)

pub bytes_append : (r s : List ℕ) → Bytes r → Bytes s → Bytes (r ++ s)
bytes_append = under_append 256 (omega arith)

-- the n elements of s from place k on, 0 past its end
abbrev pub listed : ℕ → ℕ → List ℕ → List ℕ
listed k zero s = []
listed k (suc n) s = get_or s k 0 ∷ listed (suc k) n s

pub get_d_listed : (n k : ℕ) (s : List ℕ) (j : ℕ) → j < n → get_or (listed k n s) j 0 ≡ get_or s (k + j) 0
get_d_listed zero k s j h = absurd (omega arith)
get_d_listed (suc n) k s zero h = let e : k ≡ k + 0 = omega arith in ap (λ (i : ℕ). get_or s i 0) e
get_d_listed (suc n) k s (suc j) h =
    let e : suc k + j ≡ k + suc j = omega arith in
    get_d_listed n (suc k) s j (omega arith) ∙ ap (λ (i : ℕ). get_or s i 0) e

pub small_listed : (n k : ℕ) (s : List ℕ) → Small s → Small (listed k n s)
small_listed zero k s h i = omega arith
small_listed (suc n) k s h zero = h k
small_listed (suc n) k s h (suc i) = small_listed n (suc k) s h i

pub listed_same : (n k : ℕ) (r s : List ℕ) → ((j : ℕ) → j < k + n → get_or r j 0 ≡ get_or s j 0) → listed k n r ≡ listed k n s
listed_same zero k r s h = refl
listed_same (suc n) k r s h = λ i. h k (omega arith) i ∷ listed_same n (suc k) r s (λ j lt. h j (omega arith)) i

-- a list whose length is known, written out by its elements
pub spread : (n k : ℕ) (s : List ℕ) → k + n ≡ length s → drop k s ≡ listed k n s
spread zero k s e = drop_of_length-le s {i = k} (omega arith)
spread (suc n) k s e = drop-cons s k 0 (omega arith) ∙ ap (λ (l : List ℕ). get_or s k 0 ∷ l) (spread n (suc k) s (omega arith))

-- the same elements, where those past the end count as 0
abbrev pub Alike : List ℕ → List ℕ → Type 0
Alike r s = (i : ℕ) → get_or r i 0 ≡ get_or s i 0

pub alike_take : (r s : List ℕ) (k : ℕ) → ((i : ℕ) → i < k → get_or r i 0 ≡ get_or s i 0) → Alike (take k r) (take k s)
alike_take r s k h i =
    elim (dec_lt i k) [
      | yes lt ↦ get_or-take k r i 0 lt ∙ h i lt ∙ sym (get_or-take k s i 0 lt)
      | no le ↦ past r (omega arith) ∙ sym (past s (omega arith))
    ]
  where
    past : (l : List ℕ) → k ≤ i → get_or (take k l) i 0 ≡ 0
    past l le = get_or-eq_default (take k l) 0 {n = i} (simp length-take (omega arith))

pub alike_append : (p r s : List ℕ) → Alike r s → Alike (p ++ r) (p ++ s)
alike_append [] r s h i = h i
alike_append (x ∷ p) r s h zero = refl
alike_append (x ∷ p) r s h (suc i) = alike_append p r s h i

pub alike_zeros : (r : List ℕ) (k : ℕ) → Alike (r ++ zeros k) r
alike_zeros [] zero i = refl
alike_zeros [] (suc k) zero = refl
alike_zeros [] (suc k) (suc i) = alike_zeros [] k i
alike_zeros (x ∷ r) k zero = refl
alike_zeros (x ∷ r) k (suc i) = alike_zeros r k i
