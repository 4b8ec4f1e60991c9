-- A number's binary digits: they split where its quotient and remainder by a power of two do. So digits tell a number, and a number its digits. Assumes nothing.
--     digits_split      the digits above a place are those of the quotient
--     digits_at         each digit
--     number_digits, digits_number      one way and back
--     number_below      how large a number some digits make
use mathlib.Core.Path.{◌≡◌, refl, sym, ap, ◌∙◌}
use mathlib.Core.List.{List, [], ◌∷◌, ◌++◌, append_assoc, append-nil}
use Prim.Native.Nat.{ℕ, zero, suc, ◌+◌, ◌-◌, ◌*◌, ◌/◌, ◌%◌, ◌^◌, ◌<◌, ◌≤◌}
use native.Mathlib.Nat.{div-one, le_trans, mul-le-mul_right, mul_assoc, mul_comm}
use native.Mathlib.Omega.{arith}
use lib.ListN.{length, get_or, take, drop, length-append, get_or-append, replicate-append-replicate}
use lib.Seq.{take_at, drop_at, get_or_at}
use lib.Pow.{field, mod-mod-pow, shr-shr, pow-add}
use Rattle.bits.specs.Bits.{digits, number_on, number}
use Rattle.bits.proofs.Lists.{Small, zeros, small_append, small_one}

pub no_digits : (x : ℕ) → digits 0 x ≡ []
unfolding digits
no_digits x = refl

-- the last digit, behind those of the half
pub digits_more : (n x : ℕ) → digits (suc n) x ≡ digits n (x / 2) ++ (x % 2 ∷ [])
unfolding digits
digits_more n x = refl

pub length_digits : (n x : ℕ) → length (digits n x) ≡ n
unfolding digits
length_digits zero x = refl
length_digits (suc n) x = simp length-append (let e : length (digits n (x / 2)) ≡ n = length_digits n (x / 2) in omega arith)

pub digits_push : (n w v : ℕ) → v < 2 → digits (suc n) (w * 2 + v) ≡ digits n w ++ (v ∷ [])
unfolding digits
digits_push n w v h =
    let q : (w * 2 + v) / 2 ≡ w = omega arith in
    let r : (w * 2 + v) % 2 ≡ v = omega arith in
    rw (q, r)

-- the first a of n digits are those of the quotient, the last b those of the number
pub digits_split : (n a b x : ℕ) → n ≡ a + b → digits n x ≡ digits a (x / 2 ^ b) ++ digits b x
unfolding digits
digits_split n a zero x e =
    let q : n ≡ a = omega arith in
    rw (q, div-one x) (sym (append-nil (digits a x)))
digits_split zero a (suc b) x e = absurd (omega arith)
digits_split (suc n) a (suc b) x e =
    let k : 1 + b ≡ suc b = omega arith in
    let q : x / 2 / 2 ^ b ≡ x / 2 ^ suc b = rw k at (shr-shr x 1 b) in
    ap (λ (l : List ℕ). l ++ (x % 2 ∷ [])) (digits_split n a b (x / 2) (omega arith) ∙ ap (λ (y : ℕ). digits a y ++ digits b (x / 2)) q)
    ∙ append_assoc (digits a (x / 2 ^ suc b)) (digits b (x / 2)) (x % 2 ∷ [])

pub digits_take : (n a b x : ℕ) → n ≡ a + b → take a (digits n x) ≡ digits a (x / 2 ^ b)
digits_take n a b x e = ap (take a) (digits_split n a b x e) ∙ take_at (digits a (x / 2 ^ b)) (digits b x) a (length_digits a (x / 2 ^ b))

pub digits_last : (n a b x : ℕ) → n ≡ a + b → drop a (digits n x) ≡ digits b x
digits_last n a b x e = ap (drop a) (digits_split n a b x e) ∙ drop_at (digits a (x / 2 ^ b)) (digits b x) a (length_digits a (x / 2 ^ b))

pub digits_drop : (n x : ℕ) → drop 1 (digits (suc n) x) ≡ digits n x
digits_drop n x = digits_last (suc n) 1 n x (omega arith)

-- digit i, counted from the highest
pub digits_at : (n x i : ℕ) → i < n → get_or (digits n x) i 0 ≡ x / 2 ^ (n - 1 - i) % 2
unfolding digits
digits_at n x i h =
    let y : ℕ = x / 2 ^ (n - 1 - i) in
    ap (λ (l : List ℕ). get_or l i 0) (digits_split n (suc i) (n - 1 - i) x (omega arith))
    ∙ get_or-append (digits (suc i) y) (digits (n - 1 - i) x) 0 i (let e : length (digits (suc i) y) ≡ suc i = length_digits (suc i) y in omega arith)
    ∙ get_or_at (digits i (y / 2)) (y % 2) [] 0 i (length_digits i (y / 2))

pub digits_mod : (n x : ℕ) → digits n (x % 2 ^ n) ≡ digits n x
unfolding digits
digits_mod zero x = refl
digits_mod (suc n) x =
    let e : n + 1 ≡ suc n = omega arith in
    let q : x % 2 ^ suc n / 2 ≡ x / 2 % 2 ^ n = rw e at (field x n 1) in
    let r : x % 2 ^ suc n % 2 ≡ x % 2 = rw e at (mod-mod-pow x n 1) in
    rw (q, r, digits_mod n (x / 2))

pub digits_zero : (n : ℕ) → digits n 0 ≡ zeros n
unfolding digits
digits_zero zero = refl
digits_zero (suc n) =
    let e : n + 1 ≡ suc n = omega arith in
    ap (λ (l : List ℕ). l ++ (0 ∷ [])) (digits_zero n) ∙ replicate-append-replicate n 1 0 ∙ ap zeros e

pub small_digits : (n x : ℕ) → Small (digits n x)
unfolding digits
small_digits zero x i = omega arith
small_digits (suc n) x i = small_append (digits n (x / 2)) (x % 2 ∷ []) (small_digits n (x / 2)) (small_one (x % 2) (omega arith)) i

pub number_none : number [] ≡ 0
unfolding number_on
number_none = refl

number_append : (a : List ℕ) (b : List ℕ) (n : ℕ) → number_on n (a ++ b) ≡ number_on (number_on n a) b
unfolding number_on
number_append [] b n = refl
number_append (v ∷ a) b n = number_append a b (n * 2 + v)

pub number_digits : (n x : ℕ) → x < 2 ^ n → number (digits n x) ≡ x
unfolding digits number_on
number_digits zero x h = omega arith
number_digits (suc n) x h =
    number_append (digits n (x / 2)) (x % 2 ∷ []) 0
    ∙ ap (λ (k : ℕ). k * 2 + x % 2) (number_digits n (x / 2) (omega arith))
    ∙ (let e : x / 2 * 2 + x % 2 ≡ x = omega arith in e)

pub digits_same : (n x y : ℕ) → x < 2 ^ n → y < 2 ^ n → digits n x ≡ digits n y → x ≡ y
digits_same n x y hx hy e = sym (number_digits n x hx) ∙ ap number e ∙ number_digits n y hy

digits_number_on : (l : List ℕ) (k a n : ℕ) → Small l → n ≡ k + length l → digits n (number_on a l) ≡ digits k a ++ l
unfolding number_on
digits_number_on [] k a n h e = let q : n ≡ k = omega arith in rw q (sym (append-nil (digits k a)))
digits_number_on (v ∷ l) k a n h e =
    digits_number_on l (suc k) (a * 2 + v) n (λ i. h (suc i)) (omega arith)
    ∙ ap (λ (d : List ℕ). d ++ l) (digits_push k a v (h 0))
    ∙ append_assoc (digits k a) (v ∷ []) l

pub digits_number : (l : List ℕ) → Small l → digits (length l) (number l) ≡ l
unfolding digits
digits_number l h = digits_number_on l 0 0 (length l) h (omega arith)

-- the number that some binary digits make
number_on_below : (l : List ℕ) (a : ℕ) → Small l → number_on a l < (a + 1) * 2 ^ length l
unfolding number_on
number_on_below [] a h = omega arith
number_on_below (v ∷ l) a h =
    let v2 : v < 2 = h 0 in
    let P : ℕ = 2 ^ length l in
    let le : (a * 2 + v + 1) * P ≤ (a * 2 + 2) * P = mul-le-mul_right P (omega arith) in
    let q : suc (length l) ≡ length l + 1 = omega arith in
    let e : 2 ^ suc (length l) ≡ P * 2 = ap (λ (k : ℕ). 2 ^ k) q ∙ pow-add 2 (length l) 1 in
    let on : number_on (a * 2 + v) l < (a * 2 + v + 1) * P = number_on_below l (a * 2 + v) (λ i. h (suc i)) in
    let r : a * 2 + 2 ≡ (a + 1) * 2 = omega arith in
    let whole : (a * 2 + 2) * P ≡ (a + 1) * 2 ^ suc (length l) =
    ap (λ (k : ℕ). k * P) r ∙ mul_assoc (a + 1) 2 P ∙ ap (λ (k : ℕ). (a + 1) * k) (mul_comm 2 P ∙ sym e) in
    le_trans on (rw (← whole) le)

pub number_below : (l : List ℕ) → Small l → number l < 2 ^ length l
number_below l h = let b : number_on 0 l < (0 + 1) * 2 ^ length l = number_on_below l 0 h in omega (arith, b)
