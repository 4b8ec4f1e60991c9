-- Bytes and their bits. A byte's bits are its eight digits, so bits packed and taken out again are these bits, and bytes taken apart and packed again are these bytes. Assumes nothing.
--     bits_byte, bits_drop, bits_append     the bits of a list, byte by byte
--     bit_at                                each bit
--     pack_append, pack_alike               packing goes by the bits, eight at a time
--     bits_pack, pack_bits, same-bits       one way and back
--     pack_past                             packed anew from some bit on
use mathlib.Core.Path.{◌≡◌, refl, sym, ap, ◌∙◌}
use mathlib.Core.List.{List, [], ◌∷◌, ◌++◌, append-nil}
use Prim.Native.Nat.{ℕ, zero, suc, ◌+◌, ◌-◌, ◌*◌, ◌/◌, ◌%◌, ◌^◌, ◌≤◌, ◌<◌}
use native.Mathlib.Nat.{zero-div, mod-lt, mod-eq_of_lt, div-div-eq-div-mul}
use native.Mathlib.Decide.{dec_lt}
use native.Mathlib.Omega.{arith}
use lib.ListN.{length, get_or, take, drop, length-take, drop_of_length-le, get_or-append, get_or-eq_default}
use lib.Seq.{ext_get_or, get_or-take, get_or-drop, drop_at, drop-nil, drop-drop, take-length}
use Rattle.bits.specs.Bits.{bits_of, byte_of, pack, digits, number_on, number}
use Rattle.bits.proofs.Lists.{Small, Bytes, Alike, zeros, alike_append, drop_first, listed, small_listed, get_d_listed, listed_same, small_drop}
use Rattle.bits.proofs.Digits.{length_digits, digits_at, digits_mod, number_digits, digits_number}

-- ---- the bits of bytes

pub no_bits : bits_of [] ≡ []
unfolding bits_of
no_bits = refl

-- a byte's bits are its digits
pub bits_byte : (x : ℕ) (s : List ℕ) → bits_of (x ∷ s) ≡ digits 8 x ++ bits_of s
unfolding bits_of digits
bits_byte x s = simp div-div-eq-div-mul

pub bits_one : (x : ℕ) → bits_of (x ∷ []) ≡ digits 8 x
unfolding bits_of
bits_one x = bits_byte x [] ∙ append-nil (digits 8 x)

pub length_bits : (s : List ℕ) → length (bits_of s) ≡ 8 * length s
unfolding bits_of
length_bits [] = refl
length_bits (x ∷ s) = let e : length (bits_of s) ≡ 8 * length s = length_bits s in omega arith

pub bits_append : (s t : List ℕ) → bits_of (s ++ t) ≡ bits_of s ++ bits_of t
unfolding bits_of
bits_append [] t = refl
bits_append (x ∷ s) t = rw (bits_append s t)

-- the bits from a byte on
pub bits_drop : (k : ℕ) (s : List ℕ) → drop (8 * k) (bits_of s) ≡ bits_of (drop k s)
unfolding bits_of
bits_drop zero s = refl
bits_drop (suc k) [] = drop-nil (8 * suc k)
bits_drop (suc k) (x ∷ s) =
    let e : 8 * suc k ≡ 8 + 8 * k = omega arith in
    ap (λ (n : ℕ). drop n (bits_of (x ∷ s))) e ∙ sym (drop-drop (8 * k) 8 (bits_of (x ∷ s))) ∙ bits_drop k s

bit_first : (s : List ℕ) (j : ℕ) → j < 8 → get_or (bits_of s) j 0 ≡ get_or s 0 0 / 2 ^ (7 - j) % 2
unfolding bits_of
bit_first [] j h = ap (λ (n : ℕ). n % 2) (sym (zero-div (2 ^ (7 - j))))
bit_first (x ∷ s) j h =
    ap (λ (l : List ℕ). get_or l j 0) (bits_byte x s)
    ∙ get_or-append (digits 8 x) (bits_of s) 0 j (let e : length (digits 8 x) ≡ 8 = length_digits 8 x in omega arith)
    ∙ digits_at 8 x j h

-- bit i is the one of weight 2 ^ (7 - i % 8) of byte i / 8
pub bit_at : (s : List ℕ) (i : ℕ) → get_or (bits_of s) i 0 ≡ get_or s (i / 8) 0 / 2 ^ (7 - i % 8) % 2
bit_at s i =
    let e : i ≡ 8 * (i / 8) + i % 8 = omega arith in
    ap (λ (n : ℕ). get_or (bits_of s) n 0) e
    ∙ sym (get_or-drop (8 * (i / 8)) (bits_of s) (i % 8) 0)
    ∙ ap (λ (l : List ℕ). get_or l (i % 8) 0) (bits_drop (i / 8) s)
    ∙ bit_first (drop (i / 8) s) (i % 8) (omega arith)
    ∙ ap (λ (x : ℕ). x / 2 ^ (7 - i % 8) % 2) (drop_first (i / 8) s)

pub small_bits : (s : List ℕ) → Small (bits_of s)
small_bits s i = rw bit_at (omega arith)

-- ---- bytes made of bits

byte_number : (r : List ℕ) → byte_of r ≡ number (listed 0 8 r)
unfolding number_on
byte_number r = omega arith

-- the byte that a number's last eight digits make, whatever follows them
pub byte_digits : (x : ℕ) (r : List ℕ) → byte_of (digits 8 x ++ r) ≡ x % 256
unfolding digits
byte_digits x r =
    byte_number (digits 8 x ++ r)
    ∙ ap number (sym (digits_mod 8 x))
    ∙ number_digits 8 (x % 256) (mod-lt x (omega arith))

-- the bits of the byte that bits make
byte_bit : (r : List ℕ) → Small r → (j : ℕ) → j < 8 → byte_of r / 2 ^ (7 - j) % 2 ≡ get_or r j 0
byte_bit r h j lt =
    sym (digits_at 8 (byte_of r) j lt)
    ∙ ap (λ (x : ℕ). get_or (digits 8 x) j 0) (byte_number r)
    ∙ ap (λ (l : List ℕ). get_or l j 0) (digits_number (listed 0 8 r) (small_listed 8 0 r h))
    ∙ get_d_listed 8 0 r j lt
    ∙ (let e : 0 + j ≡ j = omega arith in ap (λ (i : ℕ). get_or r i 0) e)

byte_small : (r : List ℕ) → Small r → byte_of r < 256
byte_small r h = omega (arith, h 0, h 1, h 2, h 3, h 4, h 5, h 6, h 7)

pub length_pack : (n : ℕ) (r : List ℕ) → length (pack n r) ≡ n
unfolding pack
length_pack zero r = refl
length_pack (suc n) r = ap suc (length_pack n (drop 8 r))

-- byte j is made of the bits from bit 8 * j on
pub pack_at : (n : ℕ) (r : List ℕ) (j : ℕ) → j < n → get_or (pack n r) j 0 ≡ byte_of (drop (8 * j) r)
unfolding pack
pack_at zero r j h = absurd (omega arith)
pack_at (suc n) r zero h = refl
pack_at (suc n) r (suc j) h =
    let e : 8 + 8 * j ≡ 8 * suc j = omega arith in
    pack_at n (drop 8 r) j (omega arith) ∙ ap byte_of (drop-drop (8 * j) 8 r ∙ ap (λ (k : ℕ). drop k r) e)

pub bytes_pack : (n : ℕ) (r : List ℕ) → Small r → Bytes (pack n r)
unfolding pack
bytes_pack zero r h i = omega arith
bytes_pack (suc n) r h zero = byte_small r h
bytes_pack (suc n) r h (suc i) = bytes_pack n (drop 8 r) (small_drop r 8 h) i

-- so many bytes, and then the others
pub pack_append : (m a b : ℕ) (r : List ℕ) → m ≡ a + b → pack m r ≡ pack a r ++ pack b (drop (8 * a) r)
unfolding pack
pack_append m zero b r e = let q : m ≡ b = omega arith in rw q
pack_append zero (suc a) b r e = absurd (omega arith)
pack_append (suc m) (suc a) b r e =
    let q : 8 + 8 * a ≡ 8 * suc a = omega arith in
    ap (λ (l : List ℕ). byte_of r ∷ l)
    (pack_append m a b (drop 8 r) (omega arith) ∙ ap (λ (l : List ℕ). pack a (drop 8 r) ++ pack b l) (drop-drop (8 * a) 8 r ∙ ap (λ (k : ℕ). drop k r) q))

pub drop_pack : (m a b : ℕ) (r : List ℕ) → m ≡ a + b → drop a (pack m r) ≡ pack b (drop (8 * a) r)
drop_pack m a b r e = ap (drop a) (pack_append m a b r e) ∙ drop_at (pack a r) (pack b (drop (8 * a) r)) a (length_pack a r)

-- n bytes go by the first 8 * n bits
pub pack_same : (n : ℕ) (r s : List ℕ) → ((i : ℕ) → i < 8 * n → get_or r i 0 ≡ get_or s i 0) → pack n r ≡ pack n s
unfolding pack
pack_same zero r s h = refl
pack_same (suc n) r s h =
    let e : byte_of r ≡ byte_of s = byte_number r ∙ ap number (listed_same 8 0 r s (λ j lt. h j (omega arith))) ∙ sym (byte_number s) in
    λ i. e i ∷ pack_same n (drop 8 r) (drop 8 s) (λ j lt. get_or-drop 8 r j 0 ∙ h (8 + j) (omega arith) ∙ sym (get_or-drop 8 s j 0)) i

pub pack_alike : (n : ℕ) (r s : List ℕ) → Alike r s → pack n r ≡ pack n s
pack_alike n r s h = pack_same n r s (λ i lt. h i)

pub pack_take : (n m : ℕ) (r : List ℕ) → 8 * n ≤ m → pack n (take m r) ≡ pack n r
pack_take n m r le = pack_same n (take m r) r (λ i lt. get_or-take m r i 0 (omega arith))

pub pack_front : (n : ℕ) (r s : List ℕ) → 8 * n ≤ length r → pack n (r ++ s) ≡ pack n r
pack_front n r s le = pack_same n (r ++ s) r (λ i lt. get_or-append r s 0 i (omega arith))

pub pack_none : (n : ℕ) → pack n [] ≡ zeros n
unfolding pack
pack_none zero = refl
pack_none (suc n) = ap (λ (l : List ℕ). 0 ∷ l) (pack_none n)

-- past the last bit there are zeros
pub pack_rest : (m k j : ℕ) (r : List ℕ) → m ≡ k + j → length r ≤ 8 * k → pack m r ≡ pack k r ++ zeros j
pack_rest m k j r e h = pack_append m k j r e ∙ ap (λ (l : List ℕ). pack k r ++ l) (ap (pack j) (drop_of_length-le r {i = 8 * k} h) ∙ pack_none j)

-- ---- one way and back

pub bits_pack_at : (n : ℕ) (r : List ℕ) (i : ℕ) → Small r → i < 8 * n → get_or (bits_of (pack n r)) i 0 ≡ get_or r i 0
bits_pack_at n r i h lt =
    let e : 8 * (i / 8) + i % 8 ≡ i = omega arith in
    bit_at (pack n r) i
    ∙ ap (λ (x : ℕ). x / 2 ^ (7 - i % 8) % 2) (pack_at n r (i / 8) (omega arith))
    ∙ byte_bit (drop (8 * (i / 8)) r) (small_drop r (8 * (i / 8)) h) (i % 8) (omega arith)
    ∙ get_or-drop (8 * (i / 8)) r (i % 8) 0
    ∙ ap (λ (j : ℕ). get_or r j 0) e

length_bits_pack : (n : ℕ) (r : List ℕ) → length (bits_of (pack n r)) ≡ 8 * n
length_bits_pack n r = length_bits (pack n r) ∙ ap (λ (k : ℕ). 8 * k) (length_pack n r)

-- the bits of the bytes that bits make are these bits
pub bits_pack : (n : ℕ) (r : List ℕ) → Small r → length r ≤ 8 * n → take (length r) (bits_of (pack n r)) ≡ r
bits_pack n r h le =
    ext_get_or 0 (take (length r) (bits_of (pack n r))) r
    (simp (length-take, length_bits_pack) (omega arith))
    (λ i lt. let k : i < length r = omega (arith, length-take (length r) (bits_of (pack n r))) in get_or-take (length r) (bits_of (pack n r)) i 0 k ∙ bits_pack_at n r i h (omega arith))

-- and zeros behind them
alike_bits : (n : ℕ) (x : List ℕ) → Small x → length x ≤ 8 * n → Alike (bits_of (pack n x)) x
alike_bits n x h le i =
    elim (dec_lt i (8 * n)) [
      | yes lt ↦ bits_pack_at n x i h lt
      | no ge ↦ get_or-eq_default (bits_of (pack n x)) 0 {n = i} (omega (arith, length_bits (pack n x), length_pack n x)) ∙ sym (get_or-eq_default x 0 {n = i} (omega arith))
    ]

-- behind other bits, the bits from j on and the zeros after them are packed as the bits from j on
pub pack_past : (n : ℕ) (p x : List ℕ) (j : ℕ) → Small x → length x ≤ 8 * n → pack n (p ++ drop j (bits_of (pack n x))) ≡ pack n (p ++ drop j x)
pack_past n p x j h le =
    pack_alike n (p ++ drop j (bits_of (pack n x))) (p ++ drop j x)
    (alike_append p (drop j (bits_of (pack n x))) (drop j x) (λ i. get_or-drop j (bits_of (pack n x)) i 0 ∙ alike_bits n x h le (j + i) ∙ sym (get_or-drop j x i 0)))

-- the bytes that the bits of bytes make are these bytes
pub pack_bits_take : (k : ℕ) (s : List ℕ) → Bytes s → k ≤ length s → pack k (bits_of s) ≡ take k s
unfolding pack bits_of
pack_bits_take zero s h le = refl
pack_bits_take (suc k) [] h le = absurd (omega arith)
pack_bits_take (suc k) (x ∷ s) h le =
    let e : byte_of (bits_of (x ∷ s)) ≡ x = ap byte_of (bits_byte x s) ∙ byte_digits x (bits_of s) ∙ mod-eq_of_lt (h 0) in
    λ i. e i ∷ pack_bits_take k s (λ j. h (suc j)) (omega arith) i

pub pack_bits : (s : List ℕ) → Bytes s → pack (length s) (bits_of s) ≡ s
pack_bits s h = pack_bits_take (length s) s h (omega arith) ∙ take-length s
