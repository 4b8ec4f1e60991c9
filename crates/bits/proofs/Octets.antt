-- Eight bits at a time, wherever they stand in their bytes. The bits still to come are the last q digits of one byte and then the bits of other bytes;
-- the first eight of them are digits of these two bytes as one number, and after them the next byte takes the first one's place. Assumes nothing.
use mathlib.Core.Path.{◌≡◌, refl, sym, ap, ◌∙◌}
use mathlib.Core.List.{List, [], ◌∷◌, ◌++◌, append_assoc, append-nil}
use Prim.Native.Nat.{ℕ, suc, ◌+◌, ◌-◌, ◌*◌, ◌/◌, ◌%◌, ◌^◌, ◌≤◌, ◌<◌}
use native.Mathlib.Nat.{mod-eq_of_lt}
use native.Mathlib.Omega.{arith}
use lib.ListN.{length, get_or, take, drop, set, length-drop, length-set, get_or-eq_default}
use lib.Seq.{take-length, take-append-le, drop-append-le, drop_at, drop-nil, drop-drop}
use Rattle.std.proofs.lemmas.List.{take_more_set}
use lib.Pow.{shr_le}
use Rattle.bits.specs.Bits.{bits_of, pack, digits}
use Rattle.bits.proofs.Lists.{Bytes, Alike, zeros, drop_first, alike_append, alike_zeros, bytes_drop}
use Rattle.bits.proofs.Digits.{length_digits, digits_split, digits_take, digits_last, digits_mod, digits_zero}
use Rattle.bits.proofs.Packed.{bits_byte, bits_drop, byte_digits, pack_alike}

-- the last q digits of a byte, and then the bits of others
abbrev pub coming : ℕ → ℕ → List ℕ → List ℕ
coming q high s = digits q high ++ bits_of s

module _ (q high low : ℕ) (s : List ℕ) (few : q ≤ 8) (byte : low < 256) where
  both : ℕ
  both = high * 256 + low

  -- the digits of the two bytes as one number
  low_digits : digits 8 both ≡ digits 8 low
  unfolding both
  low_digits = let e : (high * 256 + low) % 256 ≡ low % 256 = omega arith in sym (digits_mod 8 (high * 256 + low)) ∙ ap (digits 8) e ∙ digits_mod 8 low

  coming_octet : coming q high (low ∷ s) ≡ digits 8 (both / 2 ^ q) ++ coming q low s
  unfolding both
  coming_octet =
      let e : (high * 256 + low) / 256 ≡ high = omega arith in
      let one : digits q high ++ digits 8 low ≡ digits (q + 8) both = sym (digits_split (q + 8) q 8 both refl ∙ (λ i. digits q (e i) ++ low_digits i)) in
      let two : digits (q + 8) both ≡ digits 8 (both / 2 ^ q) ++ digits q both = digits_split (q + 8) 8 q both (omega arith) in
      let k : 8 ≡ (8 - q) + q = omega arith in
      let rest : digits q both ≡ digits q low = sym (digits_last 8 (8 - q) q both k) ∙ ap (drop (8 - q)) low_digits ∙ digits_last 8 (8 - q) q low k in
      ap (λ (l : List ℕ). digits q high ++ l) (bits_byte low s)
      ∙ sym (append_assoc (digits q high) (digits 8 low) (bits_of s))
      ∙ ap (λ (l : List ℕ). l ++ bits_of s) (one ∙ two ∙ ap (λ (l : List ℕ). digits 8 (both / 2 ^ q) ++ l) rest)
      ∙ append_assoc (digits 8 (both / 2 ^ q)) (digits q low) (bits_of s)

  pack_octet : (n : ℕ) → pack (suc n) (coming q high (low ∷ s)) ≡ (high * 256 + low) / 2 ^ q % 256 ∷ pack n (coming q low s)
  unfolding both pack
  pack_octet n =
      ap (pack (suc n)) coming_octet
      ∙ (λ i. byte_digits (both / 2 ^ q) (coming q low s) i ∷ pack n (drop_at (digits 8 (both / 2 ^ q)) (coming q low s) 8 (length_digits 8 (both / 2 ^ q)) i))

-- one octet, also where the bytes have run out
pub next_octet : (q high : ℕ) (s : List ℕ) (n : ℕ) → q ≤ 8 → Bytes s
    → pack (suc n) (coming q high s) ≡ (high * 256 + get_or s 0 0) / 2 ^ q % 256 ∷ pack n (coming q (get_or s 0 0) (drop 1 s))
unfolding bits_of
next_octet q high [] n few h =
    pack_alike (suc n) (coming q high []) (coming q high (0 ∷ [])) (alike_append (digits q high) [] (zeros 8) (λ i. sym (alike_zeros [] 8 i)))
    ∙ pack_octet q high 0 [] few (omega arith) n
next_octet q high (x ∷ s) n few h = pack_octet q high x s few (h 0) n

-- the bits from bit r of a byte on are its last 8 - r digits and then the bits of the bytes after it
coming_here : (s : List ℕ) (r : ℕ) → r ≤ 8 → Alike (coming (8 - r) (get_or s 0 0) (drop 1 s)) (drop r (bits_of s))
unfolding bits_of
coming_here [] r few i =
    ap (λ (l : List ℕ). get_or l i 0) (append-nil (digits (8 - r) 0) ∙ digits_zero (8 - r))
    ∙ alike_zeros [] (8 - r) i
    ∙ ap (λ (l : List ℕ). get_or l i 0) (sym (drop-nil r))
coming_here (x ∷ s) r few i =
    ap (λ (l : List ℕ). get_or l i 0)
    (sym
    (ap (drop r) (bits_byte x s)
    ∙ drop-append-le r (digits 8 x) (bits_of s) (omega (arith, length_digits 8 x))
    ∙ ap (λ (l : List ℕ). l ++ bits_of s) (digits_last 8 r (8 - r) x (omega arith))))

pub coming_from : (s : List ℕ) (j r : ℕ) → r ≤ 8 → Alike (coming (8 - r) (get_or s j 0) (drop (j + 1) s)) (drop (8 * j + r) (bits_of s))
coming_from s j r few i =
    (λ k. get_or (coming (8 - r) (sym (drop_first j s) k) (sym (drop-drop 1 j s) k)) i 0)
    ∙ coming_here (drop j s) r few i
    ∙ ap (λ (l : List ℕ). get_or (drop r l) i 0) (sym (bits_drop j s))
    ∙ ap (λ (l : List ℕ). get_or l i 0) (drop-drop r (8 * j) (bits_of s))

-- ---- a buffer filled octet by octet

-- the buffer d with its bytes from i on made of the bits r
abbrev pub filled : List ℕ → ℕ → List ℕ → List ℕ
filled d i r = take i d ++ pack (length d - i) r

-- all octets
pub fill_done : (d : List ℕ) (i : ℕ) (r : List ℕ) → i ≡ length d → filled d i r ≡ d
unfolding pack
fill_done d i r e = let z : length d - i ≡ 0 = omega arith in rw (z, e) (append-nil (take (length d) d) ∙ take-length d)

-- one octet more
pub fill_octet : (d s : List ℕ) (i q top low v : ℕ) → i < length d → q ≤ 8 → Bytes s
    → low ≡ get_or s i 0 → v ≡ (top * 256 + low) / 2 ^ q % 256
    → filled (set d i v) (i + 1) (coming q low (drop (i + 1) s)) ≡ filled d i (coming q top (drop i s))
fill_octet d s i q top low v lt few bytes el ev =
    let n : length d - i ≡ suc (length d - (i + 1)) = omega arith in
    let m : length (set d i v) - (i + 1) ≡ length d - (i + 1) = simp length-set in
    let first : get_or (drop i s) 0 0 ≡ low = drop_first i s ∙ sym el in
    let next : pack (length d - i) (coming q top (drop i s)) ≡ v ∷ pack (length d - (i + 1)) (coming q low (drop (i + 1) s)) =
    ap (λ (j : ℕ). pack j (coming q top (drop i s))) n
    ∙ next_octet q top (drop i s) (length d - (i + 1)) few (bytes_drop s i bytes)
    ∙ (λ j. (top * 256 + first j) / 2 ^ q % 256 ∷ pack (length d - (i + 1)) (coming q (first j) (drop-drop 1 i s j)))
    ∙ ap (λ (x : ℕ). x ∷ pack (length d - (i + 1)) (coming q low (drop (i + 1) s))) (sym ev) in
    (λ j. take_more_set d i v lt j ++ pack (m j) (coming q low (drop (i + 1) s)))
    ∙ append_assoc (take i d) (v ∷ []) (pack (length d - (i + 1)) (coming q low (drop (i + 1) s)))
    ∙ ap (λ (l : List ℕ). take i d ++ l) (sym next)

-- and where the bytes have run out
pub fill_zero : (d s : List ℕ) (i q top v : ℕ) → i < length d → length s ≤ i → q ≤ 8 → Bytes s → v ≡ (top * 256 + 0) / 2 ^ q % 256
    → filled (set d i v) (i + 1) (coming q 0 (drop (i + 1) s)) ≡ filled d i (coming q top (drop i s))
fill_zero d s i q top v lt past few bytes ev = fill_octet d s i q top 0 v lt few bytes (sym (get_or-eq_default s 0 past)) ev

-- the first e bits of a byte are the digits of its upper part
top_here : (s : List ℕ) (e : ℕ) → Bytes s → e ≤ 8 → e ≤ 8 * length s → digits e ((0 * 256 + get_or s 0 0) / 2 ^ (8 - e) % 256) ≡ take e (bits_of s)
unfolding digits bits_of
top_here [] e h few fits = let z : e ≡ 0 = omega arith in rw z
top_here (x ∷ s) e h few fits =
    let z : 0 * 256 + x ≡ x = omega arith in
    let y : x / 2 ^ (8 - e) % 256 ≡ x / 2 ^ (8 - e) = mod-eq_of_lt (omega (arith, shr_le x (8 - e), h 0)) in
    ap (λ (n : ℕ). digits e (n / 2 ^ (8 - e) % 256)) z
    ∙ ap (digits e) y
    ∙ sym (digits_take 8 e (8 - e) x (omega arith))
    ∙ sym (take-append-le e (digits 8 x) (bits_of s) (omega (arith, length_digits 8 x)))
    ∙ ap (take e) (sym (bits_byte x s))

pub top_bits : (d : List ℕ) (j e byte top : ℕ) → Bytes d → j ≤ length d → e ≤ 8 → 8 * j + e ≤ 8 * length d
    → byte ≡ get_or d j 0 → top ≡ (0 * 256 + byte) / 2 ^ (8 - e) % 256
    → digits e top ≡ take e (bits_of (drop j d))
top_bits d j e byte top h le few fits eb et =
    ap (digits e) (et ∙ ap (λ (x : ℕ). (0 * 256 + x) / 2 ^ (8 - e) % 256) (eb ∙ sym (drop_first j d)))
    ∙ top_here (drop j d) e (bytes_drop d j h) few (simp length-drop (omega arith))
