-- The exclusive or of bytes is, bit by bit, the sum modulo 2.
use mathlib.Core.Path.{◌≡◌, refl, sym, ap, ◌∙◌}
use mathlib.Core.List.{List, [], ◌∷◌, ◌++◌}
use Prim.Native.Nat.{ℕ, zero, suc, ◌+◌, ◌/◌, ◌%◌, ◌<◌, ◌≤◌}
use native.Mathlib.Omega.{arith}
use native.Mathlib.Numerals.{add-one}
use lib.Bits.{bit_xor, differ, xor_step, xor_shr}
use lib.ListN.{length, get_or, take, drop, set, length-set}
use lib.Seq.{take-suc, take-suc-set, drop-set-lt, drop-cons, take_all}
use Rattle.mode.specs.Words.{plus}
use Rattle.mode.proofs.Streams.{plus_none, plus_one, plus_append}
use Rattle.bits.specs.Bits.{bits_of, digits}
use Rattle.bits.proofs.Digits.{no_digits, digits_more, length_digits}
use Rattle.bits.proofs.Packed.{no_bits, bits_byte}

-- ---- one bit, and one byte

differ_is : (x y : ℕ) → x < 2 → y < 2 → differ x y ≡ (x + y) % 2
differ_is zero zero hx hy = refl
differ_is zero (suc zero) hx hy = refl
differ_is zero (suc (suc y)) hx hy = absurd (omega arith)
differ_is (suc zero) zero hx hy = refl
differ_is (suc zero) (suc zero) hx hy = refl
differ_is (suc zero) (suc (suc y)) hx hy = absurd (omega arith)
differ_is (suc (suc x)) y hx hy = absurd (omega arith)

one_bit : (a b : ℕ) → bit_xor a b % 2 ≡ (a % 2 + b % 2) % 2
one_bit a b = let d : differ (a % 2) (b % 2) ≡ (a % 2 + b % 2) % 2 = differ_is (a % 2) (b % 2) (omega arith) (omega arith) in omega (arith, xor_step a b)

abbrev pub xors : List ℕ → List ℕ → List ℕ
xors [] b = []
xors (x ∷ a) [] = []
xors (x ∷ a) (y ∷ b) = bit_xor x y ∷ xors a b

digits_xor : (n x y : ℕ) → digits n (bit_xor x y) ≡ plus (digits n x) (digits n y)
digits_xor zero x y = no_digits (bit_xor x y) ∙ sym (ap (λ (l : List ℕ). plus l (digits 0 y)) (no_digits x) ∙ plus_none (digits 0 y))
digits_xor (suc n) x y =
    digits_more n (bit_xor x y)
    ∙ (λ i. (ap (digits n) (xor_shr x y 1) ∙ digits_xor n (x / 2) (y / 2)) i ++ (one_bit x y i ∷ []))
    ∙ sym
    ((λ i. plus (digits_more n x i) (digits_more n y i))
    ∙ plus_append (digits n (x / 2)) (digits n (y / 2)) (x % 2 ∷ []) (y % 2 ∷ []) (length_digits n (x / 2) ∙ sym (length_digits n (y / 2)))
    ∙ ap (λ (l : List ℕ). plus (digits n (x / 2)) (digits n (y / 2)) ++ l) (plus_one (x % 2) (y % 2)))

bits_xors : (a b : List ℕ) → length a ≡ length b → bits_of (xors a b) ≡ plus (bits_of a) (bits_of b)
bits_xors [] b e = no_bits ∙ sym (ap (λ (l : List ℕ). plus l (bits_of b)) no_bits ∙ plus_none (bits_of b))
bits_xors (x ∷ a) [] e = absurd (omega arith)
bits_xors (x ∷ a) (y ∷ b) e =
    bits_byte (bit_xor x y) (xors a b)
    ∙ (λ i. digits_xor 8 x y i ++ bits_xors a b (omega arith) i)
    ∙ sym
    ((λ i. plus (bits_byte x a i) (bits_byte y b i))
    ∙ plus_append (digits 8 x) (digits 8 y) (bits_of a) (bits_of b) (length_digits 8 x ∙ sym (length_digits 8 y)))

-- ---- the loop

length_xors : (a b : List ℕ) → length a ≡ length b → length (xors a b) ≡ length a
length_xors [] b e = refl
length_xors (x ∷ a) [] e = absurd (omega arith)
length_xors (x ∷ a) (y ∷ b) e = ap suc (length_xors a b (omega arith))

xors_at : (a b : List ℕ) (i : ℕ) → i < length a → length a ≡ length b → get_or (xors a b) i 0 ≡ bit_xor (get_or a i 0) (get_or b i 0)
xors_at [] b i h e = absurd (omega arith)
xors_at (x ∷ a) [] i h e = absurd (omega arith)
xors_at (x ∷ a) (y ∷ b) zero h e = refl
xors_at (x ∷ a) (y ∷ b) (suc i) h e = xors_at a b i (omega arith) (omega arith)

-- the first i bytes are summed, and the others stand as they came
pub record Summed (a b r : List ℕ) (i : ℕ) : Type 0 where
  pub high : i ≤ 16
  pub long_a : length a ≡ 16
  pub long_b : length b ≡ 16
  pub long : length r ≡ 16
  pub done : take i r ≡ take i (xors a b)
  pub rest : drop i r ≡ drop i a

module _ (a b r : List ℕ) (i : ℕ) (s : Summed a b r i) where
  pub summed_on : i < 16 → Summed a b (set r i (bit_xor (get_or r i 0) (get_or b i 0))) (i + 1)
  summed_on h =
      let v : ℕ = bit_xor (get_or r i 0) (get_or b i 0) in
      let both : length a ≡ length b = s.long_a ∙ sym s.long_b in
      let ir : i < length r = omega (arith, s.long) in
      let ia : i < length a = omega (arith, s.long_a) in
      let ix : i < length (xors a b) = omega (arith, length_xors a b both) in
      let e : get_or r i 0 ∷ drop (suc i) r ≡ get_or a i 0 ∷ drop (suc i) a = sym (drop-cons r i 0 ir) ∙ s.rest ∙ drop-cons a i 0 ia in
      let head : get_or r i 0 ≡ get_or a i 0 = ap (λ (l : List ℕ). get_or l 0 0) e in
      record {
        high = omega arith;
        long_a = s.long_a;
        long_b = s.long_b;
        long = length-set r i v ∙ s.long;
        done = rw (add-one i) (take-suc-set r i v ir
            ∙ (λ k. s.done k ++ ((ap (λ (x : ℕ). bit_xor x (get_or b i 0)) head ∙ sym (xors_at a b i ia both)) k ∷ []))
            ∙ sym (take-suc (xors a b) i 0 ix));
        rest = rw (add-one i) (drop-set-lt (suc i) r i v (omega arith) ∙ ap (λ (l : List ℕ). drop 1 l) e);
      }

  pub summed : 16 ≤ i → bits_of r ≡ plus (bits_of a) (bits_of b)
  summed h =
      let both : length a ≡ length b = s.long_a ∙ sym s.long_b in
      ap bits_of (sym (take_all i r (omega (arith, s.long))) ∙ s.done ∙ take_all i (xors a b) (omega (arith, length_xors a b both, s.long_a))) ∙ bits_xors a b both
