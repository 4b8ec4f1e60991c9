-- Laws of the step and of a position that is moved on. The step's bits are bits, so packing them loses nothing.
use mathlib.Core.Path.{◌≡◌, sym, ap, subst, ◌∙◌}
use mathlib.Core.List.{List, ◌∷◌, append-nil}
use Prim.Native.Nat.{ℕ, zero, suc, ◌+◌, ◌*◌, ◌/◌, ◌%◌, ◌<◌, ◌≤◌}
use native.Mathlib.Decide.{dec_lt}
use native.Mathlib.Omega.{arith}
use lib.ListN.{length, take}
use lib.Seq.{take_all, length-take-le}
use borrow.Author.Tests.{lt-ltb, le-ltb}
use Rattle.bits.specs.Bits.{bits_of, pack, wrote}
use Rattle.bits.proofs.Lists.{Small, Bytes, zeros, small_take}
use Rattle.bits.proofs.Packed.{length_bits, small_bits, length_pack, bytes_pack, bits_pack}
use Rattle.bits.proofs.Laid.{laid_is, wrote_laid}
use Rattle.counter.specs.declared.Position.{Position}
use Rattle.counter.specs.Counter.{feedback, stepped, stepped_bytes, advanced}

-- ---- the step on bits

pub feedback_bit : (c : List ℕ) → feedback c < 2
unfolding feedback
feedback_bit c = omega arith

pub small_stepped : (c : List ℕ) → Small c → Small (stepped c)
unfolding stepped
small_stepped c h zero = feedback_bit c
small_stepped c h (suc i) = small_take 127 c h i

pub length_stepped : (c : List ℕ) → length c ≡ 128 → length (stepped c) ≡ 128
unfolding stepped
length_stepped c e = ap suc (length-take-le 127 c (omega arith))

-- ---- the step on sixteen bytes

pub length_stepped_bytes : (c : List ℕ) → length (stepped_bytes c) ≡ 16
unfolding stepped_bytes
length_stepped_bytes c = length_pack 16 (stepped (bits_of c))

pub bytes_stepped_bytes : (c : List ℕ) → Bytes (stepped_bytes c)
unfolding stepped_bytes
bytes_stepped_bytes c = bytes_pack 16 (stepped (bits_of c)) (small_stepped (bits_of c) (small_bits c))

pub bits_stepped_bytes : (c : List ℕ) → length c ≡ 16 → bits_of (stepped_bytes c) ≡ stepped (bits_of c)
unfolding stepped_bytes
bits_stepped_bytes c e =
    let s : List ℕ = stepped (bits_of c) in
    let n : length s ≡ 128 = length_stepped (bits_of c) (omega (arith, length_bits c)) in
    sym (take_all (length s) (bits_of (pack 16 s)) (omega (arith, length_bits (pack 16 s), length_pack 16 s)))
    ∙ bits_pack 16 s (small_stepped (bits_of c) (small_bits c)) (omega arith)

-- the first 127 bits laid after the new r127
pub wrote_stepped : (c : List ℕ) → length c ≡ 16 → wrote (feedback (bits_of c) * 128 ∷ zeros 15) 1 c 127 ≡ stepped_bytes c
unfolding stepped stepped_bytes bits_of
wrote_stepped c e =
    let f : ℕ = feedback (bits_of c) in
    let r : List ℕ = take 127 (bits_of c) in
    let top : feedback (bits_of c) * 128 / 128 % 2 ≡ feedback (bits_of c) = omega (arith, feedback_bit (bits_of c)) in
    let n : length r ≡ 127 = length-take-le 127 (bits_of c) (omega (arith, length_bits c)) in
    wrote_laid (f * 128 ∷ zeros 15) 1 c 127 (omega arith) (omega arith)
    ∙ laid_is (f * 128 ∷ zeros 15) 1 r 16 (omega arith)
    ∙ append-nil (pack 16 (f * 128 / 128 % 2 ∷ r))
    ∙ ap (λ (x : ℕ). pack 16 (x ∷ r)) top

-- ---- one keystream bit

pub advanced_in_block : (p : Position) → p.place < 127 → advanced p ≡ record { counter = p.counter; place = p.place + 1 }
unfolding advanced
advanced_in_block p h = simp (lt-ltb _ _ h)

pub advanced_at_end : (p : Position) → 127 ≤ p.place → advanced p ≡ record { counter = stepped_bytes p.counter; place = 0 }
unfolding advanced
advanced_at_end p h = simp (le-ltb _ _ h)

-- what holds in both cases holds of the position moved on
pub advanced_cases : (P : Position → Type 0) (p : Position) → (p.place < 127 → P (record { counter = p.counter; place = p.place + 1 }))
    → (127 ≤ p.place → P (record { counter = stepped_bytes p.counter; place = 0 })) → P (advanced p)
advanced_cases P p f g = go (dec_lt p.place 127)
  where
    go : Dec (p.place < 127) → P (advanced p)
    go (yes h) = subst P (sym (advanced_in_block p h)) (f h)
    go (no h) = subst P (sym (advanced_at_end p (omega arith))) (g (omega arith))

-- 01's test for 9 on the place, and the length of the counter, are kept
pub place_in_block : (p : Position) → (advanced p).place < 128
place_in_block p = advanced_cases (λ (q : Position). q.place < 128) p (λ h. omega arith) (λ h. omega arith)

pub length_advanced : (p : Position) → length p.counter ≡ 16 → length (advanced p).counter ≡ 16
length_advanced p e = advanced_cases (λ (q : Position). length q.counter ≡ 16) p (λ h. e) (λ h. length_stepped_bytes p.counter)

pub bytes_advanced : (p : Position) → Bytes p.counter → Bytes (advanced p).counter
bytes_advanced p b = advanced_cases (λ (q : Position). Bytes q.counter) p (λ h. b) (λ h. bytes_stepped_bytes p.counter)
