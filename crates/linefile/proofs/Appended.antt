-- Bits laid in goes of at most 128, one after the other, are laid as one.
use Rattle.std.proofs.Common.{◌≡◌, List, [], ◌++◌, ℕ, ◌+◌, ◌-◌, ◌*◌, ◌≤◌, min, length, refl, sym, ap, ◌∙◌, arith}
use Rattle.bits.specs.Bits.{pack, part, laid, wrote}
use Rattle.bits.proofs.Laid.{laid_laid, wrote_pack}
use Rattle.bits.proofs.Parts.{small_part, length_part, part_none, part_split}

module _ (d₀ : List ℕ) (at : ℕ) (s : List ℕ) (n : ℕ) where
  -- i bits are laid
  pub record Appended (d : List ℕ) (i : ℕ) : Type 0 where
    pub high : i ≤ n
    pub done : d ≡ laid d₀ at (part s 0 i)

  pub none_appended : laid d₀ at [] ≡ d₀ → Appended d₀ 0
  none_appended clean = record { high = omega arith; done = sym clean ∙ ap (laid d₀ at) (sym (part_none s 0 0 refl)) }

  -- m bits more, up to bit j
  pub more_appended : n ≤ 8 * length s → at + n ≤ 8 * length d₀ → (d b e : List ℕ) (i m j : ℕ) → Appended d i → length d ≡ length d₀ → m ≡ min (n - i) 128 → j ≡ i + m
      → b ≡ pack 16 (part s i m) → e ≡ wrote d (at + i) b m → e ≡ laid d₀ at (part s 0 j)
  more_appended there room d b e i m j a long few now eb ee =
      let li : length (part s 0 i) ≡ i = length_part s 0 i (omega (arith, there, a.high)) in
      let lm : length (part s i m) ≡ m = length_part s i m (omega (arith, there, a.high, few)) in
      let z : 0 + i ≡ i = omega arith in
      let k : at + i ≡ at + length (part s 0 i) = omega (arith, li) in
      ee
      ∙ ap (λ (c : List ℕ). wrote d (at + i) c m) eb
      ∙ wrote_pack d (at + i) (part s i m) m (small_part s i m) (sym lm) (omega (arith, few)) (omega (arith, long, room, a.high, few))
      ∙ (λ h. laid (a.done h) (k h) (part s i m))
      ∙ laid_laid d₀ at (part s 0 i) (part s i m) (small_part s 0 i) (omega (arith, room, a.high, li))
      ∙ ap (laid d₀ at) (ap (λ (h : ℕ). part s 0 i ++ part s h m) (sym z) ∙ sym (part_split s 0 i m) ∙ ap (part s 0) (sym now))
