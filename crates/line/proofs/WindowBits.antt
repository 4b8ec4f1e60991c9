-- The window as a number with a count: what one line bit makes of it, over a pattern of any length n + 1. Bits that are fewer than the pattern's are not
-- the pattern; as many are, where the numbers are equal.
use Rattle.std.proofs.Common.{Option, None, Some}
use Rattle.std.specs.Option.{unwrap_or, is_some}
use mathlib.Core.Path.{◌≡◌, refl, sym, ap, subst, ◌∙◌}
use mathlib.Core.Bool.{Bool, true, false, cond, true≢false}
use mathlib.Core.List.{List, [], ◌∷◌, ◌++◌}
use lib.Dec.{eqb}
use Prim.Native.Nat.{ℕ, zero, suc, ◌+◌, ◌-◌, ◌*◌, ◌%◌, ◌^◌, ◌<◌, ◌≤◌}
use native.Mathlib.Omega.{arith}
use native.Mathlib.Numerals.{add-one}
use lib.ListN.{length, drop, length-append}
use Rattle.mode.specs.Mode.{same, last}
use Rattle.mode.specs.Scan.{more, scan}
use Rattle.mode.proofs.Scans.{scan_ends, scan_goes_on}
use Rattle.mode.proofs.Cases.{same_refl, same_false}
use Rattle.bits.specs.Bits.{digits, number}
use Rattle.line.specs.Window.{window_bits, with_bit, ends, window_after}
use Rattle.bits.proofs.Digits.{length_digits, number_digits, digits_push, digits_drop, digits_mod, digits_same}

module _ (n p : ℕ) where
  length_seen : (c w v : ℕ) → length (digits c w ++ (v ∷ [])) ≡ c + 1
  length_seen c w v = length-append (digits c w) (v ∷ []) ∙ ap (λ (k : ℕ). k + 1) (length_digits c w)

  -- the last n of k bits
  last_is : (c w v k : ℕ) → c + 1 - n ≡ k → last n (digits c w ++ (v ∷ [])) ≡ drop k (digits c w ++ (v ∷ []))
  last_is c w v k e =
      let d : length (digits c w ++ (v ∷ [])) - n ≡ k = omega (arith, length_seen c w v) in
      ap (λ (j : ℕ). drop j (digits c w ++ (v ∷ []))) d

  few_differ : (c w v : ℕ) → c < n → same (digits c w ++ (v ∷ [])) (digits (suc n) p) ≡ false
  few_differ c w v h =
      same_false (digits c w ++ (v ∷ [])) (digits (suc n) p)
      (λ e. let k : length (digits c w ++ (v ∷ [])) ≡ suc n = ap length e ∙ length_digits (suc n) p in omega (arith, length_seen c w v))

  few_moves : (c w v : ℕ) → c < n → v < 2 → last n (digits c w ++ (v ∷ [])) ≡ digits (suc c) (w * 2 + v)
  few_moves c w v h hv = last_is c w v 0 (omega arith) ∙ sym (digits_push c w v hv)

  full_same : (w v : ℕ) → w < 2 ^ n → v < 2 → w * 2 + v < 2 ^ suc n → p < 2 ^ suc n → w * 2 + v ≡ p → same (digits n w ++ (v ∷ [])) (digits (suc n) p) ≡ true
  full_same w v hw hv hx hp e =
      ap (λ (l : List ℕ). same l (digits (suc n) p)) (sym (digits_push n w v hv) ∙ ap (digits (suc n)) e) ∙ same_refl (digits (suc n) p)

  full_differ : (w v : ℕ) → v < 2 → w * 2 + v < 2 ^ suc n → p < 2 ^ suc n → (w * 2 + v ≡ p → ⊥) → same (digits n w ++ (v ∷ [])) (digits (suc n) p) ≡ false
  full_differ w v hv hx hp d =
      same_false (digits n w ++ (v ∷ [])) (digits (suc n) p) (λ e. d (digits_same (suc n) (w * 2 + v) p hx hp (digits_push n w v hv ∙ e)))

  full_moves : (w v : ℕ) → v < 2 → last n (digits n w ++ (v ∷ [])) ≡ digits n ((w * 2 + v) % 2 ^ n)
  full_moves w v hv =
      last_is n w v 1 (omega arith) ∙ ap (drop 1) (sym (digits_push n w v hv)) ∙ digits_drop n (w * 2 + v) ∙ sym (digits_mod n (w * 2 + v))

  -- one bit of a scan, on the numbers
  fits : length (digits (suc n) p) - 1 ≡ n
  fits = omega (arith, length_digits (suc n) p)

  pub scan_few : (c w v : ℕ) (vs : List ℕ) → c < n → v < 2
      → scan (digits (suc n) p) (digits c w) (v ∷ vs) ≡ more (scan (digits (suc n) p) (digits (suc c) (w * 2 + v)) vs)
  scan_few c w v vs h hv =
      scan_goes_on (digits (suc n) p) (digits c w) v vs (few_differ c w v h)
      ∙ ap (λ (k : ℕ). more (scan (digits (suc n) p) (last k (digits c w ++ (v ∷ []))) vs)) fits
      ∙ ap (λ (l : List ℕ). more (scan (digits (suc n) p) l vs)) (few_moves c w v h hv)

  pub scan_hit : (w v : ℕ) (vs : List ℕ) → w < 2 ^ n → v < 2 → w * 2 + v < 2 ^ suc n → p < 2 ^ suc n → w * 2 + v ≡ p
      → scan (digits (suc n) p) (digits n w) (v ∷ vs) ≡ record { count = 1; window = []; found = true }
  scan_hit w v vs hw hv hx hp e = scan_ends (digits (suc n) p) (digits n w) v vs (full_same w v hw hv hx hp e)

  pub scan_miss : (w v : ℕ) (vs : List ℕ) → v < 2 → w * 2 + v < 2 ^ suc n → p < 2 ^ suc n → (w * 2 + v ≡ p → ⊥)
      → scan (digits (suc n) p) (digits n w) (v ∷ vs) ≡ more (scan (digits (suc n) p) (digits n ((w * 2 + v) % 2 ^ n)) vs)
  scan_miss w v vs hv hx hp d =
      scan_goes_on (digits (suc n) p) (digits n w) v vs (full_differ w v hv hx hp d)
      ∙ ap (λ (k : ℕ). more (scan (digits (suc n) p) (last k (digits n w ++ (v ∷ []))) vs)) fits
      ∙ ap (λ (l : List ℕ). more (scan (digits (suc n) p) l vs)) (full_moves w v hv)

-- ---- the window after a bit

-- the bits l are not the pattern, and the last 7 of them are the window from then on
pub record Moved (l : List ℕ) (pattern seen bits : ℕ) : Type 0 where
  pub goes_on : ends l pattern ≡ false
  pub window : window_bits seen bits ≡ last 7 l

pub moved_is : (l : List ℕ) (p c w : ℕ) → Moved l p c w → Some (window_bits c w) ≡ window_after l p
unfolding window_after
moved_is l p c w m = rw m.goes_on (ap Some m.window)

pub ended_is : (l : List ℕ) (p : ℕ) → ends l p ≡ true → None ≡ window_after l p
unfolding window_after
ended_is l p e = rw e refl

-- and the other way round
module _ (l : List ℕ) (p : ℕ) where
  after_is : (t : Bool) → ends l p ≡ t → window_after l p ≡ cond t None (Some (last 7 l))
  unfolding window_after
  after_is t e = rw e refl

  pub moved_of : (c w : ℕ) → Some (window_bits c w) ≡ window_after l p → Moved l p c w
  moved_of c w e = go (ends l p) refl
    where
      go : (t : Bool) → ends l p ≡ t → Moved l p c w
      go true h = absurd (true≢false (ap is_some (e ∙ after_is true h)))
      go false h = record { goes_on = h; window = ap (λ (o : Option (List ℕ)). unwrap_or o []) (e ∙ after_is false h) }

  pub ended_of : None ≡ window_after l p → ends l p ≡ true
  ended_of e = go (ends l p) refl
    where
      go : (t : Bool) → ends l p ≡ t → ends l p ≡ true
      go true h = h
      go false h = absurd (true≢false (sym (ap is_some (e ∙ after_is false h))))

-- a window is one of its bits alone
pub one_window : (c w d v : ℕ) → w < 2 ^ c → v < 2 ^ d → window_bits c w ≡ window_bits d v → (c ≡ d) × (w ≡ v)
one_window c w d v hw hv e = (
  sym (length_digits c w) ∙ ap length e ∙ length_digits d v,
  sym (number_digits c w hw) ∙ ap number e ∙ number_digits d v hv,
)

-- ---- over 7 bits, as a window has them

-- a bit as a number
pub bit_is : (g : ℕ) → g < 2 → cond (eqb g 1) 1 0 ≡ g
bit_is zero h = refl
bit_is (suc zero) h = refl
bit_is (suc (suc g)) h = absurd (omega arith)

byte_is : (b : Bool) → mir.Val.bool_byte b ≡ cond b 1 0
byte_is true = refl
byte_is false = refl

module _ (c w : ℕ) (b : Bool) (p : ℕ) (small : w < 2 ^ c) where
  abbrev v : ℕ
  v = cond b 1 0

  bit : v < 2
  bit = go b
    where
      go : (t : Bool) → cond t 1 0 < 2
      go true = omega arith
      go false = omega arith

  pub moved_few : c < 7 → Moved (with_bit c w b) p (c + 1) (w * 2 + mir.Val.bool_byte b)
  moved_few h = record {
    goes_on = few_differ 7 p c w v h;
    window = (λ i. digits (add-one c i) (w * 2 + byte_is b i)) ∙ sym (few_moves 7 p c w v h bit);
  }

  module _ (few : c ≤ 7) (h : 7 ≤ c) (byte : p < 256) where
    seven : c ≡ 7
    seven = omega arith

    w7 : w < 2 ^ 7
    w7 = subst (λ (k : ℕ). w < 2 ^ k) seven small

    pub ends_here : w * 2 + mir.Val.bool_byte b ≡ p → ends (with_bit c w b) p ≡ true
    ends_here e =
        ap (λ (k : ℕ). ends (with_bit k w b) p) seven
        ∙ full_same 7 p w v w7 bit (omega (arith, w7, bit)) byte (ap (λ (x : ℕ). w * 2 + x) (sym (byte_is b)) ∙ e)

    pub moved_full : (w * 2 + mir.Val.bool_byte b ≡ p → ⊥) → Moved (with_bit c w b) p 7 ((w * 2 + mir.Val.bool_byte b) % 128)
    moved_full d = record {
      goes_on = ap (λ (k : ℕ). ends (with_bit k w b) p) seven ∙ full_differ 7 p w v bit (omega (arith, w7, bit)) byte (λ e. d (ap (λ (x : ℕ). w * 2 + x) (byte_is b) ∙ e));
      window = (λ i. digits 7 ((w * 2 + byte_is b i) % 128)) ∙ sym (full_moves 7 p w v bit) ∙ ap (λ (k : ℕ). last 7 (with_bit k w b)) (sym seven);
    }

-- ---- a scan by a window

module _ (c w : ℕ) (b : Bool) (p : ℕ) (vs : List ℕ) where
  pub scan_found : ends (with_bit c w b) p ≡ true → scan (digits 8 p) (digits c w) (cond b 1 0 ∷ vs) ≡ record { count = 1; window = []; found = true }
  scan_found e = scan_ends (digits 8 p) (digits c w) (cond b 1 0) vs e

  pub scan_moved : (c' w' : ℕ) → Moved (with_bit c w b) p c' w' → scan (digits 8 p) (digits c w) (cond b 1 0 ∷ vs) ≡ more (scan (digits 8 p) (digits c' w') vs)
  scan_moved c' w' m =
      let seven : length (digits 8 p) - 1 ≡ 7 = omega (arith, length_digits 8 p) in
      scan_goes_on (digits 8 p) (digits c w) (cond b 1 0) vs m.goes_on
      ∙ ap (λ (n : ℕ). more (scan (digits 8 p) (last n (with_bit c w b)) vs)) seven
      ∙ ap (λ (l : List ℕ). more (scan (digits 8 p) l vs)) (sym m.window)
