-- The scanner's loop: what it has still to scan, with the bits that it has scanned, is what there is to scan.
use mathlib.Core.Path.{◌≡◌, sym, ap, ◌∙◌}
use mathlib.Core.Bool.{Bool, true, false, cond}
use lib.Dec.{eqb}
use mathlib.Core.List.{List, [], ◌∷◌}
use Prim.Native.Nat.{ℕ, suc, ◌+◌, ◌<◌, ◌≤◌}
use native.Mathlib.Numerals.{add-one}
use native.Mathlib.Omega.{arith}
use lib.ListN.{length, get_or, take, drop, length-take, drop_of_length-le}
use lib.Seq.{drop-cons, get_or-take}
use Rattle.mode.specs.Scan.{Scan, more, scan}
use Rattle.mode.proofs.Scans.{scan_none}
use Rattle.bits.specs.Bits.{bits_of, digits}
use Rattle.bits.proofs.Digits.{no_digits}
use Rattle.bits.proofs.Packed.{length_bits, small_bits}
use Rattle.line.specs.Inner.{within, Found}
use Rattle.line.specs.declared.window.Window.{Window}
use Rattle.line.specs.Window.{with_bit, ends}
use Rattle.line.proofs.WindowBits.{Moved, bit_is, scan_found, scan_moved}

-- a scan that goes on after i bits
abbrev ahead : ℕ → Scan → Scan
ahead i r = record { count = i + r.count; window = r.window; found = r.found }

module _ (b : List ℕ) (n window seen pattern : ℕ) where
  abbrev bits : List ℕ
  bits = take n (bits_of b)

  pub record Searching (w c i : ℕ) : Type 0 where
    pub sixteen : length b ≡ 16
    pub some : n ≤ 128
    pub high : i ≤ n
    pub rest : ahead i (scan (digits 8 pattern) (digits c w) (drop i bits)) ≡ within b n window seen pattern

  module _ (w c i g : ℕ) (a : Searching w c i) (lt : i < n) (hv : g ≡ get_or (bits_of b) i 0) where
    abbrev t : Bool
    t = eqb g 1

    abbrev v : ℕ
    v = cond t 1 0

    is_bit : v ≡ g
    is_bit = bit_is g (rw hv (small_bits b i))

    next : drop i bits ≡ v ∷ drop (suc i) bits
    next =
        let long : i < length bits = simp (length-take, length_bits) (omega (arith, a.sixteen, a.some)) in
        drop-cons bits i 0 long ∙ ap (λ (x : ℕ). x ∷ drop (suc i) bits) (get_or-take n (bits_of b) i 0 lt ∙ sym hv ∙ sym is_bit)

    one_more : (w' c' : ℕ) → scan (digits 8 pattern) (digits c w) (v ∷ drop (suc i) bits) ≡ more (scan (digits 8 pattern) (digits c' w') (drop (suc i) bits))
        → ahead (i + 1) (scan (digits 8 pattern) (digits c' w') (drop (i + 1) bits)) ≡ within b n window seen pattern
    one_more w' c' e =
        let r : Scan = scan (digits 8 pattern) (digits c' w') (drop (suc i) bits) in
        let q : (i + 1) + r.count ≡ i + suc r.count = omega arith in
        rw (add-one i)
        ((λ k. record { count = (let q' : suc i + r.count ≡ i + suc r.count = omega arith in q') k; window = r.window; found = r.found })
        ∙ ap (ahead i) (sym e ∙ ap (scan (digits 8 pattern) (digits c w)) (sym next))
        ∙ a.rest)

    pub turn_moves : (w' c' : ℕ) → Moved (with_bit c w t) pattern c' w' → Searching w' c' (i + 1)
    turn_moves w' c' m = record {
      sixteen = a.sixteen;
      some = a.some;
      high = omega arith;
      rest = one_more w' c' (scan_moved c w t pattern (drop (suc i) bits) c' w' m);
    }

    pub turn_ends : ends (with_bit c w t) pattern ≡ true → (r : Window) → r.bits ≡ 0 → r.seen ≡ 0 → Found b n window seen pattern (record { count = i + 1; window = r; found = true })
    turn_ends e r zb zs =
        let s : scan (digits 8 pattern) (digits c w) (drop i bits) ≡ record { count = 1; window = []; found = true } =
        ap (scan (digits 8 pattern) (digits c w)) next ∙ scan_found c w t pattern (drop (suc i) bits) e in
        let q : record { count = i + 1; window = []; found = true } ≡ within b n window seen pattern = ap (ahead i) (sym s) ∙ a.rest in
        let none : digits r.seen r.bits ≡ [] = (λ i. digits (zs i) (zb i)) ∙ no_digits 0 in
        record { count = ap (λ (r : Scan). r.count) q; left = none ∙ ap (λ (r : Scan). r.window) q; match = ap (λ (r : Scan). r.found) q }

  pub searched : (r : Window) (i : ℕ) → Searching r.bits r.seen i → n ≤ i → Found b n window seen pattern (record { count = n; window = r; found = false })
  searched r i a h =
      let e : i ≡ n = omega (arith, a.high) in
      let z : n ≡ i + 0 = omega (arith, e) in
      let w : List ℕ = digits r.seen r.bits in
      let none : drop i bits ≡ [] = drop_of_length-le bits {i = i} (simp length-take (omega arith)) in
      let s : record { count = 0; window = w; found = false } ≡ scan (digits 8 pattern) w (drop i bits) =
      sym (ap (scan (digits 8 pattern) w) none ∙ scan_none (digits 8 pattern) w) in
      let q : record { count = i + 0; window = w; found = false } ≡ within b n window seen pattern = ap (ahead i) s ∙ a.rest in
      record { count = z ∙ ap (λ (r : Scan). r.count) q; left = ap (λ (r : Scan). r.window) q; match = ap (λ (r : Scan). r.found) q }
