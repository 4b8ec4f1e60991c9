-- The scanner's loop: the ends found so far and those still to be found are all the ends, and so are the ones stored and those still to be stored.
use mathlib.Core.Path.{◌≡◌, sym, ap, ◌∙◌}
use mathlib.Core.Bool.{Bool, true, false, cond}
use lib.Dec.{eqb}
use mathlib.Core.List.{List, [], ◌∷◌}
use Prim.Native.Nat.{ℕ, suc, ◌+◌, ◌*◌, ◌<◌, ◌≤◌}
use native.Mathlib.Numerals.{add-one}
use native.Mathlib.Omega.{arith}
use lib.ListN.{length, get_or, drop, set, drop_of_length-le}
use lib.Seq.{drop-cons, sets}
use Rattle.mode.specs.Mode.{State, step, opened}
use Rattle.mode.specs.Ends.{silent, ends, pattern_ends}
use Rattle.mode.proofs.Ends.{scanner, ends_none, ends_here, ends_later, ends_bare}
use Rattle.bits.specs.Bits.{bits_of, digits, part}
use Rattle.bits.proofs.Digits.{no_digits}
use Rattle.bits.proofs.Packed.{small_bits}
use Rattle.bits.proofs.Parts.{length_part, part_at}
use Rattle.linefile.specs.declared.scanner.Scanner.{Scanner}
use Rattle.linefile.specs.declared.scanner.Scanned.{Scanned}
use Rattle.linefile.specs.Syncs.{scanned}
use Rattle.line.proofs.WindowBits.{bit_is}
use Rattle.linefile.specs.Inner.{rules, held, Looked}

module _ (s : List ℕ) (from n pattern l : ℕ) (d₀ : List ℕ) where
  abbrev all : List ℕ
  all = pattern_ends (scanned pattern l) (part s from n)

  -- the ends still to be found
  abbrev coming : Scanner → ℕ → List ℕ
  coming t i = ends silent (rules pattern l) i (held t) (drop i (part s from n))

  pub record Listing (d : List ℕ) (t : Scanner) (count i : ℕ) : Type 0 where
    pub few : count ≤ i
    pub counted : count + length (coming t i) ≡ length all
    pub stored : sets d count (coming t i) ≡ sets d₀ 0 all

  pub listing : (t : Scanner) → t.window.bits ≡ 0 → t.window.seen ≡ 0 → t.left ≡ 0 → Listing d₀ t 0 0
  listing t zb zs zl =
      let e : coming t 0 ≡ all =
      (λ i. ends silent (rules pattern l) 0 (scanner (digits (zs i) (zb i)) (zl i)) (part s from n))
      ∙ ap (λ (w : List ℕ). ends silent (rules pattern l) 0 (scanner w 0) (part s from n)) (no_digits 0) ∙ ends_bare silent (scanned pattern l) (part s from n) 0 (opened tt) in
      record {
        few = omega arith;
        counted = (let q : length (coming t 0) ≡ length all = ap length e in omega (arith, q));
        stored = ap (sets d₀ 0) e;
      }

  module _ (there : from + n ≤ 8 * length s) (d : List ℕ) (t : Scanner) (count i : ℕ) (a : Listing d t count i) where
    module _ (g : ℕ) (lt : i < n) (hv : g ≡ get_or (bits_of s) (from + i) 0) where
      abbrev b : Bool
      b = eqb g 1

      abbrev v : ℕ
      v = cond b 1 0

      is_bit : v ≡ g
      is_bit = bit_is g (rw hv (small_bits s (from + i)))

      next : drop i (part s from n) ≡ v ∷ drop (suc i) (part s from n)
      next =
          drop-cons (part s from n) i 0 (rw (length_part s from n there) lt)
          ∙ ap (λ (x : ℕ). x ∷ drop (suc i) (part s from n)) (part_at s from n i lt ∙ sym hv ∙ sym is_bit)

      module _ (r : Scanned) (k : Looked t b pattern l r) (e : List ℕ) (m : ℕ) where
        now : coming t i ≡ ends silent (rules pattern l) i (held t) (v ∷ drop (suc i) (part s from n))
        now = ap (ends silent (rules pattern l) i (held t)) next

        later : ends silent (rules pattern l) (suc i) (step silent (rules pattern l) (held t) v) (drop (suc i) (part s from n)) ≡ coming r.scanner (suc i)
        later = ap (λ (u : State (Unit {0})). ends silent (rules pattern l) (suc i) u (drop (suc i) (part s from n))) (sym k.state)

        pub turn_found : r.found ≡ true → e ≡ set d count (i + 1) → m ≡ count + 1 → Listing e r.scanner m (i + 1)
        turn_found f q p =
            let here : coming t i ≡ suc i ∷ coming r.scanner (suc i) =
            now ∙ ends_here silent (rules pattern l) i (held t) v (drop (suc i) (part s from n)) (sym k.match ∙ f) ∙ ap (λ (u : List ℕ). suc i ∷ u) later in
            let c : length (coming t i) ≡ suc (length (coming r.scanner (suc i))) = ap length here in
            rw (q, p, add-one i)
            record {
              few = omega (arith, a.few);
              counted = omega (arith, a.counted, c);
              stored = ap (λ (u : ℕ). sets (set d count (suc i)) u (coming r.scanner (suc i))) (add-one count) ∙ ap (sets d count) (sym here) ∙ a.stored;
            }

        pub turn_none : r.found ≡ false → e ≡ d → m ≡ count → Listing e r.scanner m (i + 1)
        turn_none f q p =
            let here : coming t i ≡ coming r.scanner (suc i) =
            now ∙ ends_later silent (rules pattern l) i (held t) v (drop (suc i) (part s from n)) (sym k.match ∙ f) ∙ later in
            let c : length (coming t i) ≡ length (coming r.scanner (suc i)) = ap length here in
            rw (q, p, add-one i)
            record {
              few = omega (arith, a.few);
              counted = omega (arith, a.counted, c);
              stored = ap (sets d count) (sym here) ∙ a.stored;
            }

    pub listed : n ≤ i → (count ≡ length all) × (d ≡ sets d₀ 0 all)
    listed h =
        let none : drop i (part s from n) ≡ [] = drop_of_length-le (part s from n) {i = i} (rw (length_part s from n there) h) in
        let e : coming t i ≡ [] = ap (ends silent (rules pattern l) i (held t)) none ∙ ends_none silent (rules pattern l) i (held t) in
        let c : length (coming t i) ≡ 0 = ap length e in
        (omega (arith, a.counted, c), sym (ap (sets d count) e) ∙ a.stored)
