-- The first 58 bytes of a record, there and back: what was written is read as it was, and what was read is written as it was, since each
-- field has bytes of its own and no byte is left over. Assumes nothing.
use mathlib.Core.Path.{◌≡◌, refl, ap}
use mathlib.Core.List.{List, [], ◌∷◌, ◌++◌, append_assoc}
use Prim.Native.Nat.{ℕ, ◌+◌, ◌*◌, ◌≤◌, ◌<◌}
use native.Mathlib.Omega.{arith}
use lib.ListN.{length, get_or, drop, length-append}
use Rattle.bits.proofs.Lists.{Bytes}
use Rattle.line.specs.declared.record.Line.{Line}
use Rattle.tisarqluk.specs.FreeRecord.{settings_of, numbers_of, line_bytes, line_in}
use Rattle.tisarqluk.proofs.Places.{here, then, at, split, split_each, pair_high, pair_low, flag_eqb, eqb_flag}

-- what a record's type has: the arrays' lengths, and the bound of the 16-bit number
pub record Shaped (s : Line) : Type 0 where
  pub key : length s.key ≡ 16
  pub counter : length s.position.counter ≡ 16
  pub iv : length s.iv ≡ 16
  pub left : s.left < 65536

pub length_line : (kind : ℕ) (s : Line) → Shaped s → length (line_bytes kind s) ≡ 58
unfolding line_bytes
length_line kind s g = simp length-append (omega (arith, g.key, g.counter, g.iv))

pub in_of : (kind : ℕ) (s : Line) (rest : List ℕ) → Shaped s → line_in (line_bytes kind s ++ rest) ≡ s
unfolding line_in line_bytes
in_of kind s rest g =
    let last : List ℕ = s.collected ∷ rest in
    let v : List ℕ = s.iv ++ last in
    let m : List ℕ = numbers_of s ++ v in
    let c : List ℕ = s.position.counter ++ m in
    let all : List ℕ = line_bytes kind s ++ rest in
    let e₀ : all ≡ settings_of kind s ++ (s.key ++ c) = simp append_assoc in
    let e₄ : drop 4 all ≡ s.key ++ c = ap (drop 4) e₀ in
    let e₂₀ : drop 20 all ≡ c = then all s.key c 4 16 e₄ g.key in
    let e₃₆ : drop 36 all ≡ m = then all s.position.counter m 20 16 e₂₀ g.counter in
    let e₄₁ : drop 41 all ≡ v = then all (numbers_of s) v 36 5 e₃₆ refl in
    let e₅₇ : drop 57 all ≡ last = then all s.iv last 41 16 e₄₁ g.iv in
    let left : get_or all 39 0 * 256 + get_or all 40 0 ≡ s.left = omega (arith, at all m 36 3 e₃₆, at all m 36 4 e₃₆) in
    λ i. record {
      key = here all s.key c 4 16 e₄ g.key i;
      pattern = at all _ 0 2 e₀ i;
      l = at all _ 0 1 e₀ i;
      receiving = flag_eqb s.receiving i;
      position = record { counter = here all s.position.counter m 20 16 e₂₀ g.counter i; place = at all m 36 0 e₃₆ i };
      window = at all m 36 1 e₃₆ i;
      seen = at all m 36 2 e₃₆ i;
      left = left i;
      iv = here all s.iv last 41 16 e₄₁ g.iv i;
      collected = at all last 57 0 e₅₇ i;
    }

-- six parts, one after the other
join : (a b c d e f r r₁ r₂ r₃ r₄ r₅ s : List ℕ) → f ++ r ≡ r₁ → e ++ r₁ ≡ r₂ → d ++ r₂ ≡ r₃ → c ++ r₃ ≡ r₄ → b ++ r₄ ≡ r₅ → a ++ r₅ ≡ s
    → (a ++ b ++ c ++ d ++ e ++ f) ++ r ≡ s
join a b c d e f r r₁ r₂ r₃ r₄ r₅ s e₁ e₂ e₃ e₄ e₅ e₆ = simp append_assoc (rw (e₁, e₂, e₃, e₄, e₅) e₆)

pub of_in : (kind : ℕ) (s : List ℕ) → 58 ≤ length s → get_or s 0 0 ≡ kind → get_or s 3 0 ≤ 1 → Bytes s → line_bytes kind (line_in s) ++ drop 58 s ≡ s
unfolding line_in line_bytes
of_in kind s room k d b =
    let e₃₆ : numbers_of (line_in s) ++ drop 41 s ≡ drop 36 s = rw (pair_high (get_or s 39 0) (get_or s 40 0) (b 40), pair_low (get_or s 39 0) (get_or s 40 0) (b 40)) (split_each 5 36 s (omega arith)) in
    let e₀ : settings_of kind (line_in s) ++ drop 4 s ≡ s = rw (← k, eqb_flag (get_or s 3 0) d) (split_each 4 0 s (omega arith)) in
    let g : Line = line_in s in
    join (settings_of kind g) g.key g.position.counter (numbers_of g) g.iv (g.collected ∷ []) (drop 58 s) (drop 57 s) (drop 41 s) (drop 36 s) (drop 20 s) (drop 4 s) s
    (split_each 1 57 s (omega arith)) (split 16 41 s) e₃₆ (split 16 20 s) (split 16 4 s) e₀
