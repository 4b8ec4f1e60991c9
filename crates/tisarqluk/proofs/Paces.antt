-- A paced line's record, there and back, as the first 58 bytes of it are. Assumes nothing.
use mathlib.Core.Path.{◌≡◌, refl, ap, ◌∙◌}
use mathlib.Core.List.{List, ◌++◌, append_assoc}
use Prim.Native.Nat.{ℕ, ◌+◌, ◌*◌, ◌≤◌, ◌<◌}
use native.Mathlib.Omega.{arith}
use mathlib.Core.Bool.{true}
use lib.Dec.{eqb, leb}
use lib.ListN.{length, get_or, drop, length-append}
use lib.Seq.{drop_at}
use Rattle.bits.proofs.Lists.{Bytes}
use Rattle.paced.specs.declared.record.Paced.{Paced}
use Rattle.tisarqluk.specs.FreeRecord.{line_bytes, line_in}
use Rattle.tisarqluk.specs.PacedRecord.{counts_of, paced_bytes, paced_in}
use Rattle.tisarqluk.proofs.Places.{here, then, at, split, split_each, pair_high, pair_low, flag_eqb, flag_leb, eqb_flag}
use Rattle.tisarqluk.proofs.Lines.{Shaped, length_line, in_of, of_in}

-- what a record's type has: the queue's length, and the bounds of the 16-bit numbers
pub record ShapedPaced (p : Paced) : Type 0 where
  pub line : Shaped p.line
  pub queue : length p.queue ≡ 60
  pub ready : p.ready < 65536
  pub waiting : p.waiting < 65536
  pub fillers : p.fillers < 65536

pub length_paced : (p : Paced) → ShapedPaced p → length (paced_bytes p) ≡ 126
unfolding paced_bytes
length_paced p g = simp length-append (omega (arith, length_line 80 p.line g.line, g.queue))

-- what follows the line's bytes
parts : (a b c d : List ℕ) → (a ++ b ++ c) ++ d ≡ a ++ (b ++ (c ++ d))
parts a b c d = simp append_assoc

behind : (p : Paced) (rest : List ℕ) → ShapedPaced p → drop 58 (paced_bytes p ++ rest) ≡ counts_of p ++ (p.queue ++ rest)
unfolding paced_bytes
behind p rest g =
    ap (drop 58) (parts (line_bytes 80 p.line) (counts_of p) p.queue rest)
    ∙ drop_at (line_bytes 80 p.line) (counts_of p ++ (p.queue ++ rest)) 58 (length_line 80 p.line g.line)

pub closed_at : (p : Paced) (rest : List ℕ) → ShapedPaced p → leb (get_or (paced_bytes p ++ rest) 59 0) 1 ≡ true
closed_at p rest g = ap (λ (x : ℕ). leb x 1) (at (paced_bytes p ++ rest) (counts_of p ++ (p.queue ++ rest)) 58 1 (behind p rest g)) ∙ flag_leb p.closed

pub paced_in_of : (p : Paced) (rest : List ℕ) → ShapedPaced p → paced_in (paced_bytes p ++ rest) ≡ p
unfolding paced_in paced_bytes
paced_in_of p rest g =
    let q : List ℕ = p.queue ++ rest in
    let m : List ℕ = counts_of p ++ q in
    let all : List ℕ = paced_bytes p ++ rest in
    let e : all ≡ line_bytes 80 p.line ++ m = parts (line_bytes 80 p.line) (counts_of p) p.queue rest in
    let e₅₈ : drop 58 all ≡ m = behind p rest g in
    let e₆₆ : drop 66 all ≡ q = then all (counts_of p) q 58 8 e₅₈ refl in
    let ready : get_or all 60 0 * 256 + get_or all 61 0 ≡ p.ready = omega (arith, at all m 58 2 e₅₈, at all m 58 3 e₅₈) in
    let waiting : get_or all 62 0 * 256 + get_or all 63 0 ≡ p.waiting = omega (arith, at all m 58 4 e₅₈, at all m 58 5 e₅₈) in
    let fillers : get_or all 64 0 * 256 + get_or all 65 0 ≡ p.fillers = omega (arith, at all m 58 6 e₅₈, at all m 58 7 e₅₈) in
    λ i. record {
      line = (ap line_in e ∙ in_of 80 p.line m g.line) i;
      d = at all m 58 0 e₅₈ i;
      closed = (ap (λ (x : ℕ). eqb x 1) (at all m 58 1 e₅₈) ∙ flag_eqb p.closed) i;
      ready = ready i;
      waiting = waiting i;
      fillers = fillers i;
      queue = here all p.queue rest 66 60 e₆₆ g.queue i;
    }

join : (a b c r r₁ r₂ s : List ℕ) → c ++ r ≡ r₁ → b ++ r₁ ≡ r₂ → a ++ r₂ ≡ s → (a ++ b ++ c) ++ r ≡ s
join a b c r r₁ r₂ s e₁ e₂ e₃ = simp append_assoc (rw (e₁, e₂) e₃)

pub paced_of_in : (s : List ℕ) → 126 ≤ length s → get_or s 0 0 ≡ 80 → get_or s 3 0 ≤ 1 → get_or s 59 0 ≤ 1 → Bytes s → paced_bytes (paced_in s) ++ drop 126 s ≡ s
unfolding paced_in paced_bytes
paced_of_in s room k d c b =
    let p : Paced = paced_in s in
    let e₅₈ : counts_of p ++ drop 66 s ≡ drop 58 s =
    rw (
      eqb_flag (get_or s 59 0) c,
      pair_high (get_or s 60 0) (get_or s 61 0) (b 61),
      pair_low (get_or s 60 0) (get_or s 61 0) (b 61),
      pair_high (get_or s 62 0) (get_or s 63 0) (b 63),
      pair_low (get_or s 62 0) (get_or s 63 0) (b 63),
      pair_high (get_or s 64 0) (get_or s 65 0) (b 65),
      pair_low (get_or s 64 0) (get_or s 65 0) (b 65),
    )
    (split_each 8 58 s (omega arith)) in
    join (line_bytes 80 p.line) (counts_of p) p.queue (drop 126 s) (drop 66 s) (drop 58 s) s (split 60 66 s) e₅₈ (of_in 80 s (omega arith) k d b)
