-- The bits read and the keystream bits read stand packed from the top, so their sum has the stretch's sums first.
use mathlib.Core.Path.{◌≡◌, ap, ◌∙◌}
use mathlib.Core.Bool.{Bool, true, false}
use mathlib.Core.List.{List}
use Prim.Native.Nat.{ℕ, ◌+◌, ◌*◌, ◌≤◌}
use native.Mathlib.Omega.{arith}
use lib.ListN.{length, take}
use Rattle.mode.specs.Words.{plus}
use Rattle.mode.proofs.Streams.{take_plus}
use Rattle.bits.specs.Bits.{bits_of, pack, part}
use Rattle.bits.proofs.Parts.{pack_part}
use Rattle.bits.proofs.Arrays.{array_length}
use Rattle.line.specs.Inner.{Covers}
use Rattle.line.proofs.cover.cover.Goals as goal

module _ (s b : List ℕ) (i p n : ℕ) (in-s : i + n ≤ 8 * length s) (in_b : p + n ≤ 128) (sixteen : length b ≡ 16) (given keys out : List ℕ)
    (g : given ≡ pack 16 (part s i n)) (k : keys ≡ pack 16 (part b p n)) (o : bits_of out ≡ plus (bits_of given) (bits_of keys)) where
  given_is : take n (bits_of given) ≡ part s i n
  given_is = ap (λ (l : List ℕ). take n (bits_of l)) g ∙ pack_part s i n 16 (omega arith) in-s

  out_is : take n (bits_of out) ≡ plus (part s i n) (part b p n)
  out_is =
      let keys_are : take n (bits_of keys) ≡ part b p n = ap (λ (l : List ℕ). take n (bits_of l)) k ∙ pack_part b p n 16 (omega arith) (omega (arith, sixteen)) in
      ap (take n) o ∙ take_plus n (bits_of given) (bits_of keys) ∙ (λ j. plus (given_is j) (keys_are j))

  received : (d : Bool) → d ≡ true → Covers (part s i n) (part b p n) d n (record { out = out; carried = given })
  received d e = record { out = out_is; carried = rw e given_is }

  sent : (d : Bool) → d ≡ false → Covers (part s i n) (part b p n) d n (record { out = out; carried = out })
  sent d e = record { out = out_is; carried = rw e out_is }

pub returns-then-receiving : goal.returns-then-receiving
returns-then-receiving c =
    let a = c.args in
    received a.input.now a.block a.from a.place a.n c.requires.0 c.requires.1 (array_length 16 a.block _ c.well_formed.1.1.1.0) _ _ _
    c.read-given.ensures c.read-keys.ensures c.sum-out.ensures a.receiving c.if-receiving.true

pub returns-else-receiving : goal.returns-else-receiving
returns-else-receiving c =
    let a = c.args in
    sent a.input.now a.block a.from a.place a.n c.requires.0 c.requires.1 (array_length 16 a.block _ c.well_formed.1.1.1.0) _ _ _
    c.read-given.ensures c.read-keys.ensures c.sum-out.ensures a.receiving c.if-receiving.false
