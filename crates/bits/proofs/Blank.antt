-- Bits that hold nothing: bytes whose bits from some place on are zeros are packed from the bits before it, and the other way round.
use mathlib.Core.Path.{◌≡◌, refl, sym, ap, subst, ◌∙◌}
use mathlib.Core.Bool.{Bool, true, false, cond, ◌&&◌, true≢false}
use mathlib.Core.List.{List, [], ◌∷◌, ◌++◌, append-nil}
use Prim.Native.Nat.{ℕ, zero, suc, ◌+◌, ◌-◌, ◌*◌, ◌/◌, ◌%◌, ◌<◌, ◌≤◌}
use native.Mathlib.Omega.{arith}
use native.Mathlib.Decide.{dec_lt}
use lib.ListN.{length, get_or, take, drop, length-take, take-append-drop, get_or-eq_default}
use lib.Seq.{get_or-drop, drop-drop}
use lib.Dec.{eqb}
use borrow.Author.Tests.{eqb-true, eq-eqb}
use Rattle.std.proofs.lemmas.Bool.{false_from_ne_true}
use Rattle.std.proofs.Common.{nat_eq}
use Rattle.std.specs.List.{list_all}
use native.Mathlib.Nat.{mod-eq_of_lt}
use Rattle.bits.specs.Bits.{bits_of, byte_of, pack, part, digits}
use Rattle.bits.specs.Blank.{blank}
use Rattle.bits.proofs.Lists.{Small, Bytes, Alike, zeros, small_take, bytes_drop}
use Rattle.bits.proofs.Digits.{length_digits, digits_zero, small_digits}
use Rattle.bits.proofs.Parts.{small_part, short_part}
use Rattle.bits.proofs.Packed.{length_bits, bits_one, bits_byte, bits_drop, small_bits, length_pack, pack_bits, pack_alike, bits_pack_at, byte_digits}

split : {P : Type 0} (x : ℕ) (b : List ℕ) → cond (eqb x 0) (blank b) false ≡ true → (x ≡ 0 → blank b ≡ true → P) → P
split {P} x b e f = go (eqb x 0) refl e
  where
    go : (t : Bool) → eqb x 0 ≡ t → cond t (blank b) false ≡ true → P
    go true q h = f (eqb-true x 0 q) h
    go false q h = absurd (true≢false (sym h))

pub blank_at : (b : List ℕ) → blank b ≡ true → (i : ℕ) → get_or b i 0 ≡ 0
unfolding blank
blank_at [] e i = refl
blank_at (x ∷ b) e zero = split x b e (λ z _. z)
blank_at (x ∷ b) e (suc i) = split x b e (λ _ q. blank_at b q i)

pub blank_of : (b : List ℕ) → ((i : ℕ) → get_or b i 0 ≡ 0) → blank b ≡ true
unfolding blank
blank_of [] h = refl
blank_of (x ∷ b) h = rw (eq-eqb x 0 (h 0)) (blank_of b (λ i. h (suc i)))

take_blank : (n : ℕ) (b : List ℕ) → blank (drop n b) ≡ true → Alike (take n b) b
take_blank zero b e i = sym (blank_at b e i)
take_blank (suc n) [] e i = refl
take_blank (suc n) (x ∷ b) e zero = refl
take_blank (suc n) (x ∷ b) e (suc i) = take_blank n b e i

-- bytes whose bits from n on are zeros are packed from the first n
pub blank_pack : (k : ℕ) (s : List ℕ) (n : ℕ) → length s ≡ k → Bytes s → blank (drop n (bits_of s)) ≡ true → s ≡ pack k (take n (bits_of s))
blank_pack k s n e h c =
    sym (subst (λ (j : ℕ). pack j (bits_of s) ≡ s) e (pack_bits s h)) ∙ sym (pack_alike k (take n (bits_of s)) (bits_of s) (take_blank n (bits_of s) c))

pub pack_blank : (k : ℕ) (s : List ℕ) (n : ℕ) → s ≡ pack k (take n (bits_of s)) → blank (drop n (bits_of s)) ≡ true
pack_blank k s n e =
    let r : List ℕ = take n (bits_of s) in
    let few : length r ≤ n = simp length-take (omega arith) in
    let long : length (bits_of s) ≡ 8 * k = length_bits s ∙ ap (λ (l : List ℕ). 8 * length l) e ∙ ap (λ (j : ℕ). 8 * j) (length_pack k r) in
    blank_of (drop n (bits_of s))
    (λ i. get_or-drop n (bits_of s) i 0
    ∙ elim (dec_lt (n + i) (8 * k)) [
      | yes lt ↦ ap (λ (l : List ℕ). get_or (bits_of l) (n + i) 0) e ∙ bits_pack_at k r (n + i) (small_take n (bits_of s) (small_bits s)) lt ∙ get_or-eq_default r 0 {n = n + i} (omega arith)
      | no ge ↦ get_or-eq_default (bits_of s) 0 {n = n + i} (omega arith)
    ])

-- ---- the test goes by bytes: the rest of the first one, and then whole ones

cond_and : (a b : Bool) → cond a b false ≡ (a && b)
cond_and true b = refl
cond_and false b = refl

cond_cond : (a b c : Bool) → cond a (cond b c false) false ≡ cond (cond a b false) c false
cond_cond true b c = refl
cond_cond false b c = refl

blank_append : (a b : List ℕ) → blank (a ++ b) ≡ cond (blank a) (blank b) false
unfolding blank
blank_append [] b = refl
blank_append (x ∷ a) b = ap (λ (t : Bool). cond (eqb x 0) t false) (blank_append a b) ∙ cond_cond (eqb x 0) (blank a) (blank b)

blank_zeros : (n : ℕ) → blank (zeros n) ≡ true
unfolding blank
blank_zeros zero = refl
blank_zeros (suc n) = blank_zeros n

-- a few bits and the byte that they make
few_blank : (r : List ℕ) → Small r → length r ≤ 8 → byte_of r ≡ 0 → blank r ≡ true
unfolding pack bits_of
few_blank r h few e =
    blank_of r
    (λ i. elim (dec_lt i 8) [
      | yes lt ↦ sym (bits_pack_at 1 r i h (omega arith)) ∙ ap (λ (x : ℕ). get_or (bits_of (x ∷ [])) i 0) e ∙ zero_bits i
      | no ge ↦ get_or-eq_default r 0 {n = i} (omega arith)
    ])
  where
    zero_bits : (i : ℕ) → get_or (bits_of (0 ∷ [])) i 0 ≡ 0
    zero_bits i = blank_at (bits_of (0 ∷ [])) (ap blank (bits_one 0 ∙ digits_zero 8) ∙ blank_zeros 8) i

few_not : (r : List ℕ) → (byte_of r ≡ 0 → ⊥) → blank r ≡ false
unfolding pack
few_not r h = false_from_ne_true (blank r) (λ e. h (ap (λ (l : List ℕ). get_or l 0 0) (pack_alike 1 r [] (blank_at r e))))

few_is : (r : List ℕ) → Small r → length r ≤ 8 → blank r ≡ eqb (byte_of r) 0
few_is r h few = go (eqb (byte_of r) 0) refl
  where
    go : (t : Bool) → eqb (byte_of r) 0 ≡ t → blank r ≡ t
    go true e = few_blank r h few (eqb-true (byte_of r) 0 e)
    go false e = few_not r (λ z. true≢false (sym (eq-eqb (byte_of r) 0 z) ∙ e))

byte_is : (x : ℕ) → x < 256 → blank (digits 8 x) ≡ eqb x 0
byte_is x h =
    few_is (digits 8 x) (small_digits 8 x) (omega (arith, length_digits 8 x))
    ∙ ap (λ (y : ℕ). eqb y 0) (ap byte_of (sym (append-nil (digits 8 x))) ∙ byte_digits x [] ∙ mod-eq_of_lt h)

bytes_is : (s : List ℕ) → Bytes s → blank (bits_of s) ≡ list_all (λ x. nat_eq x 0) s
unfolding bits_of blank
bytes_is [] h = refl
bytes_is (x ∷ s) h =
    ap blank (bits_byte x s)
    ∙ blank_append (digits 8 x) (bits_of s)
    ∙ (λ i. cond (byte_is x (h 0) i) (bytes_is s (λ j. h (suc j)) i) false)
    ∙ cond_and (eqb x 0) (list_all (λ y. nat_eq y 0) s)

-- the bits from bit `from` on: those in the byte that holds it, as `read` gives them, and whole bytes
pub blank_is : (s r : List ℕ) (from : ℕ) → Bytes s → r ≡ pack 16 (part s from (8 - from % 8))
    → blank (drop from (bits_of s)) ≡ (nat_eq (get_or r 0 0) 0 && list_all (λ x. nat_eq x 0) (drop (from / 8 + 1) s))
unfolding part pack
blank_is s r from h f =
    let n : ℕ = 8 - from % 8 in
    let p : List ℕ = part s from n in
    let e : from + n ≡ 8 * (from / 8 + 1) = omega arith in
    let first : byte_of p ≡ get_or r 0 0 = ap (λ (l : List ℕ). get_or l 0 0) (sym f) in
    let rest : drop n (drop from (bits_of s)) ≡ bits_of (drop (from / 8 + 1) s) =
    drop-drop n from (bits_of s) ∙ ap (λ (k : ℕ). drop k (bits_of s)) e ∙ bits_drop (from / 8 + 1) s in
    ap blank (sym (take-append-drop n (drop from (bits_of s))))
    ∙ blank_append p (drop n (drop from (bits_of s)))
    ∙ (λ i. cond ((few_is p (small_part s from n) (omega (arith, short_part s from n)) ∙ ap (λ (x : ℕ). eqb x 0) first) i)
    ((ap blank rest ∙ bytes_is (drop (from / 8 + 1) s) (bytes_drop s (from / 8 + 1) h)) i) false)
    ∙ cond_and (eqb (get_or r 0 0) 0) (list_all (λ x. nat_eq x 0) (drop (from / 8 + 1) s))
