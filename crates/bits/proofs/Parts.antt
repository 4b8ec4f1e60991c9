-- Parts of the bits of a buffer: a part splits where it is cut, bytes packed from bits have the parts of these bits, and sixteen bytes hold a part of up to
-- 128 bits. Assumes nothing.
use mathlib.Core.Path.{◌≡◌, refl, sym, ap, ◌∙◌}
use mathlib.Core.List.{List, [], ◌++◌}
use Prim.Native.Nat.{ℕ, ◌+◌, ◌*◌, ◌≤◌, ◌<◌}
use native.Mathlib.Omega.{arith}
use lib.ListN.{length, get_or, take, drop, length-take, length-drop, take-append-drop}
use lib.Seq.{take-add, drop-drop, get_or-take, get_or-drop, take-take, take-append-le, ext_get_or}
use Rattle.std.proofs.lemmas.List.{drop-take}
use Rattle.bits.specs.Bits.{bits_of, pack, part}
use Rattle.bits.proofs.Lists.{Small, Bytes, small_take, small_drop, bytes_drop}
use Rattle.bits.proofs.Packed.{length_bits, small_bits, bits_drop, bits_append, length_pack, bits_pack, pack_take, pack_bits_take}

pub part_is : (s : List ℕ) (i n : ℕ) → part s i n ≡ take n (drop i (bits_of s))
unfolding part
part_is s i n = refl

pub small_part : (s : List ℕ) (i n : ℕ) → Small (part s i n)
unfolding part
small_part s i n = small_take n (drop i (bits_of s)) (small_drop (bits_of s) i (small_bits s))

pub length_part : (s : List ℕ) (i n : ℕ) → i + n ≤ 8 * length s → length (part s i n) ≡ n
unfolding part
length_part s i n h = simp (length-take, length-drop, length_bits) (omega arith)

-- where the bits end before it, a part is shorter
pub short_part : (s : List ℕ) (i n : ℕ) → length (part s i n) ≤ n
unfolding part
short_part s i n = simp length-take (omega arith)

pub part_none : (s : List ℕ) (i n : ℕ) → n ≡ 0 → part s i n ≡ []
unfolding part
part_none s i n e = rw e

pub part_start : (s : List ℕ) (n : ℕ) → part s 0 n ≡ take n (bits_of s)
unfolding part
part_start s n = refl

pub part_at : (s : List ℕ) (i n j : ℕ) → j < n → get_or (part s i n) j 0 ≡ get_or (bits_of s) (i + j) 0
unfolding part
part_at s i n j h = get_or-take n (drop i (bits_of s)) j 0 h ∙ get_or-drop i (bits_of s) j 0

pub part_split : (s : List ℕ) (i k m : ℕ) → part s i (k + m) ≡ part s i k ++ part s (i + k) m
unfolding part
part_split s i k m = take-add k m (drop i (bits_of s)) ∙ ap (λ (l : List ℕ). take k (drop i (bits_of s)) ++ take m l) (drop-drop k i (bits_of s))

-- the first bits of a part
pub take_part : (s : List ℕ) (i n k : ℕ) → k ≤ n → take k (part s i n) ≡ part s i k
unfolding part
take_part s i n k h = take-take k n (drop i (bits_of s)) h

-- the part from r on of a part from 0 on
pub part_drop : (q : List ℕ) (r n : ℕ) → drop r (part q 0 (r + n)) ≡ part q r n
unfolding part
part_drop q r n = drop-take r n (bits_of q)

-- from a byte on
pub part_from : (s : List ℕ) (start n : ℕ) → part (drop start s) 0 n ≡ part s (8 * start) n
unfolding part
part_from s start n = ap (take n) (sym (bits_drop start s))

-- what `read` gives has these bits
pub pack_part : (s : List ℕ) (i n k : ℕ) → n ≤ 8 * k → i + n ≤ 8 * length s → take n (bits_of (pack k (part s i n))) ≡ part s i n
pack_part s i n k le fit =
    let e : length (part s i n) ≡ n = length_part s i n fit in
    ap (λ (m : ℕ). take m (bits_of (pack k (part s i n)))) (sym e) ∙ bits_pack k (part s i n) (small_part s i n) (omega arith)

-- the parts of bytes made of bits
pub part_pack : (n : ℕ) (x : List ℕ) (i m : ℕ) → Small x → length x ≤ 8 * n → i + m ≤ length x → part (pack n x) i m ≡ take m (drop i x)
unfolding part
part_pack n x i m h le fit =
    sym (drop-take i m (bits_of (pack n x)))
    ∙ ap (drop i) (sym (take-take (i + m) (length x) (bits_of (pack n x)) fit) ∙ ap (take (i + m)) (bits_pack n x h le))
    ∙ drop-take i m x

-- bits packed and stored from byte a on are the bits from there on
pub packed_part : (s r : List ℕ) (a k : ℕ) → Small r → length r ≤ 8 * k → a + k ≤ length s → ((j : ℕ) → j < k → get_or s (a + j) 0 ≡ get_or (pack k r) j 0)
    → part s (8 * a) (length r) ≡ r
unfolding part
packed_part s r a k hr room hs same =
    let x : List ℕ = drop a s in
    let n : length (take k x) ≡ k = simp (length-take, length-drop) (omega arith) in
    let e : take k x ≡ pack k r =
    ext_get_or 0 (take k x) (pack k r) (n ∙ sym (length_pack k r)) (λ j lt. get_or-take k x j 0 (omega (arith, n)) ∙ get_or-drop a s j 0 ∙ same j (omega (arith, n))) in
    ap (take (length r)) (bits_drop a s ∙ ap bits_of (sym (take-append-drop k x)) ∙ bits_append (take k x) (drop k x) ∙ ap (λ (l : List ℕ). bits_of l ++ bits_of (drop k x)) e)
    ∙ take-append-le (length r) (bits_of (pack k r)) (bits_of (drop k x)) (simp (length_bits, length_pack) room)
    ∙ bits_pack k r hr room

-- sixteen bytes read as 128 bits from a byte's first bit on are those bytes
pub sixteen : (s : List ℕ) (at : ℕ) → Bytes s → at + 16 ≤ length s → pack 16 (part s (8 * at) 128) ≡ take 16 (drop at s)
unfolding part
sixteen s at b h =
    ap (λ (r : List ℕ). pack 16 (take 128 r)) (bits_drop at s)
    ∙ pack_take 16 128 (bits_of (drop at s)) (omega arith)
    ∙ pack_bits_take 16 (drop at s) (bytes_drop s at b) (simp length-drop (omega arith))
