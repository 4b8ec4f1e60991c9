-- Bits laid in a buffer from a bit on: the bits up to their end are those before and they, so what is laid after them is laid as one with them. Assumes nothing.
use mathlib.Core.Path.{◌≡◌, refl, sym, ap, ◌∙◌}
use mathlib.Core.List.{List, [], ◌++◌, append_assoc}
use Prim.Native.Nat.{ℕ, ◌+◌, ◌-◌, ◌*◌, ◌/◌, ◌%◌, ◌≤◌, ◌<◌}
use native.Mathlib.Omega.{arith}
use borrow.Author.Tests.{le-leb, lt-leb}
use lib.ListN.{length, take, drop, length-append, length-take, length-drop, drop_of_length-le, take-append-drop}
use lib.Seq.{take-take, take-append-le, drop-append-le, drop-append-add, drop-drop, length-take-le, drop_at}
use Rattle.std.proofs.lemmas.List.{drop-take}
use Rattle.bits.specs.Bits.{bits_of, pack, part, laid, wrote}
use Rattle.bits.proofs.Lists.{Small, Bytes, small_take, small_append, bytes_drop, bytes_append}
use Rattle.bits.proofs.Packed.{length_bits, small_bits, length_pack, bytes_pack, bits_pack, bits_append, bits_drop, pack_append, pack_bits_take, pack_front, pack_take, pack_none, pack_rest, drop_pack}

-- the bytes that n bits fill, the last one in part
abbrev bytes_for : ℕ → ℕ
bytes_for n = (n + 7) / 8

-- before bit i, and the bits that are laid
abbrev up_to : List ℕ → ℕ → List ℕ → List ℕ
up_to d i r = take i (bits_of d) ++ r

length_up : (d : List ℕ) (i : ℕ) (r : List ℕ) → i ≤ 8 * length d → length (up_to d i r) ≡ i + length r
length_up d i r h = simp (length-append, length-take, length_bits) (omega arith)

small_up : (d : List ℕ) (i : ℕ) (r : List ℕ) → Small r → Small (up_to d i r)
small_up d i r h = small_append (take i (bits_of d)) r (small_take i (bits_of d) (small_bits d)) h

pub length_laid : (d : List ℕ) (i : ℕ) (r : List ℕ) → i + length r ≤ 8 * length d → length (laid d i r) ≡ length d
unfolding laid
length_laid d i r h = simp (length-append, length_pack, length-drop) (omega arith)

pub bytes_laid : (d : List ℕ) (i : ℕ) (r : List ℕ) → Bytes d → Small r → Bytes (laid d i r)
unfolding laid
bytes_laid d i r hd hr =
    bytes_append (pack (bytes_for (i + length r)) (up_to d i r)) (drop (bytes_for (i + length r)) d)
    (bytes_pack (bytes_for (i + length r)) (up_to d i r) (small_up d i r hr))
    (bytes_drop d (bytes_for (i + length r)) hd)

-- the bits up to the end of those laid
pub bits_laid : (d : List ℕ) (i : ℕ) (r : List ℕ) → Small r → i ≤ 8 * length d → take (i + length r) (bits_of (laid d i r)) ≡ take i (bits_of d) ++ r
unfolding laid
bits_laid d i r hr h =
    let k : ℕ = bytes_for (i + length r) in
    let u : List ℕ = up_to d i r in
    let n : length u ≡ i + length r = length_up d i r h in
    let m : i + length r ≤ length (bits_of (pack k u)) = omega (arith, length_bits (pack k u), length_pack k u) in
    ap (take (i + length r)) (bits_append (pack k u) (drop k d))
    ∙ take-append-le (i + length r) (bits_of (pack k u)) (bits_of (drop k d)) m
    ∙ ap (λ (j : ℕ). take j (bits_of (pack k u))) (sym n)
    ∙ bits_pack k u (small_up d i r hr) (omega arith)

-- the bytes past those touched
pub later_laid : (d : List ℕ) (i : ℕ) (r : List ℕ) (k : ℕ) → (i + length r + 7) / 8 ≤ k → drop k (laid d i r) ≡ drop k d
unfolding laid
later_laid d i r k h =
    let m : ℕ = bytes_for (i + length r) in
    let p : List ℕ = pack m (up_to d i r) in
    let e : length p + (k - m) ≡ k = omega (arith, length_pack m (up_to d i r)) in
    let e' : m + (k - m) ≡ k = omega arith in
    ap (λ (j : ℕ). drop j (p ++ drop m d)) (sym e)
    ∙ drop-append-add p (drop m d) (k - m)
    ∙ drop-drop (k - m) m d
    ∙ ap (λ (j : ℕ). drop j d) e'

-- the definition, where the count of bytes has a name
pub laid_is : (d : List ℕ) (i : ℕ) (r : List ℕ) (k : ℕ) → k ≡ (i + length r + 7) / 8 → laid d i r ≡ pack k (take i (bits_of d) ++ r) ++ drop k d
unfolding laid
laid_is d i r k e = rw e

-- laid in two goes
pub laid_laid : (d : List ℕ) (i : ℕ) (a b : List ℕ) → Small a → i ≤ 8 * length d → laid (laid d i a) (i + length a) b ≡ laid d i (a ++ b)
laid_laid d i a b ha h =
    let e : length (a ++ b) ≡ length a + length b = length-append a b in
    let k : ℕ = bytes_for (i + length (a ++ b)) in
    laid_is (laid d i a) (i + length a) b k (omega arith)
    ∙ (λ j. pack k (bits_laid d i a ha h j ++ b) ++ later_laid d i a k (omega arith) j)
    ∙ ap (λ (l : List ℕ). pack k l ++ drop k d) (append_assoc (take i (bits_of d)) a b)
    ∙ sym (laid_is d i (a ++ b) k refl)

pub laid_start : (d r : List ℕ) → laid d 0 r ≡ pack ((length r + 7) / 8) r ++ drop ((length r + 7) / 8) d
laid_start d r = laid_is d 0 r ((length r + 7) / 8) (omega arith)

-- from a byte on, the buffer before it stays
pub laid_from : (d : List ℕ) (j i : ℕ) (r : List ℕ) → Bytes d → j ≤ length d → laid d (8 * j + i) r ≡ take j d ++ laid (drop j d) i r
laid_from d j i r hd le =
    let m : ℕ = bytes_for (i + length r) in
    let b : List ℕ = bits_of d in
    let n : 8 * j ≤ length (take (8 * j + i) b) = simp (length-take, length_bits) (omega arith) in
    let before : pack j (take (8 * j + i) b ++ r) ≡ take j d = pack_front j (take (8 * j + i) b) r n ∙ pack_take j (8 * j + i) b (omega arith) ∙ pack_bits_take j d hd le in
    let after : drop (8 * j) (take (8 * j + i) b ++ r) ≡ take i (bits_of (drop j d)) ++ r =
    drop-append-le (8 * j) (take (8 * j + i) b) r n
    ∙ ap (λ (l : List ℕ). l ++ r) (drop-take (8 * j) i b ∙ ap (take i) (bits_drop j d)) in
    laid_is d (8 * j + i) r (j + m) (omega arith)
    ∙ ap (λ (l : List ℕ). l ++ drop (j + m) d) (pack_append (j + m) j m (take (8 * j + i) b ++ r) refl)
    ∙ (λ k. (before k ++ pack m (after k)) ++ sym (drop-drop m j d) k)
    ∙ append_assoc (take j d) (pack m (take i (bits_of (drop j d)) ++ r)) (drop m (drop j d))
    ∙ ap (λ (l : List ℕ). take j d ++ l) (sym (laid_is (drop j d) i r m refl))

pub laid_nothing : (d : List ℕ) → laid d 0 [] ≡ d
unfolding pack
laid_nothing d = laid_start d []

-- at the end of a byte no bits change nothing; elsewhere its low bits become 0
pub laid_none : (d : List ℕ) (m : ℕ) → Bytes d → m ≤ 8 * length d → m % 8 ≡ 0 → laid d m [] ≡ d
laid_none d m hd le z =
    let j : ℕ = m / 8 in
    let e : m ≡ 8 * j + 0 = omega arith in
    ap (λ (i : ℕ). laid d i []) e ∙ laid_from d j 0 [] hd (omega arith) ∙ ap (λ (l : List ℕ). take j d ++ l) (laid_nothing (drop j d)) ∙ take-append-drop j d

-- ---- the parts of a buffer in which bits are laid: these bits, those before them, and those of later bytes

pub part_laid : (d : List ℕ) (i : ℕ) (r : List ℕ) → Small r → i ≤ 8 * length d → part (laid d i r) i (length r) ≡ r
unfolding part
part_laid d i r hr h =
    let n : length (take i (bits_of d)) ≡ i = length-take-le i (bits_of d) (rw length_bits h) in
    sym (drop-take i (length r) (bits_of (laid d i r))) ∙ ap (drop i) (bits_laid d i r hr h) ∙ drop_at (take i (bits_of d)) r i n

pub part_before : (d : List ℕ) (i : ℕ) (r : List ℕ) (f n : ℕ) → Small r → i ≤ 8 * length d → f + n ≤ i → part (laid d i r) f n ≡ part d f n
unfolding part
part_before d i r f n hr h le =
    let k : length (take i (bits_of d)) ≡ i = length-take-le i (bits_of d) (rw length_bits h) in
    let same : take (f + n) (bits_of (laid d i r)) ≡ take (f + n) (bits_of d) =
    sym (take-take (f + n) (i + length r) (bits_of (laid d i r)) (omega arith))
    ∙ ap (take (f + n)) (bits_laid d i r hr h)
    ∙ take-append-le (f + n) (take i (bits_of d)) r (omega arith)
    ∙ take-take (f + n) i (bits_of d) le in
    sym (drop-take f n (bits_of (laid d i r))) ∙ ap (drop f) same ∙ drop-take f n (bits_of d)

pub part_after : (d : List ℕ) (i : ℕ) (r : List ℕ) (f n : ℕ) → (i + length r + 7) / 8 ≤ f / 8 → part (laid d i r) f n ≡ part d f n
unfolding part
part_after d i r f n h =
    ap (take n) (rest (laid d i r) ∙ ap (λ (l : List ℕ). drop (f % 8) (bits_of l)) (later_laid d i r (f / 8) h) ∙ sym (rest d))
  where
    rest : (s : List ℕ) → drop f (bits_of s) ≡ drop (f % 8) (bits_of (drop (f / 8) s))
    rest s =
        let e : f ≡ 8 * (f / 8) + f % 8 = omega arith in
        ap (λ (k : ℕ). drop k (bits_of s)) e ∙ sym (drop-drop (f % 8) (8 * (f / 8)) (bits_of s)) ∙ ap (drop (f % 8)) (bits_drop (f / 8) s)

-- bits laid after those that bytes are made of are packed with them
pub laid_pack : (n : ℕ) (r b : List ℕ) → Small r → length r + length b ≤ 8 * n → laid (pack n r) (length r) b ≡ pack n (r ++ b)
laid_pack n r b h le =
    let k : ℕ = bytes_for (length r + length b) in
    let e : n ≡ k + (n - k) = omega arith in
    let m : length (r ++ b) ≡ length r + length b = length-append r b in
    laid_is (pack n r) (length r) b k refl
    ∙ (λ i. pack k (bits_pack n r h (omega arith) i ++ b) ++ drop_pack n k (n - k) r e i)
    ∙ ap (λ (l : List ℕ). pack k (r ++ b) ++ l) (ap (pack (n - k)) (drop_of_length-le r {i = 8 * k} (omega arith)) ∙ pack_none (n - k))
    ∙ sym (pack_rest n k (n - k) (r ++ b) e (omega arith))

-- ---- what is written

-- where it fits, and where not
pub wrote_laid : (d : List ℕ) (i : ℕ) (b : List ℕ) (n : ℕ) → n ≤ 128 → i + n ≤ 8 * length d → wrote d i b n ≡ laid d i (take n (bits_of b))
unfolding wrote
wrote_laid d i b n small fits = simp (le-leb n 128 small, le-leb (i + n) (8 * length d) fits)

pub wrote_long : (d : List ℕ) (i : ℕ) (b : List ℕ) (n : ℕ) → 128 < n → wrote d i b n ≡ d
unfolding wrote
wrote_long d i b n long = simp (lt-leb n 128 long)

pub wrote_past : (d : List ℕ) (i : ℕ) (b : List ℕ) (n : ℕ) → n ≤ 128 → 8 * length d < i + n → wrote d i b n ≡ d
unfolding wrote
wrote_past d i b n small past = simp (le-leb n 128 small, lt-leb (i + n) (8 * length d) past)

-- bits packed as `read` gives them
pub wrote_pack : (d : List ℕ) (i : ℕ) (r : List ℕ) (n : ℕ) → Small r → n ≡ length r → n ≤ 128 → i + n ≤ 8 * length d → wrote d i (pack 16 r) n ≡ laid d i r
wrote_pack d i r n h e small fits =
    wrote_laid d i (pack 16 r) n small fits
    ∙ ap (laid d i) (ap (λ (k : ℕ). take k (bits_of (pack 16 r))) e ∙ bits_pack 16 r h (omega arith))
