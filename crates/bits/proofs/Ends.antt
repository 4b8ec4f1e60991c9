-- The last byte touched: its bits past the end become 0. So octets that go on past the end, and are cleared from there on, are the bits asked for. Assumes nothing.
--     clear_byte        the code's way to clear
--     draw_is, read_is, write_is     what `draw`, `read` and `write` give, from what the steps in them ensure
use mathlib.Core.Path.{◌≡◌, refl, sym, ap, ◌∙◌}
use mathlib.Core.List.{List, [], ◌∷◌, ◌++◌, append-nil}
use Prim.Native.Nat.{ℕ, min, ◌+◌, ◌-◌, ◌*◌, ◌/◌, ◌%◌, ◌^◌, ◌≤◌, ◌<◌}
use native.Mathlib.Numerals.{add-one}
use native.Mathlib.Decide.{dec_lt}
use native.Mathlib.Omega.{arith}
use lib.ListN.{length, get_or, take, drop, set, length-take, length-drop}
use lib.Seq.{set_split, take-append-le, take-append-add, drop_at, drop-drop, length-take-le}
use Rattle.bits.specs.Bits.{bits_of, pack, part, laid, wrote, digits}
use Rattle.std.proofs.lemmas.List.{drop-replicate}
use borrow.Rule.Slice.PartMut.{put_mid}
use Rattle.bits.proofs.Lists.{Small, Bytes, zeros, small_append, small_drop, alike_take}
use Rattle.bits.proofs.Digits.{length_digits, small_digits}
use Rattle.bits.proofs.Packed.{length_bits, small_bits, bits_append, length_pack, bits_pack_at, pack_alike, pack_take, pack_rest}
use Rattle.bits.proofs.Laid.{laid_is, laid_from, wrote_laid}
use Rattle.bits.proofs.Octets.{coming, next_octet, coming_from, top_bits}

-- the first bits of a byte, and zeros
pub clear_byte : (d : List ℕ) (m top v : ℕ) → Bytes d → m ≤ 8 * length d → 0 < m % 8
    → top ≡ (0 * 256 + get_or d (m / 8) 0) / 2 ^ (8 - m % 8) % 256 → v ≡ (top * 256 + 0) / 2 ^ (m % 8) % 256
    → set d (m / 8) v ≡ laid d m []
unfolding pack bits_of
clear_byte d m top v h le some et ev =
    let j : ℕ = m / 8 in
    let e : ℕ = m % 8 in
    let z : 8 * j + e ≡ m = omega arith in
    let bits : digits e top ≡ take e (bits_of (drop j d)) = top_bits d j e (get_or d j 0) top h (omega arith) (omega arith) (omega arith) refl et in
    set_split d j v (omega arith)
    ∙ ap (λ (l : List ℕ). take j d ++ l)
    ((λ i. cleared i ++ ap (λ (n : ℕ). drop n d) (sym (add-one j)) i)
    ∙ (λ i. pack 1 (bits i ++ []) ++ sym (drop-drop 1 j d) i)
    ∙ sym (laid_is (drop j d) e [] 1 (omega arith)))
    ∙ sym (laid_from d j e [] h (omega arith))
    ∙ ap (λ (n : ℕ). laid d n []) z
  where
    cleared : v ∷ [] ≡ pack 1 (digits (m % 8) top ++ [])
    cleared = ap (λ (x : ℕ). x ∷ []) ev ∙ sym (next_octet (m % 8) top [] 0 (omega arith) (λ i. omega arith))

-- octets cleared from bit m on
cut_packed : (k m : ℕ) (r d : List ℕ) → k ≡ (m + 7) / 8 → Small r → laid (pack k r ++ d) m [] ≡ pack k (take m r) ++ d
cut_packed k m r d e h =
    let n : m ≤ length (bits_of (pack k r)) = omega (arith, length_bits (pack k r), length_pack k r) in
    let z : k ≡ (m + 0 + 7) / 8 = omega arith in
    let bits : take m (bits_of (pack k r ++ d)) ++ [] ≡ take m (bits_of (pack k r)) =
    append-nil (take m (bits_of (pack k r ++ d)))
    ∙ ap (take m) (bits_append (pack k r) d)
    ∙ take-append-le m (bits_of (pack k r)) (bits_of d) n in
    laid_is (pack k r ++ d) m [] k z
    ∙ (λ i. pack k (bits i) ++ drop_at (pack k r) d k (length_pack k r) i)
    ∙ ap (λ (l : List ℕ). l ++ d) (pack_alike k (take m (bits_of (pack k r))) (take m r) (alike_take (bits_of (pack k r)) r m (λ i lt. bits_pack_at k r i h (omega arith))))

small_coming : (q high : ℕ) (s : List ℕ) → Small (coming q high s)
small_coming q high s = small_append (digits q high) (bits_of s) (small_digits q high) (small_bits s)

-- a buffer filled with octets, from the byte that holds bit `from` on
pub draw_is : (s after : List ℕ) (from high n : ℕ) (u : List ℕ) → high ≡ get_or s (from / 8) 0 → after ≡ drop (from / 8 + 1) s
    → u ≡ pack n (coming (8 - from % 8) high after)
    → u ≡ pack n (drop from (bits_of s))
draw_is s after from high n u eh ea eu =
    let f : 8 * (from / 8) + from % 8 ≡ from = omega arith in
    eu
    ∙ (λ i. pack n (coming (8 - from % 8) (eh i) (ea i)))
    ∙ pack_alike n (coming (8 - from % 8) (get_or s (from / 8) 0) (drop (from / 8 + 1) s)) (drop (8 * (from / 8) + from % 8) (bits_of s)) (coming_from s (from / 8) (from % 8) (omega arith))
    ∙ ap (λ (j : ℕ). pack n (drop j (bits_of s))) f

-- the first of the sixteen bytes of zeros filled, and cleared from bit m on
pub read_is : (s : List ℕ) (from n m : ℕ) (u v : List ℕ) → m ≡ min n 128
    → u ≡ pack (length (take ((m + 7) / 8) (zeros 16))) (drop from (bits_of s))
    → v ≡ laid (u ++ drop ((m + 7) / 8) (zeros 16)) m []
    → v ≡ pack 16 (part s from n)
unfolding part
read_is s from n m u v em eu ev =
    let k : ℕ = (m + 7) / 8 in
    let p : List ℕ = drop from (bits_of s) in
    let w : 16 ≡ k + (16 - k) = omega arith in
    let o : length (take k (zeros 16)) ≡ k = length-take-le k (zeros 16) (omega arith) in
    let z : drop k (zeros 16) ≡ zeros (16 - k) = drop-replicate k 16 0 in
    ev
    ∙ (λ i. laid ((eu ∙ ap (λ (j : ℕ). pack j p) o) i ++ drop k (zeros 16)) m [])
    ∙ cut_packed k m p (drop k (zeros 16)) refl (small_drop (bits_of s) from (small_bits s))
    ∙ (λ i. pack k (take m p) ++ z i)
    ∙ sym (pack_rest 16 k (16 - k) (take m p) w (simp length-take (omega arith)))
    ∙ elim (dec_lt 128 n) [
      | yes more ↦ pack_take 16 m p (omega arith) ∙ sym (pack_take 16 n p (omega arith))
      | no all ↦ (let e : m ≡ n = omega arith in ap (λ (j : ℕ). pack 16 (take j p)) e)
    ]

-- the bytes touched, filled with octets behind the bits of the first one that stay, and cleared from the end on
pub write_is : (d : List ℕ) (at : ℕ) (b : List ℕ) (n end byte top : ℕ) (u v : List ℕ) → Bytes d → length b ≡ 16 → n ≤ 128
    → end ≡ at / 8 + (at % 8 + n + 7) / 8 → end ≤ length d
    → byte ≡ get_or d (at / 8) 0 → top ≡ (0 * 256 + byte) / 2 ^ (8 - at % 8) % 256
    → u ≡ pack (length (take (end - at / 8) (drop (at / 8) d))) (coming (at % 8) top b)
    → v ≡ laid u (at % 8 + n) []
    → put_mid (at / 8) (end - at / 8) d v ≡ wrote d at b n
write_is d at b n end byte top u v hd hb hn ee fits eb et eu ev =
    let j : ℕ = at / 8 in
    let k : ℕ = at % 8 in
    let m : ℕ = (k + n + 7) / 8 in
    let c : List ℕ = coming k top b in
    let r : List ℕ = take n (bits_of b) in
    let rest : List ℕ = drop j d in
    let z : 8 * j + k ≡ at = omega arith in
    let w : end - j ≡ m = omega arith in
    let o : length (take (end - j) rest) ≡ m = simp (length-take, length-drop) (omega arith) in
    let lr : length r ≡ n = length-take-le n (bits_of b) (rw length_bits (omega arith)) in
    let before : digits k top ≡ take k (bits_of rest) = top_bits d j k byte top hd (omega arith) (omega arith) (omega arith) eb et in
    let laid_here : take (k + n) c ≡ take k (bits_of rest) ++ r =
    ap (λ (i : ℕ). take (i + n) c) (sym (length_digits k top)) ∙ take-append-add (digits k top) (bits_of b) n ∙ ap (λ (l : List ℕ). l ++ r) before in
    let touched : v ≡ pack m (take k (bits_of rest) ++ r) =
    ev
    ∙ (λ i. laid ((eu ∙ ap (λ (h : ℕ). pack h c) o ∙ sym (append-nil (pack m c))) i) (k + n) [])
    ∙ cut_packed m (k + n) c [] refl (small_coming k top b)
    ∙ append-nil (pack m (take (k + n) c))
    ∙ ap (pack m) laid_here in
    (λ i. take j d ++ (touched i ++ drop (w i) rest))
    ∙ ap (λ (l : List ℕ). take j d ++ l) (sym (laid_is rest k r m (omega arith)))
    ∙ sym (laid_from d j k r hd (omega arith))
    ∙ ap (λ (i : ℕ). laid d i r) z
    ∙ sym (wrote_laid d at b n hn (omega arith))
