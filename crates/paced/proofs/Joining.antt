-- The queue as packed bits. Bytes made of few enough bits have these bits and then zeros, so what leaves, joins or changes there is said on the bits.
use mathlib.Core.Path.{◌≡◌, sym, ap, subst, ◌∙◌}
use mathlib.Core.List.{List, [], ◌++◌, append_assoc}
use Prim.Native.Nat.{ℕ, ◌+◌, ◌-◌, ◌*◌, ◌/◌, ◌%◌, ◌≤◌}
use native.Mathlib.Omega.{arith}
use lib.ListN.{length, take, drop, length-append, length-drop, take-append-drop}
use lib.Seq.{drop-drop, drop_at, length-take-le}
use Rattle.bits.specs.Bits.{bits_of, pack, part, laid, wrote}
use Rattle.bits.proofs.Lists.{Small, Bytes, small_take, bytes_drop}
use Rattle.bits.proofs.Packed.{length_bits, small_bits, length_pack, bits_drop, pack_append, pack_front, pack_bits, pack_past}
use Rattle.bits.proofs.Parts.{part_is, small_part, length_part, part_start, part_drop}
use Rattle.bits.proofs.Laid.{laid_is, laid_laid, laid_pack, length_laid, wrote_laid, wrote_pack}

pub length_packed : (q x : List ℕ) → q ≡ pack 60 x → length q ≡ 60
length_packed q x e = ap length e ∙ length_pack 60 x

-- ---- bits leave and join

pub joined_is : (q input b t e : List ℕ) (r n d : ℕ) → q ≡ pack 60 (part q 0 (r + n)) → r + n ≤ 480 → n + d ≤ 480 → d ≤ 128 → d ≤ 8 * length input
    → t ≡ pack 60 (drop r (bits_of q)) → b ≡ pack 16 (part input 0 d) → e ≡ wrote t n b d
    → e ≡ pack 60 (part q r n ++ part input 0 d)
joined_is q input b t e r n d is fit room few more drawn read wrote_is =
    let x : List ℕ = part q 0 (r + n) in
    let lq : length q ≡ 60 = length_packed q x is in
    let lx : length x ≡ r + n = length_part q 0 (r + n) (omega arith) in
    let lp : length (part q r n) ≡ n = length_part q r n (omega arith) in
    let li : length (part input 0 d) ≡ d = length_part input 0 d (omega arith) in
    let small : Small x = small_part q 0 (r + n) in
    let stays : t ≡ pack 60 (part q r n) =
    drawn ∙ ap (λ (l : List ℕ). pack 60 (drop r (bits_of l))) is ∙ pack_past 60 [] x r small (omega arith) ∙ ap (pack 60) (part_drop q r n) in
    let lt : length t ≡ 60 = length_packed t (part q r n) stays in
    wrote_is
    ∙ ap (λ (l : List ℕ). wrote t n l d) read
    ∙ wrote_pack t n (part input 0 d) d (small_part input 0 d) (sym li) few (omega arith)
    ∙ (λ i. laid (stays i) (sym lp i) (part input 0 d))
    ∙ laid_pack 60 (part q r n) (part input 0 d) (small_part q r n) (omega arith)

-- ---- bits change: those behind them in the last byte are written again

pub replaced_is : (q b kept t e : List ℕ) (at n end rest : ℕ) → length q ≡ 60 → Bytes q → length b ≡ 16 → n ≤ 128 → end ≡ at + n → end ≤ 480 → rest ≡ (8 - end % 8) % 8
    → kept ≡ pack 16 (part q end rest) → t ≡ wrote q at b n → e ≡ wrote t end kept rest
    → e ≡ pack 60 (part q 0 at ++ (take n (bits_of b) ++ drop end (bits_of q)))
replaced_is q b kept t e at n end rest lq hq lb few ee le er read first second =
    let B : List ℕ = bits_of q in
    let O : List ℕ = take n (bits_of b) in
    let T : List ℕ = part q end rest in
    let N : ℕ = (end + rest) / 8 in
    let X : List ℕ = take at B ++ (O ++ T) in
    let whole : end + rest ≡ 8 * N = omega arith in
    let fits : N ≤ 60 = omega arith in
    let l_b : length B ≡ 480 = length_bits q ∙ ap (λ (k : ℕ). 8 * k) lq in
    let l_o : length O ≡ n = length-take-le n (bits_of b) (rw length_bits (omega arith)) in
    let l_t : length T ≡ rest = length_part q end rest (omega arith) in
    let l_a : length (take at B) ≡ at = length-take-le at B (omega arith) in
    let l_ot : length (O ++ T) ≡ n + rest = length-append O T ∙ (λ i. l_o i + l_t i) in
    let l_x : length X ≡ 8 * N = length-append (take at B) (O ++ T) ∙ (λ i. l_a i + l_ot i) ∙ (let z : at + (n + rest) ≡ 8 * N = omega arith in z) in
    let small_o : Small O = small_take n (bits_of b) (small_bits b) in
    let one : t ≡ laid q at O = first ∙ wrote_laid q at b n few (omega arith) in
    let lt : length t ≡ 60 = ap length one ∙ length_laid q at O (omega arith) ∙ lq in
    let at_end : end ≡ at + length O = omega arith in
    let two : e ≡ laid q at (O ++ T) =
    second
    ∙ ap (λ (l : List ℕ). wrote t end l rest) read
    ∙ wrote_pack t end T rest (small_part q end rest) (sym l_t) (omega arith) (omega arith)
    ∙ (λ i. laid (one i) (at_end i) T)
    ∙ laid_laid q at O T small_o (omega arith) in
    let D : List ℕ = drop rest (drop end B) in
    let behind : drop end B ≡ T ++ D = sym (ap (λ (l : List ℕ). l ++ D) (part_is q end rest) ∙ take-append-drop rest (drop end B)) in
    let regroup : take at B ++ (O ++ drop end B) ≡ X ++ D =
    ap (λ (l : List ℕ). take at B ++ (O ++ l)) behind ∙ ap (λ (l : List ℕ). take at B ++ l) (sym (append_assoc O T D)) ∙ sym (append_assoc (take at B) (O ++ T) D) in
    let tail : D ≡ bits_of (drop N q) = drop-drop rest end B ∙ ap (λ (k : ℕ). drop k B) whole ∙ bits_drop N q in
    let ld : length (drop N q) ≡ 60 - N = length-drop N q ∙ ap (λ (k : ℕ). k - N) lq in
    let later : pack (60 - N) (drop (8 * N) (X ++ D)) ≡ drop N q =
    ap (pack (60 - N)) (drop_at X D (8 * N) l_x ∙ tail)
    ∙ subst (λ (k : ℕ). pack k (bits_of (drop N q)) ≡ drop N q) ld (pack_bits (drop N q) (bytes_drop q N hq)) in
    two
    ∙ laid_is q at (O ++ T) N (omega (arith, l_ot))
    ∙ (λ i. sym (pack_front N X D (omega (arith, l_x))) i ++ sym later i)
    ∙ sym (pack_append 60 N (60 - N) (X ++ D) (omega arith))
    ∙ ap (pack 60) (sym regroup ∙ ap (λ (l : List ℕ). l ++ (O ++ drop end B)) (sym (part_start q at)))
