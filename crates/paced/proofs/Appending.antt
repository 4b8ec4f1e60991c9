-- Bits appended to an output: the writer is lent the part from the current byte on, and bits laid after others are laid as one with them.
use mathlib.Core.Path.{◌≡◌, sym, ap, ◌∙◌}
use mathlib.Core.List.{List, [], ◌++◌, append-nil}
use Prim.Native.Nat.{ℕ, ◌+◌, ◌-◌, ◌*◌, ◌/◌, ◌%◌, ◌≤◌}
use native.Mathlib.Omega.{arith}
use lib.ListN.{length, take, drop, length-drop, drop_of_length-le}
use lib.Seq.{take_all}
use Rattle.bits.specs.Bits.{bits_of, pack, part, laid, wrote}
use Rattle.bits.proofs.Lists.{Bytes}
use Rattle.bits.proofs.Parts.{small_part, length_part, part_split, part_start, pack_part}
use Rattle.bits.proofs.Laid.{laid_from, laid_laid, length_laid, wrote_laid}

-- the part that is lent comes back into its place
pub appended : (o y b : List ℕ) (at n : ℕ) → Bytes o → n ≤ 128 → at + n ≤ 8 * length o
    → y ≡ wrote (take (length o - at / 8) (drop (at / 8) o)) (at % 8) b n
    → take (at / 8) o ++ (y ++ drop (length o - at / 8) (drop (at / 8) o)) ≡ laid o at (take n (bits_of b))
appended o y b at n h few fits e =
    let j : ℕ = at / 8 in
    let l : length (drop j o) ≡ length o - j = length-drop j o in
    let none : drop (length o - j) (drop j o) ≡ [] = drop_of_length-le (drop j o) {i = length o - j} (omega arith) in
    let all : take (length o - j) (drop j o) ≡ drop j o = take_all (length o - j) (drop j o) (omega arith) in
    let z : 8 * j + at % 8 ≡ at = omega arith in
    (λ i. take j o ++ (e i ++ none i))
    ∙ ap (λ (x : List ℕ). take j o ++ x) (append-nil (wrote (take (length o - j) (drop j o)) (at % 8) b n) ∙ ap (λ (x : List ℕ). wrote x (at % 8) b n) all ∙ wrote_laid (drop j o) (at % 8) b n few (omega arith))
    ∙ sym (laid_from o j (at % 8) (take n (bits_of b)) h (omega arith))
    ∙ ap (λ (i : ℕ). laid o i (take n (bits_of b))) z

-- the bits that were read
pub bits_read : (q b : List ℕ) (i n : ℕ) → b ≡ pack 16 (part q i n) → n ≤ 128 → i + n ≤ 8 * length q → part b 0 n ≡ part q i n
bits_read q b i n e few fits = part_start b n ∙ ap (λ (l : List ℕ). take n (bits_of l)) e ∙ pack_part q i n 16 (omega arith) fits

-- the output keeps its length
pub same : (q o₀ o : List ℕ) (i : ℕ) → i ≤ 8 * length q → i ≤ 8 * length o₀ → o ≡ laid o₀ 0 (part q 0 i) → length o ≡ length o₀
same q o₀ o i fit room e =
    let l : length (part q 0 i) ≡ i = length_part q 0 i (omega arith) in
    ap length e ∙ length_laid o₀ 0 (part q 0 i) (omega arith)

-- bits of the queue copied after those before them
pub copied : (q o₀ o e b : List ℕ) (i k j : ℕ) → j ≡ i + k → j ≤ 8 * length q → k ≤ 128
    → o ≡ laid o₀ 0 (part q 0 i) → b ≡ pack 16 (part q i k) → e ≡ laid o i (take k (bits_of b)) → e ≡ laid o₀ 0 (part q 0 j)
copied q o₀ o e b i k j is fits few before read now =
    let P : List ℕ = part q 0 i in
    let l : i ≡ 0 + length P = (let m : length P ≡ i = length_part q 0 i (omega arith) in omega arith) in
    let z : 0 + i ≡ i = omega arith in
    let here : take k (bits_of b) ≡ part q i k = sym (part_start b k) ∙ bits_read q b i k read few (omega (arith, is)) in
    now
    ∙ (λ j. laid (before j) (l j) (here j))
    ∙ laid_laid o₀ 0 P (part q i k) (small_part q 0 i) (omega arith)
    ∙ ap (laid o₀ 0) (ap (λ (n : ℕ). P ++ part q n k) (sym z) ∙ sym (part_split q 0 i k) ∙ ap (part q 0) (sym is))
