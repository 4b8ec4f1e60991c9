-- The 44 words of FIPS 197's key expansion are the round keys 0 to 10, one after the other. Assumes nothing.
use mathlib.Core.Path.{◌≡◌, refl, sym, ap, ◌∙◌}
use mathlib.Core.Bool.{cond}
use mathlib.Core.List.{List, [], ◌∷◌, ◌++◌, append_assoc, append-nil, flatten}
use Prim.Native.Nat.{ℕ, zero, suc, ◌+◌, ◌-◌, ◌*◌, ◌/◌, ◌%◌, ◌≤◌}
use native.Mathlib.Nat.{add-zero, add-suc, suc-add}
use native.Mathlib.Omega.{arith}
use lib.Dec.{eqb}
use lib.ListN.{length, get_or, length-append}
use lib.Seq.{get_or-append-add}
use Rattle.aes.specs.State.{Word, many, to_words}
use Rattle.aes.specs.KeyExpansion.{xor_word, sub_word, rot_word, rcon, next_key, round_key, key_expansion}
use Rattle.aes.specs.WordByWord.{temp, next_word, expansion}

-- the next word, by the words l after 4n others; m is how many l has
abbrev word : List Word → ℕ → ℕ → Word
word l n m =
    xor_word (get_or l (m - 4) [])
    (cond (eqb (m % 4) 0) (xor_word (sub_word (rot_word (get_or l (m - 1) []))) (rcon (n + m / 4 - 1) ∷ 0 ∷ 0 ∷ 0 ∷ [])) (get_or l (m - 1) []))

past : (p l : List Word) (n j k : ℕ) → length p ≡ 4 * n → k ≡ 4 * n + j → get_or (p ++ l) k [] ≡ get_or l j []
past p l n j k hp hk =
    let e : k ≡ length p + j = omega arith in
    rw e (get_or-append-add p l j [])

step : (p l : List Word) (n m : ℕ) → length p ≡ 4 * n → length l ≡ m → 4 ≤ m → next_word (p ++ l) ≡ p ++ (l ++ (word l n m ∷ []))
unfolding next_word temp
step p l n m hp hl hm =
    let z : length (p ++ l) ≡ 4 * n + m = length-append p l ∙ (omega arith) in
    let a : (4 * n + m) % 4 ≡ m % 4 = omega arith in
    let b : (4 * n + m) / 4 - 1 ≡ n + m / 4 - 1 = omega arith in
    let c : get_or (p ++ l) (4 * n + m - 4) [] ≡ get_or l (m - 4) [] = past p l n (m - 4) (4 * n + m - 4) hp (omega arith) in
    let d : get_or (p ++ l) (4 * n + m - 1) [] ≡ get_or l (m - 1) [] = past p l n (m - 1) (4 * n + m - 1) hp (omega arith) in
    rw (z, a, b, c, d, append_assoc)

-- four words more are the next round key
quad : (p : List Word) (a b c d : Word) (n : ℕ) → length p ≡ 4 * n
    → next_word (next_word (next_word (next_word (p ++ (a ∷ b ∷ c ∷ d ∷ []))))) ≡ (p ++ (a ∷ b ∷ c ∷ d ∷ [])) ++ next_key (a ∷ b ∷ c ∷ d ∷ []) (rcon n)
unfolding next_key
quad p a b c d n hp =
    let l : List Word = a ∷ b ∷ c ∷ d ∷ [] in
    let l5 : List Word = l ++ (word l n 4 ∷ []) in
    let l6 : List Word = l5 ++ (word l5 n 5 ∷ []) in
    let l7 : List Word = l6 ++ (word l6 n 6 ∷ []) in
    let r : n + 1 - 1 ≡ n = omega arith in
    ap (λ (x : List Word). next_word (next_word (next_word x))) (step p l n 4 hp refl (omega arith))
    ∙ ap (λ (x : List Word). next_word (next_word x)) (step p l5 n 5 hp refl (omega arith))
    ∙ ap next_word (step p l6 n 6 hp refl (omega arith))
    ∙ step p l7 n 7 hp refl (omega arith)
    ∙ rw (r, append_assoc)

abbrev Four : List Word → Type 0
Four k = k ≡ get_or k 0 [] ∷ get_or k 1 [] ∷ get_or k 2 [] ∷ get_or k 3 [] ∷ []

quad_key : (p k : List Word) (n : ℕ) → length p ≡ 4 * n → Four k → next_word (next_word (next_word (next_word (p ++ k)))) ≡ (p ++ k) ++ next_key k (rcon n)
quad_key p k n hp e =
    ap (λ (x : List Word). next_word (next_word (next_word (next_word (p ++ x))))) e
    ∙ quad p (get_or k 0 []) (get_or k 1 []) (get_or k 2 []) (get_or k 3 []) n hp
    ∙ ap (λ (x : List Word). (p ++ x) ++ next_key x (rcon n)) (sym e)

four_key : (w : List Word) → Four w → (n : ℕ) → Four (round_key w n)
unfolding round_key next_key
four_key w e zero = e
four_key w e (suc n) = refl

-- the round keys before round n, one after the other
abbrev keys : List Word → ℕ → List Word
keys w zero = []
keys w (suc n) = keys w n ++ round_key w n

keys_length : (w : List Word) → Four w → (n : ℕ) → length (keys w n) ≡ 4 * n
keys_length w e zero = refl
keys_length w e (suc n) =
    let i : length (keys w n) ≡ 4 * n = keys_length w e n in
    let k : length (round_key w n) ≡ 4 = ap length (four_key w e n) in
    length-append (keys w n) (round_key w n) ∙ (omega arith)

abbrev quads : List Word → ℕ → List Word
quads w zero = w
quads w (suc n) = next_word (next_word (next_word (next_word (quads w n))))

grown : (w : List Word) → Four w → (n : ℕ) → quads w n ≡ keys w n ++ round_key w n
unfolding round_key
grown w e zero = refl
grown w e (suc n) =
    ap (λ (x : List Word). next_word (next_word (next_word (next_word x)))) (grown w e n)
    ∙ quad_key (keys w n) (round_key w n) n (keys_length w e n) (four_key w e n)

by_quads : (w : List Word) → expansion w 40 ≡ quads w 10
unfolding expansion
by_quads w = refl

-- the round keys as a list of lists, joined
joined : (w : List Word) (k n : ℕ) → keys w n ++ flatten (many (round_key w) n k) ≡ keys w (n + k)
unfolding flatten
joined w zero n = append-nil (keys w n) ∙ ap (keys w) (sym (add-zero n))
joined w (suc k) n =
    sym (append_assoc (keys w n) (round_key w n) (flatten (many (round_key w) (suc n) k)))
    ∙ joined w k (suc n)
    ∙ ap (keys w) (suc-add n k ∙ sym (add-suc n k))

-- the document's 44 words
pub word_by_word : (key : List ℕ) → expansion (to_words key) 40 ≡ flatten (key_expansion key)
unfolding to_words key_expansion
word_by_word key = by_quads (to_words key) ∙ grown (to_words key) refl 10 ∙ sym (joined (to_words key) 11 0)
