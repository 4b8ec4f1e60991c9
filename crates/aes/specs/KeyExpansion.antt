-- FIPS 197, section 5.2: the key expansion of AES-128, one round key, of four words, from the one before. `proofs/Expansion.antt` proves
-- that these are the document's words, which `WordByWord.antt` has. Assumes nothing.
use Rattle.std.specs.Prelude.{ℕ, zero, suc, List, [], ◌∷◌, get_or}
use Rattle.aes.specs.Field.{◌⊕◌, xtime}
use Rattle.aes.specs.State.{Word, four, many, to_words}
use Rattle.aes.specs.SBox.{s_box}

-- the sum of two words, byte by byte
unfoldable pub xor_word : Word → Word → Word
xor_word a b = four (λ i. get_or a i 0 ⊕ get_or b i 0)

unfoldable pub sub_word : Word → Word
sub_word w = four (λ i. s_box (get_or w i 0))

unfoldable pub rot_word : Word → Word
rot_word w = get_or w 1 0 ∷ get_or w 2 0 ∷ get_or w 3 0 ∷ get_or w 0 0 ∷ []

-- the first byte of Rcon[n + 1] is x^n, and its other bytes are 0
unfoldable pub rcon : ℕ → ℕ
rcon zero = 1
rcon (suc n) = xtime (rcon n)

-- the four words after w, where c is the first byte of Rcon: w[i] = w[i - 4] ⊕ temp
unfoldable pub next_key : List Word → ℕ → List Word
next_key w c =
    let w4 = xor_word (get_or w 0 []) (xor_word (sub_word (rot_word (get_or w 3 []))) (c ∷ 0 ∷ 0 ∷ 0 ∷ [])) in
    let w5 = xor_word (get_or w 1 []) w4 in
    let w6 = xor_word (get_or w 2 []) w5 in
    let w7 = xor_word (get_or w 3 []) w6 in
    w4 ∷ w5 ∷ w6 ∷ w7 ∷ []

-- the round key of round n, the words w[4n] to w[4n + 3]; w is the key's own four words
unfoldable pub round_key : List Word → ℕ → List Word
round_key w zero = w
round_key w (suc n) = next_key (round_key w n) (rcon n)

-- the eleven round keys, of the rounds 0 to 10
unfoldable pub key_expansion : List ℕ → List (List Word)
key_expansion key = many (round_key (to_words key)) 0 11
