-- FIPS 197, section 5.2, as its pseudocode has it: the key expansion word by word. Assumes nothing.
use Rattle.std.specs.Prelude.{ℕ, zero, suc, ◌-◌, ◌/◌, ◌%◌, cond, List, [], ◌∷◌, ◌++◌, eqb, length, get_or}
use Rattle.aes.specs.State.{Word}
use Rattle.aes.specs.KeyExpansion.{xor_word, sub_word, rot_word, rcon}

-- temp at word i: SubWord(RotWord(w[i - 1])) ⊕ Rcon[i / 4] where 4 divides i, and w[i - 1] where it does not
unfoldable pub temp : List Word → ℕ → Word
temp w i =
    cond (eqb (i % 4) 0) (xor_word (sub_word (rot_word (get_or w (i - 1) []))) (rcon (i / 4 - 1) ∷ 0 ∷ 0 ∷ 0 ∷ [])) (get_or w (i - 1) [])

-- one word more: w[i] = w[i - 4] ⊕ temp
unfoldable pub next_word : List Word → List Word
next_word w = w ++ (xor_word (get_or w (length w - 4) []) (temp w (length w)) ∷ [])

-- n words more
unfoldable pub expansion : List Word → ℕ → List Word
expansion w zero = w
expansion w (suc n) = next_word (expansion w n)
