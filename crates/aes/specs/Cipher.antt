-- FIPS 197, section 5.1: the cipher, for AES-128 (ten rounds). Assumes nothing.
use Rattle.std.specs.Prelude.{ℕ, zero, suc, List, [], get_or}
use Rattle.aes.specs.State.{State, Word, to_state, from_state}
use Rattle.aes.specs.Steps.{sub_bytes, shift_rows, mix_columns, add_round_key}
use Rattle.aes.specs.KeyExpansion.{key_expansion}

-- a round but the last, with its round key
unfoldable pub round_of : State → List Word → State
round_of s k = add_round_key (mix_columns (shift_rows (sub_bytes s))) k

-- the state s after the rounds 1 to n, by the round keys w
unfoldable pub rounds : List (List Word) → State → ℕ → State
rounds w s zero = s
rounds w s (suc n) = round_of (rounds w s n) (get_or w (suc n) [])

-- Cipher(in, w)
unfoldable pub cipher : List (List Word) → List ℕ → List ℕ
cipher w block =
    let first = add_round_key (to_state block) (get_or w 0 []) in
    let ninth = rounds w first 9 in
    from_state (add_round_key (shift_rows (sub_bytes ninth)) (get_or w 10 []))

-- AES-128 of a block
unfoldable pub aes128 : List ℕ → List ℕ → List ℕ
aes128 key block = cipher (key_expansion key) block
