-- FIPS 197, sections 5.1.1 to 5.1.4: the steps of a round. Assumes nothing.
use Rattle.std.specs.Prelude.{ℕ, ◌+◌, ◌%◌, List, [], ◌∷◌, get_or}
use Rattle.aes.specs.Field.{◌⊕◌, ◌•◌}
use Rattle.aes.specs.State.{State, Word, four, grid, at}
use Rattle.aes.specs.SBox.{s_box}

-- 5.1.1: the S-box at each byte
unfoldable pub sub_bytes : State → State
sub_bytes s = grid (λ r c. s_box (at s r c))

-- 5.1.2: row r is turned to the left by r places
unfoldable pub shift_rows : State → State
shift_rows s = grid (λ r c. at s r ((c + r) % 4))

-- 5.1.3: the matrix by which each column is multiplied
abbrev pub matrix : List Word
matrix = (2 ∷ 3 ∷ 1 ∷ 1 ∷ []) ∷ (1 ∷ 2 ∷ 3 ∷ 1 ∷ []) ∷ (1 ∷ 1 ∷ 2 ∷ 3 ∷ []) ∷ (3 ∷ 1 ∷ 1 ∷ 2 ∷ []) ∷ []

-- a row of it by a column: the sum of the products of their bytes
unfoldable pub row_by : Word → Word → ℕ
row_by a x = get_or a 0 0 • get_or x 0 0 ⊕ get_or a 1 0 • get_or x 1 0 ⊕ get_or a 2 0 • get_or x 2 0 ⊕ get_or a 3 0 • get_or x 3 0

unfoldable pub mix_column : Word → Word
mix_column x = four (λ r. row_by (get_or matrix r []) x)

unfoldable pub mix_columns : State → State
mix_columns s = grid (λ r c. get_or (mix_column (four (λ k. at s k c))) r 0)

-- 5.1.4: word c of the round key is added to column c
unfoldable pub add_round_key : State → List Word → State
add_round_key s w = grid (λ r c. at s r c ⊕ at w c r)
