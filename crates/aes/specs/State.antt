-- FIPS 197, sections 3.4 and 3.5: the state, four rows of four bytes, and words. Assumes nothing.
use Rattle.std.specs.Prelude.{ℕ, zero, suc, ◌+◌, ◌*◌, List, [], ◌∷◌, get_or}

-- four bytes
abbrev pub Word : Type 0
Word = List ℕ

-- four rows
abbrev pub State : Type 0
State = List (List ℕ)

-- four of a kind, by their index
abbrev pub four : {A : Type 0} → (ℕ → A) → List A
four f = f 0 ∷ f 1 ∷ f 2 ∷ f 3 ∷ []

-- k of a kind, by their index, from n on
abbrev pub many : {A : Type 0} → (ℕ → A) → ℕ → ℕ → List A
many f n zero = []
many f n (suc k) = f n ∷ many f (suc n) k

-- the state whose byte in row r and column c is f r c
abbrev pub grid : (ℕ → ℕ → ℕ) → State
grid f = four (λ r. four (λ c. f r c))

-- s[r, c]
abbrev pub at : State → ℕ → ℕ → ℕ
at s r c = get_or (get_or s r []) c 0

-- 3.4: s[r, c] = in[r + 4c]
unfoldable pub to_state : List ℕ → State
to_state b = grid (λ r c. get_or b (r + 4 * c) 0)

-- 3.4: out[r + 4c] = s[r, c]
unfoldable pub from_state : State → List ℕ
from_state s =
    at s 0 0 ∷ at s 1 0 ∷ at s 2 0 ∷ at s 3 0 ∷ at s 0 1 ∷ at s 1 1 ∷ at s 2 1 ∷ at s 3 1
    ∷ at s 0 2 ∷ at s 1 2 ∷ at s 2 2 ∷ at s 3 2 ∷ at s 0 3 ∷ at s 1 3 ∷ at s 2 3 ∷ at s 3 3 ∷ []

-- 3.5: the state as an array of four words, its columns. Rows and columns change places, so this also gives the state whose columns are
-- four words
unfoldable pub columns : State → List Word
columns s = four (λ c. four (λ r. at s r c))

-- sixteen bytes as four words
unfoldable pub to_words : List ℕ → List Word
to_words b = four (λ i. four (λ j. get_or b (4 * i + j) 0))
