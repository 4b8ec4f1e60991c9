-- Words in which the theorems on the bit rule are stated.
use Rattle.std.specs.Prelude.{◌≡◌, List, [], ◌∷◌, true, ℕ, zero, suc, ◌+◌, ◌-◌, ◌%◌, ◌≤◌, min, length}
use Rattle.mode.specs.Mode.{Generator, Settings, State, Bits, step, line, found, fed}

-- n keystream bits from a state of the generator on, and the state after them
abbrev pub stream : (G : Generator) → G.State → ℕ → List ℕ
stream G g zero = []
stream G g (suc n) = G.bit g ∷ stream G (G.next g) n

abbrev pub nexts : (G : Generator) → G.State → ℕ → G.State
nexts G g zero = g
nexts G g (suc n) = nexts G (G.next g) n

-- bit by bit the sum modulo 2
unfoldable pub plus : List ℕ → List ℕ → List ℕ
plus [] k = []
plus (x ∷ xs) [] = x ∷ xs
plus (x ∷ xs) (k ∷ ks) = (x + k) % 2 ∷ plus xs ks

module _ (G : Generator) (S : Settings) where
  -- in a run from s over these bits the generator is not set, unless by the last one
  abbrev pub Unset : State G.State → List ℕ → Type 0
  Unset s [] = Unit {0}
  Unset s (b ∷ []) = Unit {0}
  Unset s (b ∷ c ∷ r) = (s.left ≡ 1 → ⊥) × Unset (step G S s (line G S s b)) (c ∷ r)

  -- fed the line bits us, a line finds a pattern that ends at the next one, v
  pub record Finds (s : State G.State) (us : List ℕ) (v : ℕ) : Type 0 where
    pub scanning : (fed G S s us).left ≡ 0
    pub match : found G S (fed G S s us) v ≡ true

-- the ranges of 01's tests for 9, which every state reached from an opening keeps: the IV bits due, and the most window bits
abbrev pub due : Settings → ℕ → ℕ
due S zero = 0
due S (suc k) = min S.collects (S.lasts - suc k)

abbrev pub most : Settings → ℕ → ℕ
most S zero = length S.pattern - 1
most S (suc k) = 0

pub record Within {X : Type 0} (S : Settings) (s : State X) : Type 0 where
  pub left_in : s.left ≤ S.lasts
  pub collected_is : length s.collected ≡ due S s.left
  pub window_in : length s.window ≤ most S s.left
  pub collected_bits : Bits s.collected
  pub window_bits : Bits s.window
