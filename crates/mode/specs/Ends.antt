-- The ends of patterns in a stream of line bits (01, "Line files and the two programs", what `syncs` prints). They depend on line bits alone, so that a
-- generator that gives nothing serves; over every other generator they are the same (proofs/Ends).
use Rattle.std.specs.Prelude.{Bool, false, cond, List, [], ◌∷◌, ℕ, suc, ◌+◌}
use Rattle.mode.specs.Mode.{Generator, Settings, State, stage, found, step, opened}

module _ (G : Generator) (S : Settings) where
  -- a pattern ends at the line bit v: the bit is scanned, and with it the window is the pattern
  abbrev pub ended : State G.State → ℕ → Bool
  ended s v = stage s.left (found G S s v) false false

  -- the numbers of the bits at which patterns end, after i earlier bits: the first bit of a stream has the number 1
  unfoldable pub ends : ℕ → State G.State → List ℕ → List ℕ
  ends i s [] = []
  ends i s (v ∷ vs) = cond (ended s v) (suc i ∷ ends (suc i) (step G S s v) vs) (ends (suc i) (step G S s v) vs)

-- no keystream
abbrev pub silent : Generator
silent = record { State = Unit {0}; bit = λ _. 0; next = λ g. g; load = λ _. tt }

-- the ends of all patterns in line bits, from an opening on
abbrev pub pattern_ends : Settings → List ℕ → List ℕ
pattern_ends S vs = ends silent S 0 (opened tt) vs

-- the number of the first bit under the new counter, for a pattern that ends at bit e: it follows the last bit of the blackout
abbrev pub under_new : Settings → ℕ → ℕ
under_new S e = e + S.lasts + 1
