-- The bit rule (01, "The bit rule"; source document 001), over any keystream generator. Bits are the numbers 0 and 1.
use Rattle.std.specs.Prelude.{Bool, true, false, cond, List, [], ◌∷◌, ◌++◌, ℕ, zero, suc, ◌+◌, ◌-◌, ◌%◌, ◌<◌, eqb, length, take, drop}
use Rattle.mode.specs.Rule.{Rule}

-- ---- settings and state

-- a keystream generator: the bit that a state gives, the state after that bit, and the state that collected IV bits make
pub record Generator : Type 1 where
  pub State : Type 0
  pub bit : State → ℕ
  pub next : State → State
  pub load : List ℕ → State

-- the pattern, how many IV bits are collected, how many bits a blackout lasts, the direction
pub record Settings : Type 0 where
  pub pattern : List ℕ
  pub collects : ℕ
  pub lasts : ℕ
  pub sending : Bool

-- the generator's state, the window, the blackout bits left (0 while scanning), the IV bits collected
pub record State (X : Type 0) : Type 0 where
  pub generator : X
  pub window : List ℕ
  pub left : ℕ
  pub collected : List ℕ

-- ---- words

-- by the blackout bits left: scanning, the last bit of a blackout, a bit before the last
abbrev pub stage {ℓ} : {A : Type ℓ} → ℕ → A → A → A → A
stage zero a b c = a
stage (suc zero) a b c = b
stage (suc (suc k)) a b c = c

-- the last n of a list
abbrev pub last : ℕ → List ℕ → List ℕ
last n l = drop (length l - n) l

-- whether two lists of bits are the same
unfoldable pub same : List ℕ → List ℕ → Bool
same [] [] = true
same [] (y ∷ b) = false
same (x ∷ a) [] = false
same (x ∷ a) (y ∷ b) = cond (eqb x y) (same a b) false

-- ---- one bit

module _ (G : Generator) (S : Settings) where
  -- the bit that comes out: the input bit plus the next keystream bit, modulo 2
  abbrev pub out : State G.State → ℕ → ℕ
  out s b = (b + G.bit s.generator) % 2

  -- the line bit: what a sender sends, what a receiver is given
  abbrev pub line : State G.State → ℕ → ℕ
  line s b = cond S.sending (out s b) b

  -- the line bits seen while scanning, with the line bit v: at most as many as the pattern has
  abbrev pub seen : State G.State → ℕ → List ℕ
  seen s v = s.window ++ (v ∷ [])

  abbrev pub found : State G.State → ℕ → Bool
  found s v = same (seen s v) S.pattern

  -- the IV bits collected, with the line bit v: the first ones of the blackout
  abbrev pub gathered : State G.State → ℕ → List ℕ
  gathered s v = take S.collects (s.collected ++ (v ∷ []))

  -- the state after the line bit v: everything but the bit that comes out depends on line bits alone
  unfoldable pub step : State G.State → ℕ → State G.State
  step s v =
      stage s.left
      -- scanning: the blackout begins with the next bit, or the window moves on
      (cond (found s v)
      (record { generator = G.next s.generator; window = []; left = S.lasts; collected = [] })
      (record { generator = G.next s.generator; window = last (length S.pattern - 1) (seen s v); left = 0; collected = [] }))
      -- the last bit of a blackout: the collected IV sets the generator, and scanning begins again with an empty window
      (record { generator = G.load (gathered s v); window = []; left = 0; collected = [] })
      -- an earlier bit of a blackout: the generator goes on
      (record { generator = G.next s.generator; window = []; left = s.left - 1; collected = gathered s v })

  abbrev pub rule : Rule ℕ ℕ
  rule = record { State = State G.State; next = λ s b. step s (line s b); out = out; left = λ s. s.left }

  -- the state after many line bits
  abbrev pub fed : State G.State → List ℕ → State G.State
  fed s [] = s
  fed s (v ∷ vs) = fed (step s v) vs

  -- the line bits of a run
  abbrev pub lines : State G.State → List ℕ → List ℕ
  lines s [] = []
  lines s (b ∷ r) = line s b ∷ lines (rule.next s b) r

-- a state as an opening leaves it
abbrev pub opened : {X : Type 0} → X → State X
opened g = record { generator = g; window = []; left = 0; collected = [] }

-- ---- the two directions

abbrev pub toward : Bool → Settings → Settings
toward d S = record { pattern = S.pattern; collects = S.collects; lasts = S.lasts; sending = d }

abbrev pub sends : Generator → Settings → Rule ℕ ℕ
sends G S = rule G (toward true S)

abbrev pub receives : Generator → Settings → Rule ℕ ℕ
receives G S = rule G (toward false S)

-- all are bits
abbrev pub Bits : List ℕ → Type 0
Bits [] = Unit {0}
Bits (x ∷ l) = (x < 2) × Bits l
