-- A generator that gives keystream in blocks: the block of a counter is what the cipher makes of it, and the next counter is the one that follows
-- (source document 001, figures 2 and 4; document 003). The length of a block, the cipher, the step and the counter that IV bits make are given.
use Rattle.std.specs.Prelude.{cond, List, [], ◌++◌, ℕ, zero, suc, ltb, get_or}
use Rattle.mode.specs.Mode.{Generator}

-- the counter, and the place of the next keystream bit in its block
pub record Position (X : Type 0) : Type 0 where
  pub counter : X
  pub place : ℕ

module _ {X : Type 0} (size : ℕ) (encipher : X → List ℕ) (step : X → X) where
  -- the position after one keystream bit: the next place, or the first place of the next counter's block
  abbrev pub onward : Position X → Position X
  onward p = cond (ltb (suc p.place) size) (record { counter = p.counter; place = suc p.place }) (record { counter = step p.counter; place = 0 })

  abbrev pub blocks : (List ℕ → X) → Generator
  blocks load = record {
    State = Position X;
    bit = λ p. get_or (encipher p.counter) p.place 0;
    next = onward;
    load = λ b. record { counter = load b; place = 0 };
  }

  -- the blocks of m successive counters, one after the other
  abbrev pub keystream : X → ℕ → List ℕ
  keystream c zero = []
  keystream c (suc m) = encipher c ++ keystream (step c) m
