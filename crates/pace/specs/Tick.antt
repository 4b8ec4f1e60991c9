-- A paced line: its opening, one tick, its closing (01, "The tick"; source document 003), over any bit rule.
use Rattle.std.specs.Prelude.{cond, List, [], ◌++◌, ℕ, zero, suc, ◌+◌, ◌-◌, ◌*◌, min, leb, length, take, drop}
use Rattle.mode.specs.Rule.{Rule, after, outs}

-- M, the places that a line holds: fillers, ready bits and waiting bits
abbrev pub hold : ℕ → ℕ
hold D = 128 + 3 * D - 2

-- what a line holds between ticks: the bit rule's state, ready and waiting bits, oldest first, and the number of fillers before them
pub record Held {A B : Type 0} (R : Rule A B) : Type 0 where
  pub state : R.State
  pub ready : List B
  pub waiting : List A
  pub fillers : ℕ

-- w: 128, or, during a blackout with fewer than 128 bits left, that many
abbrev pub width : ℕ → ℕ
width zero = 128
width (suc k) = min 128 (suc k)

-- how many of n waiting bits pass: exactly w where so many wait, otherwise none
abbrev pub moves : ℕ → ℕ → ℕ
moves w n = cond (leb w n) w 0

module _ {A B : Type 0} (R : Rule A B) where
  abbrev pub opened : ℕ → R.State → Held R
  opened M s = record { state = s; ready = []; waiting = []; fillers = M }

  -- ---- one tick of D bits

  -- D places leave, fillers first: so many of them are ready bits
  abbrev pub leaving : ℕ → Held R → ℕ
  leaving D p = D - p.fillers

  -- the line bits that are written: ready bits, oldest first, and no fillers
  abbrev pub written : ℕ → Held R → List B
  written D p = take (leaving D p) p.ready

  -- the input bits join the waiting bits; so many of these pass, those that do, and those that go on waiting
  abbrev pub moving : Held R → List A → ℕ
  moving p input = moves (width (R.left p.state)) (length (p.waiting ++ input))

  abbrev pub passing : Held R → List A → List A
  passing p input = take (moving p input) (p.waiting ++ input)

  abbrev pub staying : Held R → List A → List A
  staying p input = drop (moving p input) (p.waiting ++ input)

  unfoldable pub ticked : ℕ → Held R → List A → Held R
  ticked D p input =
      record {
        state = after R p.state (passing p input);
        ready = drop (leaving D p) p.ready ++ outs R p.state (passing p input);
        waiting = staying p input;
        fillers = p.fillers - D;
      }

  -- ---- closing

  -- what closing writes: the ready bits, and then all waiting bits, passed
  abbrev pub closing : Held R → List B
  closing p = p.ready ++ outs R p.state p.waiting

  -- a closed line holds nothing: the fillers are dropped
  abbrev pub closed : Held R → Held R
  closed p = record { state = after R p.state p.waiting; ready = []; waiting = []; fillers = 0 }
