-- Many ticks, and words in which the theorems on them are stated.
use Rattle.std.specs.Prelude.{◌≡◌, List, [], ◌∷◌, ◌++◌, ℕ, ◌+◌, ◌-◌, ◌*◌, ◌≤◌, ◌<◌, max, length, take}
use Rattle.mode.specs.Rule.{Rule}
use Rattle.pace.specs.Tick.{hold, Held, opened, written, ticked}

-- so many places are enough for this order of a tick's parts; the theorems are stated for any hold from here on
abbrev pub least_hold : ℕ → ℕ
least_hold D = max (3 * D - 2) (D + 127)

-- all the input of some ticks
abbrev pub joined : {A : Type 0} → List (List A) → List A
joined [] = []
joined (i ∷ is) = i ++ joined is

-- each tick has D bits of input
abbrev pub Each : {A : Type 0} → ℕ → List (List A) → Type 0
Each D [] = Unit {0}
Each D (i ∷ is) = (length i ≡ D) × Each D is

module _ {A B : Type 0} (R : Rule A B) where
  -- a line after some ticks, and all that they wrote
  abbrev pub ticks : ℕ → Held R → List (List A) → Held R
  ticks D p [] = p
  ticks D p (i ∷ is) = ticks D (ticked R D p i) is

  abbrev pub sent : ℕ → Held R → List (List A) → List B
  sent D p [] = []
  sent D p (i ∷ is) = written R D p ++ sent D (ticked R D p i) is

  -- what 01's tests for 9 ask of the three on an open line, and that D places can leave at the next tick
  pub record Holds (D M : ℕ) (p : Held R) : Type 0 where
    pub together : length p.waiting + length p.ready + p.fillers ≡ M
    pub waiting_fits : length p.waiting ≤ M - D
    pub can_leave : D ≤ p.fillers + length p.ready

  -- bit n, counted from 0, leaves in tick number k, counted from 1: it is among the bits sent by then, and was not before
  pub record Leaves (D : ℕ) (p : Held R) (is : List (List A)) (n k : ℕ) : Type 0 where
    pub not_before : length (sent D p (take (k - 1) is)) ≤ n
    pub by_then : n < length (sent D p (take k is))

  -- P13, for a line with L 1 that opens in the state s
  pub record P13 (s : R.State) : Type 0 where
    pub hold_is : hold 64 ≡ 318
    -- ticks 1 to 4 give no bits, tick 5 gives 2
    pub gives_none : (is : List (List A)) → Each 64 is → length is < 4 → length (written R 64 (ticks 64 (opened R (hold 64) s) is)) ≡ 0
    pub gives_two : (is : List (List A)) → Each 64 is → length is ≡ 4 → length (written R 64 (ticks 64 (opened R (hold 64) s) is)) ≡ 2
    -- 64 wait after tick 1, none after tick 2
    pub waiting_one : (is : List (List A)) → Each 64 is → length is ≡ 1 → length (ticks 64 (opened R (hold 64) s) is).waiting ≡ 64
    pub waiting_two : (is : List (List A)) → Each 64 is → length is ≡ 2 → length (ticks 64 (opened R (hold 64) s) is).waiting ≡ 0
