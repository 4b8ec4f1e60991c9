-- What a tick moves: w bits or none, so at most one move; never more than a block, and never past the end of a blackout.
use mathlib.Core.Path.{◌≡◌, refl}
use mathlib.Core.Logic.{◌⊎◌, inl, inr, ⊎_elim}
use mathlib.Core.List.{List, ◌++◌}
use Prim.Native.Nat.{ℕ, zero, suc, ◌≤◌, ◌<◌}
use native.Mathlib.Decide.{dec_le}
use native.Mathlib.Omega.{arith}
use lib.ListN.{length}
use borrow.Author.Tests.{le-leb, lt-leb}
use Rattle.mode.specs.Rule.{Rule}
use Rattle.pace.specs.Tick.{Held, width, moves, moving}

-- while scanning, and where a blackout has a block or more left, w is a block
pub width_block : (l : ℕ) → (l ≡ 0) ⊎ (128 ≤ l) → width l ≡ 128
width_block zero h = refl
width_block (suc k) h = ⊎_elim (λ z. absurd (omega arith)) (λ m. omega arith) h

-- where a blackout has less than a block left, w is the rest of it
pub width_rest : (l : ℕ) → 0 < l → l ≤ 128 → width l ≡ l
width_rest zero h m = absurd (omega arith)
width_rest (suc k) h m = omega arith

pub width_most : (l : ℕ) → width l ≤ 128
width_most zero = omega arith
width_most (suc k) = omega arith

pub moves_cases : (w n : ℕ) → ((w ≤ n) × (moves w n ≡ w)) ⊎ ((n < w) × (moves w n ≡ 0))
moves_cases w n = go (dec_le w n)
  where
    go : Dec (w ≤ n) → ((w ≤ n) × (moves w n ≡ w)) ⊎ ((n < w) × (moves w n ≡ 0))
    go (yes le) = inl (le, rw (le-leb w n le))
    go (no gt) = inr (omega arith, rw (lt-leb w n (omega arith)))

module _ {A B : Type 0} (R : Rule A B) (p : Held R) (input : List A) where
  within_both : (moving R p input ≤ width (R.left p.state)) × (moving R p input ≤ length (p.waiting ++ input))
  within_both =
      ⊎_elim (λ w. omega arith) (λ n. omega arith) (moves_cases (width (R.left p.state)) (length (p.waiting ++ input)))

  pub one_move_at_most : moving R p input ≤ width (R.left p.state)
  one_move_at_most = within_both.0

  pub moves_what_waits : moving R p input ≤ length (p.waiting ++ input)
  moves_what_waits = within_both.1

  pub stops_at_blackout_end : 0 < R.left p.state → moving R p input ≤ R.left p.state
  stops_at_blackout_end h = go (R.left p.state) h one_move_at_most
    where
      go : (l : ℕ) → 0 < l → moving R p input ≤ width l → moving R p input ≤ l
      go zero h m = absurd (omega arith)
      go (suc k) h m = omega arith
