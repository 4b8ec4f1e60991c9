-- A rule that takes bits one by one: a state, the state after a bit, the bit that comes out, and the blackout bits left (0 while scanning).
-- Nothing here says which cipher, which counter, which pattern, or whether the line sends or receives.
use Rattle.std.specs.Prelude.{◌≡◌, ◌⊎◌, List, [], ◌∷◌, ℕ, suc, ◌*◌, ◌≤◌}

pub record Rule (A B : Type 0) : Type 1 where
  pub State : Type 0
  pub next : State → A → State
  pub out : State → A → B
  pub left : State → ℕ

module _ {A B : Type 0} (R : Rule A B) where
  -- the state after some bits, and the bits that come out for them
  abbrev pub after : R.State → List A → R.State
  after s [] = s
  after s (x ∷ xs) = after (R.next s x) xs

  abbrev pub outs : R.State → List A → List B
  outs s [] = []
  outs s (x ∷ xs) = R.out s x ∷ outs (R.next s x) xs

-- A blackout lasts L blocks of 128 bits, begins only from scanning, and each of its bits takes one off.
pub record Blackout {A B : Type 0} (R : Rule A B) (L : ℕ) : Type 0 where
  pub some : 1 ≤ L
  pub scans : (s : R.State) (x : A) → R.left s ≡ 0 → (R.left (R.next s x) ≡ 0) ⊎ (R.left (R.next s x) ≡ 128 * L)
  pub counts : (s : R.State) (x : A) (k : ℕ) → R.left s ≡ suc k → R.left (R.next s x) ≡ k
