-- `aes::steps::sub_bytes` meets its contract: the S-box at each byte is that of each row. Assumes nothing.
use Prim.Native.Nat.{ℕ, ◌<◌}
use mathlib.Core.Path.{◌≡◌, ◌∙◌}
use mathlib.Core.List.{[]}
use native.Mathlib.Omega.{arith}
use lib.ListN.{length, get_or}
use Rattle.aes.specs.State.{State}
use Rattle.aes.specs.KeyExpansion.{sub_word}
use Rattle.aes.specs.Steps.{sub_bytes}
use Rattle.aes.proofs.Lists.{four_equal, four_is}
use Rattle.aes.proofs.steps.sub_bytes.Goals as goal

by_rows : (s r : State) → length r ≡ 4 → ((i : ℕ) → i < 4 → get_or r i [] ≡ sub_word (get_or s i [])) → r ≡ sub_bytes s
unfolding sub_word sub_bytes
by_rows s r e h = four_is r [] e ∙ four_equal (h 0 (omega arith)) (h 1 (omega arith)) (h 2 (omega arith)) (h 3 (omega arith))

pub returns : goal.returns
returns c =
    let m = c.map.ensures.items in
    by_rows _ _ m.long (λ i h. (m.at i [] [] h).2.met)
