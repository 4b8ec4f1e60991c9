use mathlib.Core.Path.{◌≡◌}
use mathlib.Core.List.{map}
use Rattle.aes.specs.State.{columns}
use Rattle.aes.specs.Cipher.{rounds}
use Rattle.aes.proofs.encipher_by.Given as goal

abbrev pub invariant-loop-k : goal.invariant-loop-k
invariant-loop-k l = l.s ≡ rounds (map columns l.ks) l.initial.s l.k-index
