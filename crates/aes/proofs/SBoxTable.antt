-- The code's table of the S-box has its rule at each of its 256 entries, by a test that antt computes. Assumes nothing.
use mathlib.Core.Path.{◌≡◌, ap, ◌∙◌}
use mathlib.Core.Bool.{Bool}
use Prim.Native.Nat.{ℕ, ◌<◌}
use lib.Dec.{T, eqb, eqb→eq}
use lib.ListN.{get_or}
use Rattle.aes.specs.declared.sbox.TheConstants.{SBOX}
use Rattle.aes.specs.SBox.{affine_bit, affine, s_box}
use Rattle.aes.proofs.Table.{at, every}
use Rattle.aes.proofs.Inverse.{inverses, inverse_at}

-- place k of the table is the affine map of place k of the inverses
abbrev mapped : ℕ → ℕ → Bool
mapped k x = eqb x (affine (get_or inverses k 0))

computed : T (every mapped 0 SBOX)
unfolding affine_bit affine
computed = tt

pub s_box_at : (k : ℕ) → k < 256 → get_or SBOX k 0 ≡ s_box k
unfolding s_box
s_box_at k h = eqb→eq (get_or SBOX k 0) (affine (get_or inverses k 0)) (at mapped SBOX computed k h) ∙ ap affine (inverse_at k h)
