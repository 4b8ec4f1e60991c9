-- A list of 4,096 numbers holds all ends of every file that is not refused, so that nothing is dropped.
use Rattle.std.specs.Prelude.{Ok}
use mathlib.Core.Path.{◌≡◌}
use mathlib.Core.List.{List}
use Prim.Native.Nat.{ℕ, ◌*◌, ◌<◌, ◌≤◌}
use native.Mathlib.Omega.{arith}
use lib.ListN.{length}
use Rattle.bits.proofs.Digits.{length_digits}
use Rattle.bits.proofs.Parts.{length_part}
use Rattle.linefile.specs.File.{count_of, bits_at, l_of, pattern_of, bits_of_file, read_answer}
use Rattle.linefile.specs.Syncs.{scanned, ends_in}
use Rattle.linefile.proofs.Areas.{passed, bits_inside}
use Rattle.linefile.proofs.FewEnds.{ends_are_few}

pub all_stored : (s : List ℕ) → read_answer s ≡ Ok tt → length (ends_in s) < 4096
all_stored s e =
    let i = bits_inside s e in
    let l : 1 ≤ l_of s = grind (arith, (passed s e).blackout) in
    omega (arith, i.1, length_part s (8 * bits_at s) (count_of s) i.0, ends_are_few (scanned (pattern_of s) (l_of s)) (bits_of_file s) (length_digits 8 (pattern_of s)) (omega (arith, l)))
