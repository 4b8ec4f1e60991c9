-- An opening or a run whose input passes every test is done, and a line as it is opened passes them.
use Rattle.std.specs.Prelude.{Ok}
use mathlib.Core.Path.{◌≡◌, refl, sym}
use mathlib.Core.Bool.{Bool, false}
use mathlib.Core.List.{List}
use Prim.Native.Nat.{ℕ, ◌+◌, ◌*◌, ◌/◌, ◌<◌, ◌≤◌}
use native.Mathlib.Omega.{arith}
use lib.ListN.{length}
use borrow.Author.Tests.{eq-eqb, le-ltb}
use Rattle.bits.proofs.Packed.{pack_none}
use Rattle.line.specs.declared.record.Line.{Line}
use Rattle.line.specs.Free.{open_answer, fresh, run_answer}
use Rattle.line.specs.Tests.{faulty}
use Rattle.line.specs.Good.{Good}

pub opens : (key iv : List ℕ) (l : ℕ) → length key ≡ 16 → length iv ≡ 16 → 1 ≤ l → l ≤ 11 → open_answer key iv l ≡ Ok tt
unfolding open_answer
opens key iv l hk hv low high = rw (eq-eqb (length key) 16 hk, eq-eqb (length iv) 16 hv, le-ltb l 1 low, le-ltb 11 l high)

-- and only then is an opening done
pub opened_of : (key iv : List ℕ) (l : ℕ) → open_answer key iv l ≡ Ok tt → (1 ≤ l) × (l ≤ 11)
unfolding open_answer
opened_of key iv l e = grind (arith)

pub runs : (g : Line) (n : ℕ) (s d : List ℕ) → faulty g ≡ false → n ≤ 524288 → n ≤ 8 * length s → n ≤ 8 * length d → run_answer g n s d ≡ Ok tt
unfolding run_answer
runs g n s d f few hs hd =
    rw (f, le-ltb 524288 n few, le-ltb (length s) ((n + 7) / 8) (omega arith), le-ltb (length d) ((n + 7) / 8) (omega arith))

-- a line as it is opened
pub good_fresh : (key iv : List ℕ) (pattern l : ℕ) (receiving : Bool) → pattern < 256 → 1 ≤ l → l ≤ 11 → Good (fresh key iv pattern l receiving)
good_fresh key iv pattern l receiving p low high = record {
  l_low = low;
  l_high = high;
  place_in = omega arith;
  left_in = omega arith;
  collected_is = refl;
  seen_in = omega arith;
  pattern_in = p;
  window_in = omega arith;
  iv_is = sym (pack_none 16);
}
