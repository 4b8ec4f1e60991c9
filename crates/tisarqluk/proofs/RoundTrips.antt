-- A record that was stored is loaded as it was, and one that was loaded is stored as it was. Assumes nothing.
use mathlib.Core.Path.{◌≡◌}
use mathlib.Core.Bool.{true}
use mathlib.Core.List.{List}
use Prim.Native.Nat.{ℕ, ◌≤◌}
use native.Mathlib.Omega.{arith}
use lib.ListN.{length, get_or, drop, length-append}
use Rattle.bits.proofs.Lists.{Bytes}
use Rattle.line.specs.declared.record.Line.{Line}
use Rattle.tisarqluk.specs.FreeRecord.{line_bytes, line_in, stored_free, holds_free}
use Rattle.paced.specs.declared.record.Paced.{Paced}
use Rattle.tisarqluk.specs.PacedRecord.{paced_bytes, paced_in, stored_paced, holds_paced}
use Rattle.tisarqluk.proofs.Places.{flag_leb}
use Rattle.tisarqluk.proofs.Lines.{Shaped, length_line, in_of, of_in}
use Rattle.tisarqluk.proofs.Paces.{ShapedPaced, length_paced, closed_at, paced_in_of, paced_of_in}

-- ---- a free line's record

pub free_loaded_stored : (g : Line) (s : List ℕ) → Shaped g → (holds_free (stored_free g s) ≡ true) × (line_in (stored_free g s) ≡ g)
unfolding holds_free line_bytes
free_loaded_stored g s h = (grind (arith, length_line 70 g h, length-append (line_bytes 70 g) (drop 58 s), flag_leb g.receiving), in_of 70 g (drop 58 s) h)

free_held : (s : List ℕ) → holds_free s ≡ true → (58 ≤ length s) × ((get_or s 0 0 ≡ 70) × (get_or s 3 0 ≤ 1))
unfolding holds_free
free_held s h = grind arith

pub free_long : (s : List ℕ) → holds_free s ≡ true → 58 ≤ length s
free_long s h = (free_held s h).0

pub free_stored_loaded : (s : List ℕ) → Bytes s → holds_free s ≡ true → stored_free (line_in s) s ≡ s
free_stored_loaded s b h = let e = free_held s h in of_in 70 s e.0 e.1.0 e.1.1 b

-- ---- a paced line's record

pub paced_loaded_stored : (p : Paced) (s : List ℕ) → ShapedPaced p → (holds_paced (stored_paced p s) ≡ true) × (paced_in (stored_paced p s) ≡ p)
unfolding holds_paced paced_bytes line_bytes
paced_loaded_stored p s g = (
  grind (arith, length_paced p g, length-append (paced_bytes p) (drop 126 s), flag_leb p.line.receiving, closed_at p (drop 126 s) g),
  paced_in_of p (drop 126 s) g,
)

paced_held : (s : List ℕ) → holds_paced s ≡ true → (126 ≤ length s) × ((get_or s 0 0 ≡ 80) × ((get_or s 3 0 ≤ 1) × (get_or s 59 0 ≤ 1)))
unfolding holds_paced
paced_held s h = grind arith

pub paced_long : (s : List ℕ) → holds_paced s ≡ true → 126 ≤ length s
paced_long s h = (paced_held s h).0

pub paced_stored_loaded : (s : List ℕ) → Bytes s → holds_paced s ≡ true → stored_paced (paced_in s) s ≡ s
paced_stored_loaded s b h = let e = paced_held s h in paced_of_in s e.0 e.1.0 e.1.1.0 e.1.1.1 b
