-- A stretch as its functions give it: the record holds the state that the mode reaches, the bits laid are those that come out, and the keystream block
-- stays the counter's unless the place comes back to 0, where it is made anew.
use mathlib.Core.Path.{◌≡◌, refl, sym, ap, subst, ◌∙◌}
use mathlib.Core.List.{List}
use Prim.Native.Nat.{ℕ, ◌+◌, ◌-◌, ◌<◌, ◌≤◌}
use native.Mathlib.Omega.{arith}
use lib.Dec.{ltb}
use lib.ListN.{length, take}
use Rattle.mode.specs.Rule.{after, outs}
use Rattle.mode.proofs.Cases.{picked}
use Rattle.bits.specs.Bits.{bits_of, part, laid, wrote}
use Rattle.bits.proofs.Parts.{small_part, length_part, take_part}
use Rattle.bits.proofs.Laid.{wrote_laid}
use Rattle.aes.specs.Cipher.{aes128}
use Rattle.counter.specs.declared.Position.{Position}
use Rattle.counter.proofs.Laws.{advanced_cases}
use Rattle.line.specs.declared.record.Line.{Line}
use Rattle.line.specs.declared.search.Finding.{Finding}
use Rattle.line.specs.declared.cover.Covered.{Covered}
use Rattle.line.specs.declared.going.Going.{Going}
use Rattle.line.specs.View.{rule_of, view, holding}
use Rattle.line.specs.Good.{Good}
use Rattle.line.specs.Inner.{Found, Covers, moved_on, scanned_to, darkened_by, Room, Stretched}
use Rattle.line.proofs.Records.{bits_from_small, good_ran}
use Rattle.line.proofs.Stretching.{scan_least, scan_within, scan_line, scan_out, dark_line, dark_out}

-- ---- the block

moved_counter : (p : Position) (n : ℕ) → ((moved_on p n).place ≡ 0 → ⊥) → (moved_on p n).counter ≡ p.counter
moved_counter p n =
    advanced_cases (λ (q : Position). (q.place ≡ 0 → ⊥) → q.counter ≡ p.counter) (record { counter = p.counter; place = p.place + (n - 1) }) (λ lt h. refl) (λ ge h. absurd (h refl))

abbrev Kept : Line → Line → Type 0
Kept s t = (t.position.place ≡ 0 → ⊥) → aes128 s.key s.position.counter ≡ aes128 t.key t.position.counter

scanned_keeps : (s : Line) (f : Finding) → Kept s (scanned_to s f)
scanned_keeps s f h = ap (aes128 s.key) (sym (moved_counter s.position f.count h))

darkened_keeps : (s : Line) (c : List ℕ) (m : ℕ) → Kept s (darkened_by s c m)
darkened_keeps s c m =
    picked (Kept s) (ltb m s.left) _ _ (λ e h. ap (aes128 s.key) (sym (moved_counter s.position m h))) (λ e h. absurd (h refl))

-- what `settle` asks, of the line t that was made
module _ (g : Going) (t : Line) where
  keeps : (u : Line) → t ≡ u → Kept g.line u → (t.position.place ≡ 0 → ⊥) → g.block ≡ aes128 t.key t.position.counter
  keeps u e k h = g.block_is ∙ subst (Kept g.line) (sym e) k h

  pub scanned_block : (f : Finding) → t ≡ scanned_to g.line f → (t.position.place ≡ 0 → ⊥) → g.block ≡ aes128 t.key t.position.counter
  scanned_block f e = keeps (scanned_to g.line f) e (scanned_keeps g.line f)

  pub darkened_block : (c : List ℕ) (m : ℕ) → t ≡ darkened_by g.line c m → (t.position.place ≡ 0 → ⊥) → g.block ≡ aes128 t.key t.position.counter
  darkened_block c m e = keeps (darkened_by g.line c m) e (darkened_keeps g.line c m)

-- ---- the stretch

module _ (s d : List ℕ) (i n : ℕ) (g : Going) (room : Room s d i n) where
  -- k bits on, to the line and the output that the mode gives
  stretched : (r : Going) (e : List ℕ) (k : ℕ) → 0 < k → k ≤ n → r.line ≡ holding g.line (after (rule_of g.line) (view g.line) (part s i k))
      → e ≡ laid d i (outs (rule_of g.line) (view g.line) (part s i k)) → Stretched s d i n g (record { going = r; done = k }) e
  stretched r e k some most l o = record { some = some; most = most; ran = record { line = l; out = o } }

  held_good : (t : Line) (k : ℕ) → t ≡ holding g.line (after (rule_of g.line) (view g.line) (part s i k)) → Good t
  held_good t k e = subst Good (sym e) (good_ran g.line g.good (part s i k) (bits_from_small (part s i k) (small_part s i k)))

  module _ (m : ℕ) (some : 0 < m) (most : m ≤ n) (in_block : g.line.position.place + m ≤ 128) (c : Covered)
      (covers : Covers (part s i m) (part g.block g.line.position.place m) g.line.receiving m c) where
    many : length (part s i m) ≡ m
    many = length_part s i m (omega (arith, room.bits))

    covered : Covers (part s i m) (part (aes128 g.line.key g.line.position.counter) g.line.position.place m) g.line.receiving m c
    covered = subst (λ (b : List ℕ). Covers (part s i m) (part b g.line.position.place m) g.line.receiving m c) g.block_is covers

    laid_out : (e : List ℕ) (k : ℕ) → k ≤ m → (o : List ℕ) → take k (bits_of c.out) ≡ o → e ≡ wrote d i c.out k → e ≡ laid d i o
    laid_out e k le o h w = w ∙ wrote_laid d i c.out k (omega arith) (omega (arith, room.room)) ∙ ap (laid d i) h

    pub scan_takes : g.line.left ≡ 0 → (f : Finding) → Found c.carried m g.line.window g.line.seen g.line.pattern f
        → (0 < f.count) × (g.line.position.place + f.count ≤ 128)
    scan_takes z f found = (
      scan_least g.line g.good m some in_block (part s i m) many c covered z f found,
      omega (arith, scan_within g.line g.good m some in_block (part s i m) many c covered z f found),
    )

    scan_held : g.line.left ≡ 0 → (f : Finding) → Found c.carried m g.line.window g.line.seen g.line.pattern f
        → scanned_to g.line f ≡ holding g.line (after (rule_of g.line) (view g.line) (part s i f.count))
    scan_held z f found =
        scan_line g.line g.good m some in_block (part s i m) many c covered z f found
        ∙ ap (λ (b : List ℕ). holding g.line (after (rule_of g.line) (view g.line) b))
        (take_part s i m f.count (scan_within g.line g.good m some in_block (part s i m) many c covered z f found))

    pub scan_good : g.line.left ≡ 0 → (f : Finding) → Found c.carried m g.line.window g.line.seen g.line.pattern f → (t : Line) → t ≡ scanned_to g.line f → Good t
    scan_good z f found t e = held_good t f.count (e ∙ scan_held z f found)

    pub scan_stretched : (r : Going) (e : List ℕ) → g.line.left ≡ 0 → (f : Finding) → Found c.carried m g.line.window g.line.seen g.line.pattern f → r.line ≡ scanned_to g.line f
        → e ≡ wrote d i c.out f.count → Stretched s d i n g (record { going = r; done = f.count }) e
    scan_stretched r e z f found l w =
        let within : f.count ≤ m = scan_within g.line g.good m some in_block (part s i m) many c covered z f found in
        let first : take f.count (part s i m) ≡ part s i f.count = take_part s i m f.count within in
        stretched r e f.count (scan_least g.line g.good m some in_block (part s i m) many c covered z f found) (omega arith) (l ∙ scan_held z f found)
        (laid_out e f.count within _
        (scan_out g.line g.good m some in_block (part s i m) many c covered z f found ∙ ap (outs (rule_of g.line) (view g.line)) first) w)

    pub dark_good : 0 < g.line.left → m ≤ g.line.left → (t : Line) → t ≡ darkened_by g.line c.carried m → Good t
    dark_good dk rest t e = held_good t m (e ∙ dark_line g.line g.good m some in_block (part s i m) many c covered dk rest)

    pub dark_stretched : (r : Going) (e : List ℕ) → 0 < g.line.left → m ≤ g.line.left → r.line ≡ darkened_by g.line c.carried m → e ≡ wrote d i c.out m
        → Stretched s d i n g (record { going = r; done = m }) e
    dark_stretched r e dk rest l w =
        stretched r e m some most (l ∙ dark_line g.line g.good m some in_block (part s i m) many c covered dk rest)
        (laid_out e m (omega arith) _ (dark_out g.line g.good m some in_block (part s i m) many c covered dk rest) w)
