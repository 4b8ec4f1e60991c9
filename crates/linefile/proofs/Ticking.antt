-- A tick, or closing, of a line that passes the tests for 9 is not refused, and what it writes is read back from where it wrote it.
use Rattle.std.proofs.Common.{◌≡◌, List, [], ℕ, ◌+◌, ◌*◌, ◌≤◌, Ok, length, sym, ap, ◌∙◌, arith}
use Rattle.bits.specs.Bits.{pack, part, laid}
use Rattle.bits.proofs.Lists.{Small}
use Rattle.bits.proofs.Packed.{length_pack}
use Rattle.bits.proofs.Laid.{length_laid, part_laid}
use Rattle.pace.specs.Tick.{ticked}
use Rattle.line.specs.View.{rule_of}
use Rattle.paced.specs.declared.record.Paced.{Paced}
use Rattle.paced.specs.declared.counts.Counts.{Counts}
use Rattle.paced.specs.Answers.{counted, bits_in}
use Rattle.paced.specs.View.{viewed, keeping}
use Rattle.paced.specs.Ticking.{leaving_from, held_after, tick_answer, ticking, tick_writes}
use Rattle.paced.specs.Closing.{last_from, close_answer, close_writes}
use Rattle.paced.proofs.Appending.{bits_read}
use Rattle.paced.proofs.Passing.{small_leaving, few_leaving, ticks, ticks_line, ticks_write, small_last, few_last, closes, closes_write}
use Rattle.linefile.specs.declared.running.Going.{Going}
use Rattle.linefile.specs.Paces.{Roomy, Ticks, ticked_on, Closes}

-- bits r that lie at the start of y, as the call left it in place of z, can be laid after the first `at` bits of o
module _ (o z y r : List ℕ) (at n : ℕ) (ey : y ≡ laid z 0 r) (en : n ≡ length r) (small : Small r) (fits : length r ≤ 8 * length z) (w : Roomy o at r) where
  can_append : (n ≤ 8 * length y) × (at + n ≤ 8 * length o) × (at + n ≤ 524288) × (laid o at [] ≡ o)
  can_append =
      let l : length y ≡ length z = ap length ey ∙ length_laid z 0 r (omega arith) in
      (omega (arith, l, en), omega (arith, en, w.room), omega (arith, en, w.few), w.clean)

  appended : (e : List ℕ) → e ≡ laid o at (part y 0 n) → e ≡ laid o at r
  appended e ee = ee ∙ ap (laid o at) ((λ i. part (ey i) 0 (en i)) ∙ part_laid z 0 r small (omega arith))

module _ (g : Going) (s : List ℕ) (from d : ℕ) (o : List ℕ) (t : Ticks g s from d o) (b z : List ℕ) (eb : b ≡ pack 16 (part s from d)) (lz : length z ≡ 16) where
  abbrev p : Paced
  p = g.line

  abbrev out : List ℕ
  out = leaving_from p

  few_d : p.d ≤ 128
  few_d = rw t.rate t.low

  many : p.d ≤ 8 * length b
  many = let lb : length b ≡ 16 = ap length eb ∙ length_pack 16 (part s from d) in omega (arith, lb, few_d)

  roomy : p.d ≤ 8 * length z
  roomy = omega (arith, lz, few_d)

  pub tick_done : tick_answer p b z ≡ counted (length out) (length (held_after p b).waiting)
  tick_done = ticks p t.passes t.is_open b z many roomy

  module _ (k : Counts) (ek : tick_answer p b z ≡ Ok k) where
    count : k.bits ≡ length out
    count = ap bits_in (sym ek ∙ tick_done)

    fits : length out ≤ 8 * length z
    fits = omega (arith, few_leaving p, few_d, lz)

    pub ticked_is : (n : Paced) → n ≡ (ticking p b z).line → record { line = n; at = g.at + k.bits } ≡ ticked_on g s from
    ticked_is n en =
        let given : part b 0 p.d ≡ part s from p.d = rw t.rate (bits_read s b from d eb t.low t.there) in
        let line : n ≡ (ticked_on g s from).line =
        en ∙ ticks_line p t.passes t.is_open b z many roomy ∙ ap (λ (i : List ℕ). keeping p (ticked (rule_of p.line) p.d (viewed p) i)) given in
        λ i. record { line = line i; at = g.at + count i }

    module _ (y : List ℕ) (ey : y ≡ tick_writes p b z) where
      wrote : y ≡ laid z 0 out
      wrote = ey ∙ ticks_write p t.passes t.is_open b z many roomy

      pub tick_room : (k.bits ≤ 8 * length y) × (g.at + k.bits ≤ 8 * length o) × (g.at + k.bits ≤ 524288) × (laid o g.at [] ≡ o)
      tick_room = can_append o z y out g.at k.bits wrote count (small_leaving p) fits t.writes

      pub tick_appends : (e : List ℕ) → e ≡ laid o g.at (part y 0 k.bits) → e ≡ laid o g.at out
      tick_appends = appended o z y out g.at k.bits wrote count (small_leaving p) fits t.writes

module _ (g : Going) (o : List ℕ) (t : Closes g o) (z : List ℕ) (lz : length z ≡ 60) where
  abbrev last : List ℕ
  last = last_from g.line

  close_roomy : g.line.waiting + g.line.ready ≤ 8 * length z
  close_roomy = omega (arith, lz, t.holds_few)

  pub close_done : close_answer g.line z ≡ counted (length last) 0
  close_done = closes g.line t.passes t.is_open z close_roomy

  module _ (k : Counts) (ek : close_answer g.line z ≡ Ok k) (y : List ℕ) (ey : y ≡ close_writes g.line z) where
    close_count : k.bits ≡ length last
    close_count = ap bits_in (sym ek ∙ close_done)

    close_wrote : y ≡ laid z 0 last
    close_wrote = ey ∙ closes_write g.line t.passes t.is_open z close_roomy

    close_fits : length last ≤ 8 * length z
    close_fits = omega (arith, few_last g.line, t.holds_few, lz)

    pub close_room : (k.bits ≤ 8 * length y) × (g.at + k.bits ≤ 8 * length o) × (g.at + k.bits ≤ 524288) × (laid o g.at [] ≡ o)
    close_room = can_append o z y last g.at k.bits close_wrote close_count (small_last g.line) close_fits t.writes

    pub close_appends : (e : List ℕ) → e ≡ laid o g.at (part y 0 k.bits) → e ≡ laid o g.at last
    close_appends = appended o z y last g.at k.bits close_wrote close_count (small_last g.line) close_fits t.writes
