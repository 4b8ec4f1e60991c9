-- Records that pass the tests for 9: what the tests say in numbers, and what there is to say of these.
use mathlib.Core.Path.{◌≡◌, refl, sym, ap, ◌∙◌}
use mathlib.Core.Bool.{true, false, not, true≢false}
use Prim.Native.Nat.{ℕ, zero, suc, ◌+◌, ◌-◌, ◌*◌, ◌≤◌, ◌<◌}
use native.Mathlib.Decide.{dec_lt}
use native.Mathlib.Nat.{mul-le-mul_right}
use native.Mathlib.Omega.{arith}
use lib.Dec.{ltb, eqb}
use lib.ListN.{length, drop}
use borrow.Author.Tests.{ltb-false, eqb-true, eq-eqb, ne_eqb, le-ltb, not-false}
use Rattle.bits.specs.Bits.{bits_of, pack, part}
use Rattle.bits.specs.Blank.{blank}
use Rattle.bits.proofs.Lists.{Bytes}
use Rattle.bits.proofs.Blank.{blank_pack, pack_blank}
use Rattle.bits.proofs.Parts.{part_start}
use Rattle.pace.specs.Tick.{hold}
use Rattle.line.specs.Tests.{faulty as line_faulty}
use Rattle.line.proofs.Records.{neither, good_of, passes}
use Rattle.paced.specs.declared.record.Paced.{Paced}
use Rattle.paced.specs.Tests.{too_fast, unbalanced, miscounted, faulty}
use Rattle.paced.specs.Inner.{Open}
use Rattle.paced.proofs.Joining.{length_packed}

-- the rates that 4 lets pass
pub rate_low : (d l : ℕ) → l ≤ 11 → d * (l + 1) ≤ 128 * l → d ≤ 117
rate_low d l le slow =
    elim (dec_lt 117 d) [
      | yes more ↦ (let m : 118 * (l + 1) ≤ d * (l + 1) = mul-le-mul_right (l + 1) more in absurd (omega arith))
      | no few ↦ omega arith
    ]

pub slow_of : (d l : ℕ) → too_fast d l ≡ false → (1 ≤ d) × (d * (l + 1) ≤ 128 * l)
slow_of d l e =
    let q = neither (eqb d 0) (ltb (128 * l) (d * (l + 1))) e in
    let slow : d * (l + 1) ≤ 128 * l = ltb-false (128 * l) (d * (l + 1)) q.1 in
    (some d q.0, slow)
  where
    some : (d : ℕ) → eqb d 0 ≡ false → 1 ≤ d
    some zero e = absurd (true≢false (sym (eq-eqb 0 0 refl) ∙ e))
    some (suc d) e = omega arith

pub slow_passes : (d l : ℕ) → 1 ≤ d → d * (l + 1) ≤ 128 * l → too_fast d l ≡ false
slow_passes d l some slow = simp (ne_eqb d 0 (λ e. absurd (omega arith)), le-ltb (128 * l) (d * (l + 1)) slow)

module _ (p : Paced) where
  pub open_of : faulty p ≡ false → p.closed ≡ false → p.line.pattern < 256 → length p.line.iv ≡ 16 → Bytes p.line.iv → length p.queue ≡ 60 → Bytes p.queue → Open p
  unfolding faulty
  open_of e is_open pattern n b lq bq =
      let q3 = neither _ (not (blank (drop (p.ready + p.waiting) (bits_of p.queue)))) e in
      let q2 = neither _ (miscounted p) q3.0 in
      let q1 = neither (line_faulty p.line) (too_fast p.d p.line.l) q2.0 in
      let rate = slow_of p.d p.line.l q1.1 in
      let counts : unbalanced p.d p.waiting p.ready p.fillers ≡ false = rw is_open at q2.1 in
      let c = neither (not (eqb (p.waiting + p.ready + p.fillers) (hold p.d))) (ltb (hold p.d - p.d) p.waiting) counts in
      record {
        good = good_of p.line q1.0 pattern n b;
        some = rate.0;
        slow = rate.1;
        is_open = is_open;
        together = eqb-true (p.waiting + p.ready + p.fillers) (hold p.d) (not-false _ c.0);
        waiting_fits = ltb-false (hold p.d - p.d) p.waiting c.1;
        queue_is = blank_pack 60 p.queue (p.ready + p.waiting) lq bq (not-false _ q3.1) ∙ ap (pack 60) (sym (part_start p.queue (p.ready + p.waiting)));
      }

  -- and the other way round
  pub open_passes : Open p → faulty p ≡ false
  unfolding faulty
  open_passes o =
      let f1 : line_faulty p.line ≡ false = passes p.line o.good in
      let f2 : too_fast p.d p.line.l ≡ false = slow_passes p.d p.line.l o.some o.slow in
      let f3 : eqb (p.waiting + p.ready + p.fillers) (hold p.d) ≡ true = eq-eqb (p.waiting + p.ready + p.fillers) (hold p.d) o.together in
      let f4 : ltb (hold p.d - p.d) p.waiting ≡ false = le-ltb (hold p.d - p.d) p.waiting o.waiting_fits in
      let f5 : blank (drop (p.ready + p.waiting) (bits_of p.queue)) ≡ true =
      pack_blank 60 p.queue (p.ready + p.waiting) (o.queue_is ∙ ap (pack 60) (part_start p.queue (p.ready + p.waiting))) in
      simp (f1, f2, o.is_open, f3, f4, f5)

  module _ (o : Open p) where
    pub few_d : p.d ≤ 117
    few_d = rate_low p.d p.line.l o.good.l_high o.slow

    pub length_queue : length p.queue ≡ 60
    length_queue = length_packed p.queue (part p.queue 0 (p.ready + p.waiting)) o.queue_is

    -- M
    pub hold_low : hold p.d ≤ 477
    hold_low = omega (arith, few_d)

    pub leaving_in : p.d - p.fillers ≤ p.ready
    leaving_in = omega (arith, o.together, o.waiting_fits, few_d)

    pub counts_in : p.ready + p.waiting ≤ 477
    counts_in = omega (arith, o.together, hold_low)

    -- what is held once the input has joined
    pub held_in : p.ready - (p.d - p.fillers) + (p.waiting + p.d) ≤ 477
    held_in = omega (arith, o.together, o.waiting_fits, few_d)
