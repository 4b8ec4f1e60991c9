-- An opening, a tick or a closing whose input passes every test is done; what it wrote are bits, and they are read back where it
-- wrote them. One with a short buffer, or on a closed line, keeps the record.
use Rattle.std.specs.Prelude.{Err, Ok}
use mathlib.Core.Path.{◌≡◌, refl, ap, ◌∙◌}
use mathlib.Core.Bool.{Bool, true, false, cond}
use mathlib.Core.Logic.{◌⊎◌, inl, inr}
use mathlib.Core.List.{List}
use Prim.Native.Nat.{ℕ, ◌+◌, ◌-◌, ◌*◌, ◌/◌, ◌<◌, ◌≤◌}
use native.Mathlib.Omega.{arith}
use lib.ListN.{length, length-take}
use lib.Dec.{ltb}
use borrow.Author.Tests.{ne_eqb, le-ltb, lt-ltb}
use Rattle.mode.specs.Rule.{outs}
use Rattle.bits.specs.Bits.{part, laid}
use Rattle.bits.proofs.Lists.{Small, small_take, small_append}
use Rattle.bits.proofs.Parts.{small_part, short_part}
use Rattle.bits.proofs.Laid.{part_laid}
use Rattle.pace.specs.Tick.{closed}
use Rattle.pace.proofs.Kept.{length_closing}
use Rattle.refusal.specs.declared.Refusal.{Refusal}
use Rattle.line.specs.View.{aes, box, settings, rule_of, view}
use Rattle.line.proofs.Running.{small_outs}
use Rattle.line.proofs.Passing.{opens as line_opens}
use Rattle.paced.specs.declared.record.Paced.{Paced}
use Rattle.paced.specs.Answers.{counted, Ticked}
use Rattle.paced.specs.Answers.{bits_in}
use Rattle.refusal.specs.Numbers.{outcome}
use Rattle.paced.specs.View.{viewed, keeping, shut}
use Rattle.paced.specs.Tests.{faulty}
use Rattle.paced.specs.Opening.{paced_answer}
use Rattle.paced.specs.Ticking.{leaving_from, held_after, tick_answer, ticking, tick_writes}
use Rattle.paced.specs.Closing.{last_from, close_answer, closing, close_writes}

pub opens : (key iv : List ℕ) (l d : ℕ) → length key ≡ 16 → length iv ≡ 16 → 1 ≤ l → l ≤ 11 → 1 ≤ d → d * (l + 1) ≤ 128 * l → paced_answer key iv l d ≡ Ok tt
unfolding paced_answer
opens key iv l d hk hv low high some slow =
    rw (line_opens key iv l hk hv low high, ne_eqb d 0 (omega arith), le-ltb (128 * l) (d * (l + 1)) slow)

-- ---- what a tick and a closing write

module _ (p : Paced) where
  pub small_leaving : Small (leaving_from p)
  small_leaving = small_take (p.d - p.fillers) (part p.queue 0 p.ready) (small_part p.queue 0 p.ready)

  -- no more bits than a tick has places
  pub few_leaving : length (leaving_from p) ≤ p.d
  few_leaving = simp length-take (omega arith)

  pub small_last : Small (last_from p)
  small_last =
      small_append (part p.queue 0 p.ready) (outs (rule_of p.line) (view p.line) (part p.queue p.ready p.waiting))
      (small_part p.queue 0 p.ready) (small_outs (aes (box p.line)) (settings p.line) (view p.line) (part p.queue p.ready p.waiting))

  -- as many as wait or are ready at most
  pub few_last : length (last_from p) ≤ p.waiting + p.ready
  few_last =
      omega (arith, length_closing (rule_of p.line) p.d (viewed p), short_part p.queue 0 p.ready, short_part p.queue p.ready p.waiting)

-- ---- a tick and a closing that pass

module _ (p : Paced) (passes : faulty p ≡ false) (is_open : p.closed ≡ false) where
  module _ (b z : List ℕ) (hb : p.d ≤ 8 * length b) (hz : p.d ≤ 8 * length z) where
    pub ticks : tick_answer p b z ≡ counted (length (leaving_from p)) (length (held_after p b).waiting)
    unfolding tick_answer
    ticks = rw (passes, is_open, le-ltb (length b) ((p.d + 7) / 8) (omega arith), le-ltb (length z) ((p.d + 7) / 8) (omega arith))

    pub ticks_line : (ticking p b z).line ≡ keeping p (held_after p b)
    ticks_line = ap (λ (a : Ticked). outcome a (keeping p (held_after p b)) p) ticks

    pub ticks_write : tick_writes p b z ≡ laid z 0 (leaving_from p)
    ticks_write = ap (λ (a : Ticked). outcome a (laid z 0 (leaving_from p)) z) ticks

    pub ticks_read : part (tick_writes p b z) 0 (bits_in (tick_answer p b z)) ≡ leaving_from p
    ticks_read = (λ i. part (ticks_write i) 0 (bits_in (ticks i))) ∙ part_laid z 0 (leaving_from p) (small_leaving p) (omega arith)

  module _ (z : List ℕ) (hz : p.waiting + p.ready ≤ 8 * length z) where
    pub closes : close_answer p z ≡ counted (length (last_from p)) 0
    unfolding close_answer
    closes = rw (passes, is_open, le-ltb (length z) ((p.waiting + p.ready + 7) / 8) (omega arith))

    pub closes_write : close_writes p z ≡ laid z 0 (last_from p)
    closes_write = ap (λ (a : Ticked). outcome a (laid z 0 (last_from p)) z) closes

    pub closes_read : part (close_writes p z) 0 (bits_in (close_answer p z)) ≡ last_from p
    closes_read = (λ i. part (closes_write i) 0 (bits_in (closes i))) ∙ part_laid z 0 (last_from p) (small_last p) (omega arith)

    pub closes_line : (closing p z).line ≡ shut (keeping p (closed (rule_of p.line) (viewed p)))
    closes_line = ap (λ (a : Ticked). outcome a (shut (keeping p (closed (rule_of p.line) (viewed p)))) p) closes

  -- ---- and those with a short buffer

  pub short_ticks : (b z : List ℕ) → (8 * length b < p.d) ⊎ (8 * length z < p.d) → (ticking p b z).line ≡ p
  unfolding tick_answer
  short_ticks b z (inl h) = rw (passes, is_open, lt-ltb (length b) ((p.d + 7) / 8) (omega arith)) refl
  short_ticks b z (inr h) = go (ltb (length b) ((p.d + 7) / 8))
    where
      short : ltb (length z) ((p.d + 7) / 8) ≡ true
      short = lt-ltb (length z) ((p.d + 7) / 8) (omega arith)

      go : (t : Bool)
          → outcome (cond (faulty p) (Err (Refusal.State)) (cond p.closed (Err (Refusal.Closed)) (cond t (Err (Refusal.Input))
          (cond (ltb (length z) ((p.d + 7) / 8)) (Err (Refusal.Output)) (counted (length (leaving_from p)) (length (held_after p b).waiting))))))
          (keeping p (held_after p b)) p
          ≡ p
      go true = rw (passes, is_open) refl
      go false = rw (passes, is_open, short) refl

  pub short_closes : (z : List ℕ) → 8 * length z < p.waiting + p.ready → (closing p z).line ≡ p
  unfolding close_answer
  short_closes z h = rw (passes, is_open, lt-ltb (length z) ((p.waiting + p.ready + 7) / 8) (omega arith)) refl

-- ---- on a closed line

module _ (p : Paced) (passes : faulty p ≡ false) (is_closed : p.closed ≡ true) where
  pub closed_ticks : (b z : List ℕ) → tick_answer p b z ≡ Err (Refusal.Closed)
  unfolding tick_answer
  closed_ticks b z = rw (passes, is_closed) refl

  pub closed_closes : (z : List ℕ) → close_answer p z ≡ Err (Refusal.Closed)
  unfolding close_answer
  closed_closes z = rw (passes, is_closed) refl
