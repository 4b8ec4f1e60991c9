-- Demand 1 at the host's boundary: a buffer that is too short or holds no record of the kind is refused 9, whatever else is given; whatever is refused leaves
-- every lent buffer as it was, with counts of 0.
use Rattle.std.specs.Prelude.{Ok, Err}
use mathlib.Core.Path.{◌≡◌, refl, ap}
use mathlib.Core.Bool.{Bool, true, false, cond}
use mathlib.Core.List.{List}
use Prim.Native.Nat.{ℕ, ◌<◌}
use lib.Dec.{leb}
use lib.ListN.{length}
use borrow.Author.Tests.{lt-leb}
use Rattle.refusal.specs.Numbers.{Answer, number_of, outcome}
use Rattle.line.specs.Free.{opening, running}
use Rattle.paced.specs.Answers.{Ticked}
use Rattle.paced.specs.Opening.{opening as paced_opening}
use Rattle.paced.specs.Ticking.{ticking}
use Rattle.paced.specs.Closing.{closing}
use Rattle.tisarqluk.specs.FreeRecord.{holds_free, line_in, stored_free}
use Rattle.tisarqluk.specs.PacedRecord.{holds_paced, paced_in, stored_paced}
use Rattle.tisarqluk.specs.FreeCalls.{receives, opened_answer, opened_buffer, ran_answer, ran_buffer, ran_output}
use Rattle.tisarqluk.specs.PacedCalls.{answer_of, nine, ticked_answer, ticked_buffer, ticked_output, closed_answer, closed_buffer, closed_output}
use Rattle.tisarqluk.specs.PacedCalls.{opened_answer as paced_opened_answer, opened_buffer as paced_opened_buffer}

-- ---- refused 9 before anything else

module _ (s key iv : List ℕ) (pattern l direction d : ℕ) where
  pub short_free_refused : length s < 58 → opened_answer s key iv pattern l direction ≡ 9
  short_free_refused h = ap (λ (b : Bool). cond b (number_of (opening key iv pattern l (receives direction)).answer) 9) (lt-leb 58 (length s) h)

  pub short_paced_refused : length s < 126 → paced_opened_answer s key iv pattern l direction d ≡ 9
  short_paced_refused h = ap (λ (b : Bool). cond b (number_of (paced_opening key iv pattern l (receives direction) d).answer) 9) (lt-leb 126 (length s) h)

module _ (s input output : List ℕ) where
  pub no_free_record : (n : ℕ) → holds_free s ≡ false → ran_answer s n input output ≡ 9
  no_free_record n h = ap (λ (b : Bool). cond b (number_of (running (line_in s) n input output).answer) 9) h

  pub no_paced_record : holds_paced s ≡ false → (ticked_answer s input output ≡ nine) × (closed_answer s output ≡ nine)
  no_paced_record h = (
    ap (λ (b : Bool). cond b (answer_of (ticking (paced_in s) input output).answer) nine) h,
    ap (λ (b : Bool). cond b (answer_of (closing (paced_in s) output).answer) nine) h,
  )

-- ---- a refusal leaves what was there

kept : (b : Bool) (a : Answer) (x y : List ℕ) → (cond b (number_of a) 9 ≡ 0 → ⊥) → cond b (outcome a x y) y ≡ y
kept false a x y h = refl
kept true (Err r) x y h = refl
kept true (Ok tt) x y h = absurd (h refl)

module _ (s key iv : List ℕ) (pattern l direction d : ℕ) where
  pub refused_free_opening_keeps : (opened_answer s key iv pattern l direction ≡ 0 → ⊥) → opened_buffer s key iv pattern l direction ≡ s
  refused_free_opening_keeps h =
      let r = opening key iv pattern l (receives direction) in
      kept (leb 58 (length s)) r.answer (stored_free r.line s) s h

  pub refused_paced_opening_keeps : (paced_opened_answer s key iv pattern l direction d ≡ 0 → ⊥) → paced_opened_buffer s key iv pattern l direction d ≡ s
  refused_paced_opening_keeps h =
      let r = paced_opening key iv pattern l (receives direction) d in
      kept (leb 126 (length s)) r.answer (stored_paced r.line s) s h

module _ (s input output : List ℕ) where
  pub refused_run_keeps : (n : ℕ) → (ran_answer s n input output ≡ 0 → ⊥) → (ran_buffer s n input output ≡ s) × (ran_output s n input output ≡ output)
  refused_run_keeps n h =
      let a : Answer = (running (line_in s) n input output).answer in
      (kept (holds_free s) a _ s h, kept (holds_free s) a _ output h)

  -- record, output and both counts, for a tick and for a closing
  moved_keeps : (b : Bool) (a : Ticked) (x y : List ℕ) → ((cond b (answer_of a) nine).refusal ≡ 0 → ⊥)
      → (cond b (outcome a x s) s ≡ s) × (cond b (outcome a y output) output ≡ output) × ((cond b (answer_of a) nine).bits ≡ 0) × ((cond b (answer_of a) nine).waiting ≡ 0)
  moved_keeps false a x y h = (refl, refl, refl, refl)
  moved_keeps true (Err r) x y h = (refl, refl, refl, refl)
  moved_keeps true (Ok c) x y h = absurd (h refl)

  pub refused_tick_keeps : ((ticked_answer s input output).refusal ≡ 0 → ⊥)
      → (ticked_buffer s input output ≡ s) × (ticked_output s input output ≡ output) × ((ticked_answer s input output).bits ≡ 0) × ((ticked_answer s input output).waiting ≡ 0)
  refused_tick_keeps h = moved_keeps (holds_paced s) (ticking (paced_in s) input output).answer _ _ h

  pub refused_closing_keeps : ((closed_answer s output).refusal ≡ 0 → ⊥)
      → (closed_buffer s output ≡ s) × (closed_output s output ≡ output) × ((closed_answer s output).bits ≡ 0) × ((closed_answer s output).waiting ≡ 0)
  refused_closing_keeps h = moved_keeps (holds_paced s) (closing (paced_in s) output).answer _ _ h
