-- No record reached from an opening by any calls, refused ones and closings among them, meets a test for 9: it is one that ticks reached (paced's `Reached`), or
-- a closed one, which every call hands back.
use mathlib.Core.Path.{◌≡◌, refl, sym, ap, subst, ◌∙◌}
use mathlib.Core.Bool.{Bool, true, false, cond}
use mathlib.Core.Logic.{◌⊎◌, inl, inr}
use mathlib.Core.List.{List, [], ◌∷◌, ◌++◌}
use Prim.Native.Nat.{ℕ, ◌+◌, ◌*◌, ◌<◌, ◌≤◌}
use native.Mathlib.Decide.{dec_lt}
use native.Mathlib.Omega.{arith}
use lib.ListN.{length}
use Rattle.refusal.specs.declared.Refusal.{Refusal}
use Rattle.bits.specs.Bits.{part}
use Rattle.bits.proofs.Lists.{Small, small_append}
use Rattle.bits.proofs.Parts.{small_part, length_part}
use Rattle.line.specs.declared.record.Line.{Line}
use Rattle.line.specs.Good.{Good}
use Rattle.pace.specs.Ticks.{joined, Each}
use Rattle.pace.proofs.More.{joined_more, each_more}
use Rattle.paced.specs.declared.record.Paced.{Paced}
use Rattle.paced.specs.Tests.{faulty}
use Rattle.paced.specs.Ticking.{ticking}
use Rattle.paced.specs.Closing.{closing}
use Rattle.paced.specs.Opening.{fresh_paced}
use Rattle.paced.proofs.Passing.{ticks_line, closes_line, short_ticks, short_closes, closed_ticks, closed_closes}
use Rattle.paced.proofs.Reached.{reached, tick_reached, reached_passes as record_passes, closed_reached_passes}
use Rattle.promises.specs.Ticking.{Act, called}
use Rattle.promises.proofs.PacedRefusals.{refused_tick_keeps, refused_closing_keeps}

module _ (s : Line) (good : Good s) (scanning : s.left ≡ 0) (D : ℕ) (some : 1 ≤ D) (rate : D * (s.l + 1) ≤ 128 * s.l) where
  -- the record after some ticks
  abbrev P : List (List ℕ) → Paced
  P is = reached s good scanning D some rate is

  -- the record is one that ticks reached, or a closed one that passes the tests
  record TickedTo (p : Paced) : Type 0 where
    is : List (List ℕ)
    each : Each D is
    small : Small (joined is)
    here : p ≡ P is

  record Ended (p : Paced) : Type 0 where
    passes : faulty p ≡ false
    is_closed : p.closed ≡ true

  tick_on : (p : Paced) → TickedTo p → (input output : List ℕ) → TickedTo (ticking p input output).line
  tick_on p t input output =
      let passes : faulty (P t.is) ≡ false = record_passes s good scanning D some rate t.is t.each t.small in
      let same : (ticking p input output).line ≡ (ticking (P t.is) input output).line = ap (λ (q : Paced). (ticking q input output).line) t.here in
      let stays : (8 * length input < D) ⊎ (8 * length output < D) → TickedTo (ticking p input output).line =
      λ short. record { is = t.is; each = t.each; small = t.small; here = same ∙ short_ticks (P t.is) passes refl input output short } in
      elim (dec_lt (8 * length input) D) [
        | yes short ↦ stays (inl short)
        | no many ↦ elim (dec_lt (8 * length output) D) [
          | yes short ↦ stays (inr short)
          | no room ↦ (
              let i : List ℕ = part input 0 D in
              record {
                is = t.is ++ (i ∷ []);
                each = each_more D t.is i t.each (length_part input 0 D (omega (arith, many)));
                small = rw (joined_more t.is i) (small_append (joined t.is) i t.small (small_part input 0 D));
                here = same ∙ ticks_line (P t.is) passes refl input output (omega (arith, many)) (omega (arith, room)) ∙ tick_reached s good scanning D some rate t.is t.each t.small input;
              })
        ]
      ]

  close_on : (p : Paced) → TickedTo p → (output : List ℕ) → TickedTo (closing p output).line ⊎ Ended (closing p output).line
  close_on p t output =
      let passes : faulty (P t.is) ≡ false = record_passes s good scanning D some rate t.is t.each t.small in
      let same : (closing p output).line ≡ (closing (P t.is) output).line = ap (λ (q : Paced). (closing q output).line) t.here in
      elim (dec_lt (8 * length output) ((P t.is).waiting + (P t.is).ready)) [
        | yes short ↦ inl (record { is = t.is; each = t.each; small = t.small; here = same ∙ short_closes (P t.is) passes refl output short })
        | no room ↦ (
            let e = same ∙ closes_line (P t.is) passes refl output (omega (arith, room)) in
            inr (record {
              passes = ap faulty e ∙ closed_reached_passes s good scanning D some rate t.is t.each t.small;
              is_closed = ap (λ (q : Paced). q.closed) e;
            }))
      ]

  abbrev Fine : Paced → Type 0
  Fine p = TickedTo p ⊎ Ended p

  either_fine : (b : Bool) (x y : Paced) → Fine x → Fine y → Fine (cond b x y)
  either_fine true x y h k = h
  either_fine false x y h k = k

  fine_on : (p : Paced) (a : Act) → Fine p → Fine (cond a.closes (closing p a.output).line (ticking p a.input a.output).line)
  fine_on p a (inl t) = either_fine a.closes _ _ (close_on p t a.output) (inl (tick_on p t a.input a.output))
  fine_on p a (inr e) =
      let tick_keeps = (refused_tick_keeps p a.input a.output (Refusal.Closed) (closed_ticks p e.passes e.is_closed a.input a.output)).0 in
      let closing_keeps = (refused_closing_keeps p a.output (Refusal.Closed) (closed_closes p e.passes e.is_closed a.output)).0 in
      either_fine a.closes _ _ (inr (subst Ended (sym closing_keeps) e)) (inr (subst Ended (sym tick_keeps) e))

  fine_passes : (p : Paced) → Fine p → faulty p ≡ false
  fine_passes p (inl t) = ap faulty t.here ∙ record_passes s good scanning D some rate t.is t.each t.small
  fine_passes p (inr e) = e.passes

  all_pass : (acts : List Act) (p : Paced) → Fine p → faulty (called p acts) ≡ false
  all_pass [] p f = fine_passes p f
  all_pass (a ∷ acts) p f = all_pass acts _ (fine_on p a f)

  -- no record reached from an opening by any calls, refused ones and closings among them, meets a test for 9
  pub reached_passes : (acts : List Act) → faulty (called (fresh_paced s D) acts) ≡ false
  reached_passes acts = all_pass acts (fresh_paced s D) (inl (record { is = []; each = tt; small = λ i. omega arith; here = refl }))
