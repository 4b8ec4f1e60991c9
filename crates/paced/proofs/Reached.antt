-- The records that a line reaches from its opening by ticks and a closing. Each holds what the tick's theory says a line holds after these ticks, so it passes the
-- tests for 9, and what it writes is what that theory says: demand 3 holds of records.
use mathlib.Core.Path.{◌≡◌, refl, sym, ap, subst, ◌∙◌}
use mathlib.Core.Bool.{true, false}
use mathlib.Core.List.{List, [], ◌∷◌, ◌++◌}
use Prim.Native.Nat.{ℕ, suc, ◌+◌, ◌-◌, ◌*◌, ◌≤◌}
use native.Mathlib.Omega.{arith}
use lib.ListN.{length, take, drop, length-append}
use lib.Seq.{slice, take_at, drop_at, take_all, take-length}
use Rattle.mode.specs.Rule.{Rule, Blackout, after, outs}
use Rattle.mode.specs.Words.{Within}
use Rattle.bits.specs.Bits.{bits_of, pack, part}
use Rattle.bits.specs.Blank.{blank}
use Rattle.bits.proofs.Lists.{Small, small_append, small_left, small_right}
use Rattle.bits.proofs.Blank.{pack_blank}
use Rattle.bits.proofs.Parts.{small_part}
use Rattle.pace.specs.Tick.{Held, hold, opened, written, ticked, closing, closed}
use Rattle.pace.specs.Ticks.{ticks, sent, joined, Each}
use Rattle.pace.proofs.More.{ticks_more}
use Rattle.pace.proofs.Kept.{Kept, kept_opened, kept_ticks, few_wait}
use Rattle.pace.proofs.Ticks.{hold_is_large, a_tick_writes, closing_sends_the_rest}
use Rattle.line.specs.declared.record.Line.{Line}
use Rattle.line.specs.Tests.{faulty as line_faulty}
use Rattle.line.specs.View.{box, aes, settings, rule_of, view, holding}
use Rattle.line.specs.Good.{Good}
use Rattle.line.proofs.Records.{blackout_of, bits_from_small, passes, holds, within_ran, view_holding, good_ran}
use Rattle.line.proofs.Running.{small_outs}
use Rattle.paced.specs.declared.record.Paced.{Paced}
use Rattle.paced.specs.View.{viewed, keeping, shut}
use Rattle.paced.specs.Tests.{too_fast, faulty}
use Rattle.paced.specs.Opening.{empty, fresh_paced}
use Rattle.paced.specs.Ticking.{leaving_from, held_after}
use Rattle.paced.specs.Closing.{last_from}
use Rattle.paced.specs.Inner.{Open}
use Rattle.paced.proofs.Records.{rate_low, slow_passes, open_passes}
use Rattle.paced.proofs.Moves.{ready_bits, waiting_bits, length_ready_bits, length_waiting_bits}
use Rattle.bits.proofs.Parts.{part_split, part_pack}

-- ---- a record and what it holds

-- what an open record that passes the tests holds is kept by that record
pub keeps : (p : Paced) → Open p → keeping p (viewed p) ≡ p
keeps p o = λ i. record {
  line = holds p.line o.good i;
  d = p.d;
  closed = p.closed;
  ready = length_ready_bits p o i;
  waiting = length_waiting_bits p o i;
  fillers = p.fillers;
  queue = whole i;
}
  where
    whole : pack 60 (ready_bits p o ++ waiting_bits p o) ≡ p.queue
    whole =
        let z : 0 + p.ready ≡ p.ready = omega arith in
        ap (pack 60) (ap (λ (n : ℕ). ready_bits p o ++ part p.queue n p.waiting) (sym z) ∙ sym (part_split p.queue 0 p.ready p.waiting)) ∙ sym o.queue_is

-- a closed record passes them too
pub closed_passes : (p : Paced) → Open p → faulty (shut (keeping p (closed (rule_of p.line) (viewed p)))) ≡ false
unfolding faulty
closed_passes p o =
    let w : List ℕ = waiting_bits p o in
    let f1 : line_faulty (holding p.line (after (rule_of p.line) (view p.line) w)) ≡ false =
    passes (holding p.line (after (rule_of p.line) (view p.line) w)) (good_ran p.line o.good w (bits_from_small w (small_part p.queue p.ready p.waiting))) in
    let f2 : too_fast p.d p.line.l ≡ false = slow_passes p.d p.line.l o.some o.slow in
    let f3 : blank (drop 0 (bits_of (pack 60 []))) ≡ true = pack_blank 60 (pack 60 []) 0 refl in
    simp (f1, f2, f3)

-- ---- from an opening on: a line that passes its tests, between blackouts, and a rate that 4 lets pass

module _ (s : Line) (g : Good s) (scanning : s.left ≡ 0) (d : ℕ) (some : 1 ≤ d) (slow : d * (s.l + 1) ≤ 128 * s.l) where
  abbrev R : Rule ℕ ℕ
  R = rule_of s

  law : Blackout R s.l
  law = blackout_of s g.l_low

  -- what the line holds after some ticks, and the record of it
  abbrev pub held_by : List (List ℕ) → Held R
  held_by is = ticks R d (opened R (hold d) (view s)) is

  abbrev pub reached : List (List ℕ) → Paced
  reached is = keeping (empty s d 0) (held_by is)

  -- an opening gives the first of them
  pub opening_reached : fresh_paced s d ≡ reached []
  opening_reached = refl

  module _ (is : List (List ℕ)) (each : Each d is) (small : Small (joined is)) where
    abbrev h : Held R
    h = held_by is

    kept : Kept R d s.l (hold d) (view s) (joined is) (sent R d (opened R (hold d) (view s)) is) h
    kept =
        kept_ticks R d s.l (hold d) law some slow (hold_is_large d some) (view s) is each [] [] (opened R (hold d) (view s))
        (kept_opened R d s.l (hold d) law some slow (hold_is_large d some) (view s) scanning)

    small_passed : Small kept.passed
    small_passed = small_left kept.passed h.waiting (subst Small kept.split small)

    within : Within (settings s) h.state
    within = subst (Within (settings s)) (sym kept.stands) (within_ran s g kept.passed (bits_from_small kept.passed small_passed))

    good : Good (holding s h.state)
    good = subst (λ (t : R.State). Good (holding s t)) (sym kept.stands) (good_ran s g kept.passed (bits_from_small kept.passed small_passed))

    small_held : Small (h.ready ++ h.waiting)
    small_held =
        small_append h.ready h.waiting
        (small_right (sent R d (opened R (hold d) (view s)) is) h.ready (subst Small kept.came (small_outs (aes (box s)) (settings s) (view s) kept.passed)))
        (small_right kept.passed h.waiting (subst Small kept.split small))

    length_held : length (h.ready ++ h.waiting) ≡ length h.ready + length h.waiting
    length_held = length-append h.ready h.waiting

    few_held : length (h.ready ++ h.waiting) ≤ 8 * 60
    few_held = omega (arith, length_held, kept.together, rate_low d s.l g.l_high slow)

    -- the record holds just that
    pub viewed_reached : viewed (reached is) ≡ h
    viewed_reached = λ i. record {
      state = view_holding s h.state within i;
      ready = (part_pack 60 (h.ready ++ h.waiting) 0 (length h.ready) small_held few_held (omega (arith, length_held)) ∙ take_at h.ready h.waiting (length h.ready) refl) i;
      waiting = (part_pack 60 (h.ready ++ h.waiting) (length h.ready) (length h.waiting) small_held few_held (omega (arith, length_held))
          ∙ ap (take (length h.waiting)) (drop_at h.ready h.waiting (length h.ready) refl)
          ∙ take-length h.waiting) i;
      fillers = h.fillers;
    }

    -- and meets no test for 9, before or after its closing
    pub open_reached : Open (reached is)
    open_reached = record {
      good = good;
      some = some;
      slow = slow;
      is_open = refl;
      together = kept.together;
      waiting_fits = few_wait R d s.l (hold d) law some slow (hold_is_large d some) (view s) (joined is) (sent R d (opened R (hold d) (view s)) is) h kept;
      queue_is = ap (pack 60)
          (sym (part_pack 60 (h.ready ++ h.waiting) 0 (length h.ready + length h.waiting) small_held few_held (omega (arith, length_held))
          ∙ take_all (length h.ready + length h.waiting) (h.ready ++ h.waiting) (omega (arith, length_held))));
    }

    pub reached_passes : faulty (reached is) ≡ false
    reached_passes = open_passes (reached is) open_reached

    pub closed_reached_passes : faulty (shut (keeping (reached is) (closed (rule_of (reached is).line) (viewed (reached is))))) ≡ false
    closed_reached_passes = closed_passes (reached is) open_reached

    -- a tick leads to the next of them
    pub tick_reached : (input : List ℕ) → keeping (reached is) (held_after (reached is) input) ≡ reached (is ++ (part input 0 d ∷ []))
    tick_reached input =
        ap (λ (x : Held R). keeping (empty s d 0) (ticked R d x (part input 0 d))) viewed_reached
        ∙ ap (keeping (empty s d 0)) (sym (ticks_more R d (opened R (hold d) (view s)) is (part input 0 d)))

    -- ---- demand 3

    -- the bits that the next tick writes are the next of the proper stream, whatever bits follow
    pub tick_sends : (i : List ℕ) → length i ≡ d → (more : List ℕ)
        → leaving_from (reached is) ≡ slice (length is * d - hold d) (suc (length is) * d - hold d) (outs R (view s) (joined is ++ i ++ more))
    tick_sends i n more =
        ap (written R d) viewed_reached ∙ a_tick_writes R d s.l (hold d) law some slow (hold_is_large d some) (view s) scanning is each i n more

    -- what was sent and what closing writes are together the whole stream
    pub closing_sends : sent R d (opened R (hold d) (view s)) is ++ last_from (reached is) ≡ outs R (view s) (joined is)
    closing_sends =
        ap (λ (x : Held R). sent R d (opened R (hold d) (view s)) is ++ closing R x) viewed_reached
        ∙ closing_sends_the_rest R d s.l (hold d) law some slow (hold_is_large d some) (view s) scanning is each
