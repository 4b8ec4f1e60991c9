-- What every tick keeps. The bits given to a line are those passed and those waiting, in this order; what came out for the passed ones is what is sent and
-- what is ready. Each tick brings D bits and sees D places leave, so the three stay M together, and fillers are M less the bits given.
use mathlib.Core.Path.{◌≡◌, refl, sym, ap, ◌∙◌}
use mathlib.Core.List.{List, [], ◌∷◌, ◌++◌, append_assoc, append-nil}
use Prim.Native.Nat.{ℕ, ◌+◌, ◌-◌, ◌*◌, ◌≤◌}
use native.Mathlib.Omega.{arith}
use lib.ListN.{length, take, drop, length-append, length-drop, take-append-drop}
use lib.Seq.{take_at, length-take-le}
use Rattle.mode.specs.Rule.{Rule, Blackout, after, outs}
use Rattle.mode.proofs.Runs.{after_append, outs_append, length_outs}
use Rattle.pace.specs.Tick.{Held, opened, leaving, written, moving, passing, staying, ticked, closing, closed}
use Rattle.pace.specs.Ticks.{least_hold, ticks, sent, joined, Each}
use Rattle.pace.proofs.Moves.{moves_what_waits}
use Rattle.pace.proofs.Room.{Room, hold_is_enough, room_moved, room_opened}

-- ---- one tick of any line

module _ {A B : Type 0} (R : Rule A B) (D : ℕ) (p : Held R) where
  pub length_closing : length (closing R p) ≡ length p.ready + length p.waiting
  length_closing = simp (length-append, length_outs R p.state)

  pub length_written : D ≤ p.fillers + length p.ready → length (written R D p) ≡ D - p.fillers
  length_written enough = length-take-le (leaving R D p) p.ready (omega arith)

  module _ (input : List A) where
    -- what is held, piece by piece
    pub ticked_is : ticked R D p input ≡ record {
      state = after R p.state (passing R p input);
      ready = drop (leaving R D p) p.ready ++ outs R p.state (passing R p input);
      waiting = staying R p input;
      fillers = p.fillers - D;
    }
    unfolding ticked
    ticked_is = refl

    halves : passing R p input ++ staying R p input ≡ p.waiting ++ input
    halves = take-append-drop (moving R p input) (p.waiting ++ input)

    pub length_passing : length (passing R p input) ≡ moving R p input
    length_passing = length-take-le (moving R p input) (p.waiting ++ input) (moves_what_waits R p input)

    pub length_ready : length (ticked R D p input).ready ≡ length p.ready - (D - p.fillers) + moving R p input
    unfolding ticked
    length_ready =
        length-append (drop (leaving R D p) p.ready) (outs R p.state (passing R p input))
        ∙ rw (length-drop, length_outs R p.state (passing R p input), length_passing)

    module _ (size : length input ≡ D) where
      pub length_waiting : length (ticked R D p input).waiting ≡ length p.waiting + D - moving R p input
      unfolding ticked
      length_waiting = simp (length-drop, length-append) (rw size)

      -- where D places can leave, the three stay as many together as they were
      pub same_together : D ≤ p.fillers + length p.ready
          → length (ticked R D p input).waiting + length (ticked R D p input).ready + (ticked R D p input).fillers
          ≡ length p.waiting + length p.ready + p.fillers
      unfolding ticked
      same_together enough = omega (arith, length_waiting, length_ready, moves_what_waits R p input, length-append p.waiting input)

-- ---- lines reached from an opening

-- Of a line that was opened in the state s₀, was given the bits `given`, and has sent the bits `gone`.
pub record Kept {A B : Type 0} (R : Rule A B) (D L M : ℕ) (s₀ : R.State) (given : List A) (gone : List B) (p : Held R) : Type 0 where
  pub passed : List A
  pub split : given ≡ passed ++ p.waiting
  pub stands : p.state ≡ after R s₀ passed
  pub came : outs R s₀ passed ≡ gone ++ p.ready
  pub fill : p.fillers ≡ M - length given
  pub together : length p.waiting + length p.ready + p.fillers ≡ M
  pub room : Room D (128 - D) L (R.left p.state) (length p.waiting)

module _ {A B : Type 0} (R : Rule A B) (D L M : ℕ) (law : Blackout R L) (some : 1 ≤ D) (rate : D * (L + 1) ≤ 128 * L) (large : least_hold D ≤ M) where
  pub kept_opened : (s₀ : R.State) → R.left s₀ ≡ 0 → Kept R D L M s₀ [] [] (opened R M s₀)
  kept_opened s₀ z =
      record {
        passed = [];
        split = refl;
        stands = refl;
        came = refl;
        fill = omega arith;
        together = omega arith;
        room = rw z (room_opened R D L law some rate);
      }

  module _ (s₀ : R.State) (given : List A) (gone : List B) (p : Held R) (k : Kept R D L M s₀ given gone p) where
    pub few_wait : length p.waiting ≤ M - D
    few_wait = omega (arith, hold_is_enough D some, k.room.most)

    pub can_leave : D ≤ p.fillers + length p.ready
    can_leave = omega (arith, k.together, hold_is_enough D some, k.room.most)

    pub kept_tick : (i : List A) → length i ≡ D → Kept R D L M s₀ (given ++ i) (gone ++ written R D p) (ticked R D p i)
    unfolding ticked
    kept_tick i n =
        let r : ℕ = leaving R D p in
        let xs : List A = passing R p i in
        record {
          passed = k.passed ++ passing R p i;
          split = cc (k.split, append_assoc k.passed p.waiting i, halves R D p i, append_assoc k.passed (passing R p i) (staying R p i));
          stands = ap (λ (s : R.State). after R s (passing R p i)) k.stands ∙ sym (after_append R s₀ k.passed (passing R p i));
          came =
              cc (
                outs_append R s₀ k.passed xs,
                k.came,
                k.stands,
                take-append-drop r p.ready,
                append_assoc gone p.ready (outs R p.state xs),
                append_assoc gone (take r p.ready) (drop r p.ready ++ outs R p.state xs),
                append_assoc (take r p.ready) (drop r p.ready) (outs R p.state xs),
              );
          fill = omega (arith, k.fill, length-append given i);
          together = same_together R D p i n can_leave ∙ k.together;
          room = room_moved R D L law some rate p.state (p.waiting ++ i) (length p.waiting) (omega (arith, length-append p.waiting i)) k.room;
        }

    pub length_gone : length gone ≡ length given - M
    length_gone =
        omega
        (arith, k.fill, k.together, simp length-append at (ap length k.split), simp (length-append, length_outs R s₀) at (ap length k.came))

    -- what is sent is the beginning of what comes out, whatever bits follow
    pub gone_is : (more : List A) → gone ≡ take (length given - M) (outs R s₀ (given ++ more))
    gone_is more =
        let whole : outs R s₀ (given ++ more) ≡ gone ++ (p.ready ++ outs R p.state (p.waiting ++ more)) =
        cc (
          k.split,
          append_assoc k.passed p.waiting more,
          outs_append R s₀ k.passed (p.waiting ++ more),
          k.came,
          k.stands,
          append_assoc gone p.ready (outs R p.state (p.waiting ++ more)),
        ) in
        rw whole (sym (take_at gone (p.ready ++ outs R p.state (p.waiting ++ more)) (length given - M) length_gone))

    -- closing sends the rest, and all bits given have passed
    pub closing_is : gone ++ closing R p ≡ outs R s₀ given
    closing_is =
        cc
        (k.split, outs_append R s₀ k.passed p.waiting, k.came, k.stands, append_assoc gone p.ready (outs R p.state p.waiting))

    pub closed_is : (closed R p).state ≡ after R s₀ given
    closed_is = cc (k.split, after_append R s₀ k.passed p.waiting, k.stands)

  pub kept_ticks : (s₀ : R.State) (is : List (List A)) → Each D is → (given : List A) (gone : List B) (p : Held R) → Kept R D L M s₀ given gone p
      → Kept R D L M s₀ (given ++ joined is) (gone ++ sent R D p is) (ticks R D p is)
  kept_ticks s₀ [] e given gone p k = simp append-nil k
  kept_ticks s₀ (i ∷ is) e given gone p k =
      simp (← append_assoc)
      (kept_ticks s₀ is e.1 (given ++ i) (gone ++ written R D p) (ticked R D p i) (kept_tick s₀ given gone p k i e.0))
