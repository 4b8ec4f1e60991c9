-- What a paced line does from its opening on, for any bit rule with a blackout of L blocks (so in either direction), any D of at least 1 with D(L + 1) ≤ 128L,
-- and any hold M of at least the least one. All of it is read off what every tick keeps.
use mathlib.Core.Path.{◌≡◌, sym, ap, ◌∙◌}
use mathlib.Core.Logic.{◌↔◌}
use mathlib.Core.List.{List, [], ◌∷◌, ◌++◌}
use Prim.Native.Nat.{ℕ, zero, suc, ◌+◌, ◌-◌, ◌*◌, ◌/◌, ◌≤◌, ◌<◌}
use native.Mathlib.Nat.{le-div_iff_mul-le, div-lt_iff_lt-mul}
use native.Mathlib.Omega.{arith}
use lib.ListN.{length, take, length-append}
use lib.Seq.{slice, length-take-le, drop_at}
use Rattle.mode.specs.Rule.{Rule, Blackout, after, outs}
use Rattle.pace.specs.Tick.{hold, opened, written, moving, ticked, closing, closed}
use Rattle.pace.specs.Ticks.{least_hold, ticks, sent, joined, Each, Holds, Leaves}
use Rattle.pace.proofs.Kept.{Kept, kept_opened, kept_ticks, kept_tick, few_wait, can_leave, gone_is, closing_is, closed_is}
use Rattle.pace.proofs.Kept.{length_gone, length_written, length_waiting}

-- 01's hold is large enough
pub hold_is_large : (D : ℕ) → 1 ≤ D → least_hold D ≤ hold D
hold_is_large D h = omega arith

length_joined : {A : Type 0} (D : ℕ) (is : List (List A)) → Each D is → length (joined is) ≡ length is * D
length_joined D [] e = omega arith
length_joined D (i ∷ is) e = omega (arith, length-append i (joined is), length_joined D is e.1, e.0)

pub each_take : {A : Type 0} (D k : ℕ) (is : List (List A)) → Each D is → Each D (take k is)
each_take D zero is e = tt
each_take D (suc k) [] e = e
each_take D (suc k) (i ∷ is) e = (e.0, each_take D k is e.1)

-- the tick after the first t is the one of bit n
turn : (D M t n : ℕ) → 1 ≤ D → ((t * D - M ≤ n) × (n < suc t * D - M)) ↔ (t ≡ (n + M) / D)
turn D M t n h = (
  λ b. omega (arith, (le-div_iff_mul-le {k = D} {x = t} {y = n + M} h).1 (omega arith), (div-lt_iff_lt-mul {k = D} {x = n + M} {y = suc t} h).1 (omega arith)),
  λ e. let lo = (le-div_iff_mul-le {k = D} {x = t} {y = n + M} h).0 (omega arith) in
      let hi = (div-lt_iff_lt-mul {k = D} {x = n + M} {y = suc t} h).0 (omega arith) in
      omega arith,
)

module _ {A B : Type 0} (R : Rule A B) (D L M : ℕ) (law : Blackout R L) (some : 1 ≤ D) (rate : D * (L + 1) ≤ 128 * L) (large : least_hold D ≤ M)
    (s₀ : R.State) (scanning : R.left s₀ ≡ 0) where
  module _ (is : List (List A)) (each : Each D is) where
    kept : Kept R D L M s₀ (joined is) (sent R D (opened R M s₀) is) (ticks R D (opened R M s₀) is)
    kept = kept_ticks R D L M law some rate large s₀ is each [] [] (opened R M s₀) (kept_opened R D L M law some rate large s₀ scanning)

    -- waiting, ready and fillers are M together, at most M - D bits wait, and D places can leave
    pub no_tick_refused : Holds R D M (ticks R D (opened R M s₀) is)
    no_tick_refused =
        record {
          together = kept.together;
          waiting_fits = few_wait R D L M law some rate large s₀ _ _ _ kept;
          can_leave = can_leave R D L M law some rate large s₀ _ _ _ kept;
        }

    -- after t ticks exactly the first tD - M bits of the proper stream are sent, none while that is not positive, whatever bits follow
    pub sent_is_the_first : (more : List A) → sent R D (opened R M s₀) is ≡ take (length is * D - M) (outs R s₀ (joined is ++ more))
    sent_is_the_first more = rw (← length_joined D is each) (gone_is R D L M law some rate large s₀ _ _ _ kept more)

    pub sent_count : length (sent R D (opened R M s₀) is) ≡ length is * D - M
    sent_count = rw (← length_joined D is each) (length_gone R D L M law some rate large s₀ _ _ _ kept)

    -- what was sent and what closing writes are together the whole stream
    pub closing_sends_the_rest : sent R D (opened R M s₀) is ++ closing R (ticks R D (opened R M s₀) is) ≡ outs R s₀ (joined is)
    closing_sends_the_rest = closing_is R D L M law some rate large s₀ _ _ _ kept

    -- and all bits have then passed through the bit rule
    pub closing_passes_all : (closed R (ticks R D (opened R M s₀) is)).state ≡ after R s₀ (joined is)
    closing_passes_all = closed_is R D L M law some rate large s₀ _ _ _ kept

    fillers_left : (ticks R D (opened R M s₀) is).fillers ≡ M - length is * D
    fillers_left = kept.fill ∙ ap (λ (x : ℕ). M - x) (length_joined D is each)

    -- how many line bits the next tick writes
    pub written_count : length (written R D (ticks R D (opened R M s₀) is)) ≡ D - (M - length is * D)
    written_count = length_written R D (ticks R D (opened R M s₀) is) no_tick_refused.can_leave ∙ ap (λ (x : ℕ). D - x) fillers_left

    -- the counts that the next tick answers, as a line that holds numbers has them
    pub counts_are_true : (i : List A) → length i ≡ D
        → (length (written R D (ticks R D (opened R M s₀) is)) ≡ D - (ticks R D (opened R M s₀) is).fillers)
        × (length (ticked R D (ticks R D (opened R M s₀) is) i).waiting
        ≡ length (ticks R D (opened R M s₀) is).waiting + D - moving R (ticks R D (opened R M s₀) is) i)
    counts_are_true i size = (
      length_written R D (ticks R D (opened R M s₀) is) no_tick_refused.can_leave,
      length_waiting R D (ticks R D (opened R M s₀) is) i size,
    )

    -- the bits that the next tick writes
    pub a_tick_writes : (i : List A) → length i ≡ D → (more : List A)
        → written R D (ticks R D (opened R M s₀) is) ≡ slice (length is * D - M) (suc (length is) * D - M) (outs R s₀ (joined is ++ i ++ more))
    a_tick_writes i size more =
        let n = length_joined D is each in
        let m : length (joined is ++ i) - M ≡ suc (length is) * D - M = omega (arith, length-append (joined is) i) in
        let a : sent R D (opened R M s₀) is ++ written R D (ticks R D (opened R M s₀) is) ≡ take (suc (length is) * D - M) (outs R s₀ (joined is ++ i ++ more)) =
        rw (← m) (gone_is R D L M law some rate large s₀ _ _ _ (kept_tick R D L M law some rate large s₀ _ _ _ kept i size) more) in
        rw (← a) (sym (drop_at (sent R D (opened R M s₀) is) _ _ sent_count))

  -- bit n, counted from 0, leaves in tick number (n + M) / D rounded down, plus 1, if the line is still open then
  pub bit_leaves_in_tick : (is : List (List A)) → Each D is → (n k : ℕ) → 1 ≤ k → k ≤ length is
      → Leaves R D (opened R M s₀) is n k ↔ (k ≡ (n + M) / D + 1)
  bit_leaves_in_tick is each n k one open' =
      let before : length (sent R D (opened R M s₀) (take (k - 1) is)) ≡ (k - 1) * D - M =
      sent_count (take (k - 1) is) (each_take D (k - 1) is each) ∙ ap (λ (t : ℕ). t * D - M) (length-take-le (k - 1) is (omega arith)) in
      let then : length (sent R D (opened R M s₀) (take k is)) ≡ suc (k - 1) * D - M =
      sent_count (take k is) (each_take D k is each) ∙ ap (λ (t : ℕ). t * D - M) (length-take-le k is open' ∙ omega arith) in (
        λ l. omega (arith, (turn D M (k - 1) n some).0 (omega (arith, l.not_before), omega (arith, l.by_then))),
        λ e. let b = (turn D M (k - 1) n some).1 (omega arith) in
            record { not_before = rw before b.0; by_then = rw then b.1 },
      )
