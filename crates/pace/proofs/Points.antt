-- P13 (01, "Points to try"), for any bit rule with a blackout of one block.
use mathlib.Core.Path.{◌≡◌, refl}
use mathlib.Core.List.{List, [], ◌∷◌}
use native.Mathlib.Omega.{arith}
use lib.ListN.{length, length-append, length-drop}
use Rattle.mode.specs.Rule.{Rule, Blackout}
use Rattle.pace.specs.Tick.{hold, opened, width, moves, ticked}
use Rattle.pace.specs.Ticks.{P13, Each, ticks}
use Rattle.pace.proofs.Ticks.{written_count}

module _ {A B : Type 0} (R : Rule A B) (s : R.State) (scanning : R.left s ≡ 0) where
  one_waits : (is : List (List A)) → Each 64 is → length is ≡ 1 → length (ticks R 64 (opened R (hold 64) s) is).waiting ≡ 64
  unfolding ticked
  one_waits [] e n = absurd (omega arith)
  one_waits (i ∷ []) e n = rw (length-drop, scanning, e.0)
  one_waits (i ∷ j ∷ is) e n = absurd (omega arith)

  none_waits : (is : List (List A)) → Each 64 is → length is ≡ 2 → length (ticks R 64 (opened R (hold 64) s) is).waiting ≡ 0
  unfolding ticked
  none_waits [] e n = absurd (omega arith)
  none_waits (i ∷ []) e n = absurd (omega arith)
  none_waits (i ∷ j ∷ []) e n =
      let none : moves (width (R.left s)) (length i) ≡ 0 = rw (scanning, e.0) in
      rw (none, length-drop, length-append, scanning, e.0, e.1.0)
  none_waits (i ∷ j ∷ k ∷ is) e n = absurd (omega arith)

  pub p13 : Blackout R 1 → P13 R s
  p13 law =
      record {
        hold_is = refl;
        gives_none = λ is e n. omega (arith, written_count R 64 1 (hold 64) law (omega arith) (omega arith) (omega arith) s scanning is e);
        gives_two = λ is e n. omega (arith, written_count R 64 1 (hold 64) law (omega arith) (omega arith) (omega arith) s scanning is e);
        waiting_one = one_waits;
        waiting_two = none_waits;
      }
