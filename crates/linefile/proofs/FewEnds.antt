-- Each pattern takes its own 8 bits, and its blackout at least 128: so 136 bits for each but the last, whose blackout may lie past the end.
use mathlib.Core.Path.{◌≡◌, refl, ap, ◌∙◌}
use mathlib.Core.Bool.{Bool, true, false}
use mathlib.Core.List.{List, [], ◌∷◌}
use Prim.Native.Nat.{ℕ, suc, ◌+◌, ◌-◌, ◌*◌, ◌<◌, ◌≤◌, min}
use native.Mathlib.Decide.{ℕ_discrete}
use native.Mathlib.Omega.{arith}
use lib.ListN.{length, length-append, length-drop}
use Rattle.mode.specs.Mode.{Generator, Settings, State, last, seen, found, step, opened}
use Rattle.mode.specs.Ends.{ends, pattern_ends, silent}
use Rattle.mode.proofs.Cases.{same_true}
use Rattle.mode.proofs.Ends.{ended_scan, ended_dark, ends_none, ends_here, ends_later}
use Rattle.mode.proofs.Steps.{step_looks, step_found, step_last, step_dark}

module _ (G : Generator) (S : Settings) (eight : length S.pattern ≡ 8) (long : 128 ≤ S.lasts) where
  -- the ends in these bits, with those of a blackout bits left before them, against the bits, with those of the window before them
  abbrev Few : ℕ → State G.State → List ℕ → Type 0
  Few i s vs = 136 * length (ends G S i s vs) + min s.left 128 ≤ length vs + length s.window + 128

  module _ (v : ℕ) (vs : List ℕ) (i : ℕ) (s : State G.State) (h : length s.window ≤ 7)
      (rest : (t : State G.State) → length t.window ≤ 7 → Few (suc i) t vs) where
    one_long : length (seen G S s v) ≡ length s.window + 1
    one_long = length-append s.window (v ∷ [])

    abbrev next : State G.State
    next = step G S s v

    windowed : (t : State G.State) → next ≡ t → length next.window ≡ length t.window
    windowed t e = ap (λ (u : State G.State). length u.window) e

    scans : (f : Bool) → found G S s v ≡ f → s.left ≡ 0 → Few i s (v ∷ vs)
    scans true e z =
        let full : length (seen G S s v) ≡ 8 = ap length (same_true (seen G S s v) S.pattern e) ∙ eight in
        let w = windowed _ (step_found G S s v z e) in
        let l : next.left ≡ S.lasts = ap (λ (u : State G.State). u.left) (step_found G S s v z e) in
        rw (ends_here G S i s v vs (ended_scan G S s v z ∙ e)) (omega (arith, z, one_long, full, long, w, l, rest next (omega (arith, w))))
    scans false e z =
        let w = windowed _ (step_looks G S s v z e) in
        let k : length (last (length S.pattern - 1) (seen G S s v)) ≡ length (seen G S s v) - (length (seen G S s v) - (length S.pattern - 1)) =
        length-drop (length (seen G S s v) - (length S.pattern - 1)) (seen G S s v) in
        rw (ends_later G S i s v vs (ended_scan G S s v z ∙ e)) (omega (arith, z, one_long, eight, w, k, rest next (omega (arith, w, k, eight))))

    dark : 0 < s.left → Few i s (v ∷ vs)
    dark z =
        let e : ends G S i s (v ∷ vs) ≡ ends G S (suc i) next vs = ends_later G S i s v vs (ended_dark G S s v z) in
        elim (ℕ_discrete s.left 1) [
          | yes o ↦ (let w = windowed _ (step_last G S s v o) in rw e (omega (arith, o, w, rest next (omega (arith, w)))))
          | no o ↦ (
              let w = windowed _ (step_dark G S s v (omega arith)) in
              let l : next.left ≡ s.left - 1 = ap (λ (u : State G.State). u.left) (step_dark G S s v (omega arith)) in
              rw e (omega (arith, z, l, w, rest next (omega (arith, w)))))
        ]

    turn : Few i s (v ∷ vs)
    turn = elim (ℕ_discrete s.left 0) [
      | yes z ↦ scans (found G S s v) refl z
      | no z ↦ dark (omega arith)
    ]

  pub few_ends : (vs : List ℕ) (i : ℕ) (s : State G.State) → length s.window ≤ 7 → Few i s vs
  few_ends [] i s h = rw (ends_none G S i s) (omega arith)
  few_ends (v ∷ vs) i s h = turn v vs i s h (few_ends vs (suc i))

-- from an opening on
pub ends_are_few : (S : Settings) (vs : List ℕ) → length S.pattern ≡ 8 → 128 ≤ S.lasts → 136 * length (pattern_ends S vs) ≤ length vs + 128
ends_are_few S vs eight long = omega (arith, few_ends silent S eight long vs 0 (opened tt) (omega arith))
