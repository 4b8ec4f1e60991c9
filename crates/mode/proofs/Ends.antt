-- The ends of patterns by their cases. They depend on the window and the blackout bits left, which the line bits alone move: not on the generator, nor on
-- what is collected.
use mathlib.Core.Path.{◌≡◌, refl, sym, ap, ◌∙◌}
use mathlib.Core.Bool.{Bool, true, false, cond}
use mathlib.Core.List.{List, [], ◌∷◌}
use Prim.Native.Nat.{ℕ, zero, suc, ◌-◌, ◌<◌}
use native.Mathlib.Decide.{ℕ_discrete}
use native.Mathlib.Omega.{arith}
use Rattle.mode.specs.Mode.{Generator, Settings, State, stage, found, step, opened}
use Rattle.mode.specs.Ends.{ended, ends, silent, pattern_ends}
use Rattle.mode.proofs.Steps.{step_last, step_dark}

module _ (G : Generator) (S : Settings) where
  -- ---- whether a pattern ends at a bit

  pub ended_scan : (s : State G.State) (v : ℕ) → s.left ≡ 0 → ended G S s v ≡ found G S s v
  ended_scan s v z = ap (λ (l : ℕ). stage l (found G S s v) false false) z

  pub ended_dark : (s : State G.State) (v : ℕ) → 0 < s.left → ended G S s v ≡ false
  ended_dark s v = go s.left
    where
      go : (l : ℕ) → 0 < l → stage l (found G S s v) false false ≡ false
      go zero h = absurd (omega arith)
      go (suc zero) h = refl
      go (suc (suc k)) h = refl

  -- ---- the ends: of no bits, at the first bit, at later ones alone

  pub ends_none : (i : ℕ) (s : State G.State) → ends G S i s [] ≡ []
  unfolding ends
  ends_none i s = refl

  pub ends_here : (i : ℕ) (s : State G.State) (v : ℕ) (vs : List ℕ) → ended G S s v ≡ true
      → ends G S i s (v ∷ vs) ≡ suc i ∷ ends G S (suc i) (step G S s v) vs
  unfolding ends
  ends_here i s v vs e = rw e

  pub ends_later : (i : ℕ) (s : State G.State) (v : ℕ) (vs : List ℕ) → ended G S s v ≡ false
      → ends G S i s (v ∷ vs) ≡ ends G S (suc i) (step G S s v) vs
  unfolding ends
  ends_later i s v vs e = rw e

-- ---- a scanner

-- the settings of a scanner that collects nothing
abbrev pub collects_none : Settings → Settings
collects_none S = record { pattern = S.pattern; collects = 0; lasts = S.lasts; sending = S.sending }

-- the state of a scanner: the window and the blackout bits left
abbrev pub scanner : List ℕ → ℕ → State (Unit {0})
scanner w l = record { generator = tt; window = w; left = l; collected = [] }

-- in a blackout it counts
pub scanner_dark : (S : Settings) (w : List ℕ) (l v : ℕ) → 0 < l → step silent (collects_none S) (scanner w l) v ≡ scanner [] (l - 1)
scanner_dark S w l v h =
    elim (ℕ_discrete l 1) [
      | yes o ↦ (let z : 0 ≡ l - 1 = omega arith in step_last silent (collects_none S) (scanner w l) v o ∙ ap (scanner []) z)
      | no o ↦ step_dark silent (collects_none S) (scanner w l) v (omega arith)
    ]

module _ (G : Generator) (S : Settings) where
  abbrev pub bare : State G.State → State (Unit {0})
  bare s = scanner s.window s.left

  bare_stage : (l : ℕ) (x y z : State G.State) → bare (stage l x y z) ≡ stage l (bare x) (bare y) (bare z)
  bare_stage zero x y z = refl
  bare_stage (suc zero) x y z = refl
  bare_stage (suc (suc k)) x y z = refl

  bare_cond : (f : Bool) (x y : State G.State) → bare (cond f x y) ≡ cond f (bare x) (bare y)
  bare_cond true x y = refl
  bare_cond false x y = refl

  bare_step : (s : State G.State) (v : ℕ) → step silent (collects_none S) (bare s) v ≡ bare (step G S s v)
  unfolding step
  bare_step s v = sym (bare_stage s.left _ _ _ ∙ ap (λ (t : State (Unit {0})). stage s.left t (scanner [] 0) (scanner [] (s.left - 1))) (bare_cond (found G S s v) _ _))

  pub ends_bare : (vs : List ℕ) (i : ℕ) (s : State G.State) → ends silent (collects_none S) i (bare s) vs ≡ ends G S i s vs
  unfolding ends
  ends_bare [] i s = refl
  ends_bare (v ∷ vs) i s =
      let rest : ends silent (collects_none S) (suc i) (step silent (collects_none S) (bare s) v) vs ≡ ends G S (suc i) (step G S s v) vs =
      ap (λ (t : State (Unit {0})). ends silent (collects_none S) (suc i) t vs) (bare_step s v) ∙ ends_bare vs (suc i) (step G S s v) in
      λ k. cond (ended G S s v) (suc i ∷ rest k) (rest k)

-- from an opening on they are the same over every generator
pub ends_alone : (G : Generator) (S : Settings) (g : G.State) (vs : List ℕ) → pattern_ends S vs ≡ ends G S 0 (opened g) vs
ends_alone G S g vs = sym (ends_bare silent S vs 0 (opened tt)) ∙ ends_bare G S vs 0 (opened g)
