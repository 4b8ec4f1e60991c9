-- A scan by its cases: of no bits, of a bit that ends a pattern, of one that does not. So it takes at least one bit where there is one, and no more than
-- there are; and a scan of one bit says what the rule does with it.
use mathlib.Core.Path.{◌≡◌, refl, sym, ap, ◌∙◌}
use mathlib.Core.Bool.{Bool, true, false, cond}
use mathlib.Core.List.{List, [], ◌∷◌, ◌++◌}
use Prim.Native.Nat.{ℕ, suc, ◌-◌, ◌<◌, ◌≤◌}
use native.Mathlib.Omega.{arith}
use lib.ListN.{length}
use Rattle.mode.specs.Mode.{Generator, Settings, State, same, last, found, step}
use Rattle.mode.specs.Scan.{Scan, more, scan}
use Rattle.mode.specs.Ends.{ended}
use Rattle.mode.proofs.Cases.{picked}
use Rattle.mode.proofs.Steps.{step_looks, step_found}
use Rattle.mode.proofs.Ends.{ended_scan}

module _ (p w : List ℕ) where
  pub scan_none : scan p w [] ≡ record { count = 0; window = w; found = false }
  unfolding scan
  scan_none = refl

  pub scan_ends : (v : ℕ) (vs : List ℕ) → same (w ++ (v ∷ [])) p ≡ true → scan p w (v ∷ vs) ≡ record { count = 1; window = []; found = true }
  unfolding scan
  scan_ends v vs e = rw e

  pub scan_goes_on : (v : ℕ) (vs : List ℕ) → same (w ++ (v ∷ [])) p ≡ false → scan p w (v ∷ vs) ≡ more (scan p (last (length p - 1) (w ++ (v ∷ []))) vs)
  unfolding scan
  scan_goes_on v vs e = rw e

  -- what holds in both cases holds of the scan
  scan_cases : (P : Scan → Type 0) (v : ℕ) (vs : List ℕ) → P (record { count = 1; window = []; found = true })
      → P (more (scan p (last (length p - 1) (w ++ (v ∷ []))) vs)) → P (scan p w (v ∷ vs))
  unfolding scan
  scan_cases P v vs hit miss = picked P (same (w ++ (v ∷ [])) p) _ _ (λ _. hit) (λ _. miss)

  pub scan_some : (v : ℕ) (vs : List ℕ) → 0 < (scan p w (v ∷ vs)).count
  scan_some v vs = scan_cases (λ (r : Scan). 0 < r.count) v vs (omega arith) (omega arith)

pub scan_most : (p w vs : List ℕ) → (scan p w vs).count ≤ length vs
unfolding scan
scan_most p w [] = omega arith
scan_most p w (v ∷ vs) =
    scan_cases p w (λ (r : Scan). r.count ≤ suc (length vs)) v vs (omega arith) (omega (arith, scan_most p (last (length p - 1) (w ++ (v ∷ []))) vs))

module _ (G : Generator) (S : Settings) (s : State G.State) where
  -- the state that a scan of one bit leaves
  abbrev looked : Scan → State G.State
  looked r = record { generator = G.next s.generator; window = r.window; left = cond r.found S.lasts 0; collected = [] }

  module _ (v : ℕ) (z : s.left ≡ 0) where
    abbrev one : Scan
    one = scan S.pattern s.window (v ∷ [])

    hits : found G S s v ≡ true → one ≡ record { count = 1; window = []; found = true }
    hits e = scan_ends S.pattern s.window v [] e

    misses : found G S s v ≡ false → one ≡ record { count = 1; window = last (length S.pattern - 1) (s.window ++ (v ∷ [])); found = false }
    misses e = scan_goes_on S.pattern s.window v [] e ∙ ap more (scan_none S.pattern (last (length S.pattern - 1) (s.window ++ (v ∷ []))))

    pub step_scans : step G S s v ≡ looked one
    step_scans = go (found G S s v) refl
      where
        go : (t : Bool) → found G S s v ≡ t → step G S s v ≡ looked one
        go true e = step_found G S s v z e ∙ ap looked (sym (hits e))
        go false e = step_looks G S s v z e ∙ ap looked (sym (misses e))

    pub ended_scans : ended G S s v ≡ one.found
    ended_scans = ended_scan G S s v z ∙ go (found G S s v) refl
      where
        go : (t : Bool) → found G S s v ≡ t → found G S s v ≡ one.found
        go true e = e ∙ ap (λ (r : Scan). r.found) (sym (hits e))
        go false e = e ∙ ap (λ (r : Scan). r.found) (sym (misses e))
