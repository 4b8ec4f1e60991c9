-- The mode in the words of its paper: to what the generator is set and when, what comes out in between, and that two lines fall back into step.
use mathlib.Core.Path.{◌≡◌, refl, sym, ap, ◌∙◌}
use mathlib.Core.Bool.{true}
use mathlib.Core.List.{List, [], ◌∷◌, ◌++◌, append_assoc}
use Prim.Native.Nat.{ℕ, suc, ◌-◌, ◌<◌, ◌≤◌}
use native.Mathlib.Omega.{arith}
use lib.ListN.{length, take}
use Rattle.mode.specs.Rule.{after, outs}
use Rattle.mode.specs.Mode.{Generator, Settings, State, out, line, found, gathered, step, rule, fed, opened, receives}
use Rattle.mode.specs.Words.{stream, plus, Unset, Finds}
use Rattle.mode.proofs.Cases.{picked, staged, take_take_append}
use Rattle.mode.proofs.Steps.{step_found, step_last, step_dark, left_counts, fed_append, lines_alone, fed_toward, received_lines}

module _ (G : Generator) (S : Settings) where
  -- ---- the generator is set to what is collected

  pub dark_ends : (ws : List ℕ) (s : State G.State) → s.left ≡ length ws → 0 < length ws
      → fed G S s ws ≡ opened (G.load (take S.collects (s.collected ++ ws)))
  dark_ends [] s e h = absurd (omega arith)
  dark_ends (w ∷ []) s e h = step_last G S s w e
  dark_ends (w ∷ x ∷ r) s e h =
      let c : (step G S s w).collected ≡ gathered G S s w = ap (λ (t : State G.State). t.collected) (step_dark G S s w (omega arith)) in
      dark_ends (x ∷ r) (step G S s w) (left_counts G S s w (length (x ∷ r)) e) (omega arith)
      ∙ ap (λ (l : List ℕ). opened (G.load l))
      (ap (λ (l : List ℕ). take S.collects (l ++ (x ∷ r))) c
      ∙ take_take_append S.collects (s.collected ++ (w ∷ [])) (x ∷ r)
      ∙ ap (take S.collects) (append_assoc s.collected (w ∷ []) (x ∷ r)))

  -- a match, and then as many bits as a blackout lasts: whatever the state was, scanning begins with the generator that the first of these make
  pub found_sets : (s : State G.State) (v : ℕ) (ws : List ℕ) → 1 ≤ S.lasts → s.left ≡ 0 → found G S s v ≡ true → length ws ≡ S.lasts
      → fed G S s (v ∷ ws) ≡ opened (G.load (take S.collects ws))
  found_sets s v ws some z e n =
      ap (λ (t : State G.State). fed G S t ws) (step_found G S s v z e)
      ∙ dark_ends ws (record { generator = G.next s.generator; window = []; left = S.lasts; collected = [] }) (sym n) (omega arith)

  -- ---- falling back into step

  pub finds_sets : (s : State G.State) (us : List ℕ) (v : ℕ) (ws : List ℕ) → 1 ≤ S.lasts → Finds G S s us v → length ws ≡ S.lasts
      → fed G S s (us ++ (v ∷ ws)) ≡ opened (G.load (take S.collects ws))
  finds_sets s us v ws some f n = fed_append G S s us (v ∷ ws) ∙ found_sets (fed G S s us) v ws some f.scanning f.match n

  -- two states that find a pattern at the same line bit agree after the blackout
  pub back_in_step : (s t : State G.State) (us : List ℕ) (v : ℕ) (ws : List ℕ) → 1 ≤ S.lasts → Finds G S s us v → Finds G S t us v
      → length ws ≡ S.lasts → fed G S s (us ++ (v ∷ ws)) ≡ fed G S t (us ++ (v ∷ ws))
  back_in_step s t us v ws some f g n = finds_sets s us v ws some f n ∙ sym (finds_sets t us v ws some g n)

  -- ---- what comes out

  goes_on : (s : State G.State) (v : ℕ) → (s.left ≡ 1 → ⊥) → (step G S s v).generator ≡ G.next s.generator
  unfolding step
  goes_on s v h =
      staged (λ (t : State G.State). t.generator ≡ G.next s.generator) s.left _ _ _
      (λ _. picked (λ (t : State G.State). t.generator ≡ G.next s.generator) (found G S s v) _ _ (λ _. refl) (λ _. refl))
      (λ e. absurd (h e))
      (λ _. refl)

  -- between two moments at which the generator is set, what comes out is what goes in plus, bit by bit, the stream from its state on
  pub in_between : (s : State G.State) (bs : List ℕ) → Unset G S s bs → outs (rule G S) s bs ≡ plus bs (stream G s.generator (length bs))
  unfolding plus
  in_between s [] u = refl
  in_between s (b ∷ []) u = refl
  in_between s (b ∷ c ∷ r) u =
      ap (λ (l : List ℕ). out G S s b ∷ l)
      (in_between (step G S s (line G S s b)) (c ∷ r) u.1
      ∙ ap (λ (g : G.State). plus (c ∷ r) (stream G g (length (c ∷ r)))) (goes_on s (line G S s b) u.0))

  -- in a blackout the generator goes on to its last bit
  pub dark_unset : (s : State G.State) (bs : List ℕ) → length bs ≤ s.left → Unset G S s bs
  dark_unset s [] h = tt
  dark_unset s (b ∷ []) h = tt
  dark_unset s (b ∷ c ∷ r) h = (
    λ e. omega arith,
    dark_unset (step G S s (line G S s b)) (c ∷ r) (omega (arith, left_counts G S s (line G S s b) (s.left - 1) (omega arith))),
  )

  -- the generator is not set where no bit but the last one is the last bit of a blackout
  pub unset_of : (s : State G.State) (bs : List ℕ) → ((i : ℕ) → suc i < length bs → (after (rule G S) s (take i bs)).left ≡ 1 → ⊥) → Unset G S s bs
  unset_of s [] h = tt
  unset_of s (b ∷ []) h = tt
  unset_of s (b ∷ c ∷ r) h = (
    h 0 (omega arith),
    unset_of (step G S s (line G S s b)) (c ∷ r) (λ i lt. h (suc i) (omega arith)),
  )

  -- ---- two receivers that fell back into step recover equal bits for as long as the line bits stay equal

  pub received : (s : State G.State) (vs : List ℕ) → after (receives G S) s vs ≡ fed G S s vs
  received s vs = lines_alone G _ s vs ∙ ap (fed G _ s) (received_lines G S s vs) ∙ fed_toward G S _ s vs

  pub recover_equal : (s t : State G.State) (us : List ℕ) (v : ℕ) (ws zs : List ℕ) → 1 ≤ S.lasts → Finds G S s us v → Finds G S t us v
      → length ws ≡ S.lasts
      → outs (receives G S) (after (receives G S) s (us ++ (v ∷ ws))) zs ≡ outs (receives G S) (after (receives G S) t (us ++ (v ∷ ws))) zs
  recover_equal s t us v ws zs some f g n =
      ap (λ (r : State G.State). outs (receives G S) r zs)
      (received s (us ++ (v ∷ ws)) ∙ back_in_step s t us v ws some f g n ∙ sym (received t (us ++ (v ∷ ws))))
