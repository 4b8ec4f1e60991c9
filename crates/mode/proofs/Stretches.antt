-- What the rule does in a stretch of bits: scanning up to the earliest match, and the bits of a blackout. Within such a stretch the generator is not
-- set before the last bit, so the line bits are the bits given plus a stretch of keystream, or the bits given themselves.
use mathlib.Core.Path.{◌≡◌, refl, sym, ap, subst, ◌∙◌}
use mathlib.Core.Bool.{cond}
use mathlib.Core.List.{List, [], ◌∷◌, ◌++◌, append_assoc, append-nil}
use Prim.Native.Nat.{ℕ, suc, ◌-◌, ◌<◌, ◌≤◌}
use native.Mathlib.Omega.{arith}
use lib.ListN.{length, take, length-take}
use lib.Seq.{take_all}
use Rattle.mode.specs.Rule.{after, outs}
use Rattle.mode.specs.Mode.{Generator, Settings, State, last, same, line, step, rule, opened}
use Rattle.mode.specs.Words.{stream, nexts, plus, Unset}
use Rattle.mode.specs.Scan.{Scan, scan}
use Rattle.mode.proofs.Cases.{picked, take_take_append}
use Rattle.mode.proofs.Steps.{step_looks, step_found, step_dark, step_last}
use Rattle.mode.proofs.Streams.{carried, carried_more, take_plus, take_stream}
use Rattle.mode.proofs.Words.{in_between, dark_unset}

module _ (G : Generator) (S : Settings) where
  -- ---- scanning

  abbrev pub looking : G.State → List ℕ → State G.State
  looking g w = record { generator = g; window = w; left = 0; collected = [] }

  -- the state that a scan leaves
  abbrev pub scanned : G.State → Scan → State G.State
  scanned g r = record { generator = nexts G g r.count; window = r.window; left = cond r.found S.lasts 0; collected = [] }

  abbrev scanning : G.State → List ℕ → List ℕ → Scan
  scanning g w bs = scan S.pattern w (carried G S g bs)

  -- what holds of a scan r over bits bs, from the generator's state g and the window w on
  abbrev Scans : G.State → List ℕ → List ℕ → Scan → Type 0
  Scans g w bs r =
      (after (rule G S) (looking g w) (take r.count bs) ≡ scanned g r) × Unset G S (looking g w) (take r.count bs)

  unset_more : (s : State G.State) (b : ℕ) (r : List ℕ) → s.left ≡ 0 → Unset G S (step G S s (line G S s b)) r → Unset G S s (b ∷ r)
  unset_more s b [] z u = tt
  unset_more s b (c ∷ r) z u = (λ e. omega arith, u)

  carried_none : (g : G.State) → carried G S g [] ≡ []
  unfolding plus
  carried_none g = picked (λ (l : List ℕ). l ≡ []) S.sending [] [] (λ _. refl) (λ _. refl)

  scans : (bs : List ℕ) (g : G.State) (w : List ℕ) → Scans g w bs (scanning g w bs)
  unfolding scan
  scans [] g w = subst (λ (vs : List ℕ). Scans g w [] (scan S.pattern w vs)) (sym (carried_none g)) (refl, tt)
  scans (b ∷ r) g w =
      subst (λ (vs : List ℕ). Scans g w (b ∷ r) (scan S.pattern w vs)) (sym (carried_more G S g b r))
      (picked (Scans g w (b ∷ r)) (same (w ++ (line G S (looking g w) b ∷ [])) S.pattern) _ _
      (λ e. (step_found G S (looking g w) (line G S (looking g w) b) refl e, tt))
      (λ e.
      let v : ℕ = line G S (looking g w) b in
      let w' : List ℕ = last (length S.pattern - 1) (w ++ (v ∷ [])) in
      let on : step G S (looking g w) v ≡ looking (G.next g) w' = step_looks G S (looking g w) v refl e in
      let rest = scans r (G.next g) w' in
      let c : ℕ = (scanning (G.next g) w' r).count in (
        ap (λ (t : State G.State). after (rule G S) t (take c r)) on ∙ rest.0,
        unset_more (looking g w) b (take c r) refl (subst (λ (t : State G.State). Unset G S t (take c r)) (sym on) rest.1),
      )))

  -- the state after the bits that a scan takes, and the bits that come out for them
  pub scan_after : (g : G.State) (w : List ℕ) (bs : List ℕ)
      → after (rule G S) (looking g w) (take (scanning g w bs).count bs) ≡ scanned g (scanning g w bs)
  scan_after g w bs = (scans bs g w).0

  pub scan_outs : (g : G.State) (w : List ℕ) (bs : List ℕ)
      → outs (rule G S) (looking g w) (take (scanning g w bs).count bs) ≡ take (scanning g w bs).count (plus bs (stream G g (length bs)))
  scan_outs g w bs =
      in_between G S (looking g w) (take (scanning g w bs).count bs) (scans bs g w).1
      ∙ sym (take_plus (scanning g w bs).count bs (stream G g (length bs)) ∙ ap (plus (take (scanning g w bs).count bs)) (take_stream (scanning g w bs).count G g bs))

  -- ---- in a blackout

  abbrev pub dark : G.State → ℕ → List ℕ → State G.State
  dark g l c = record { generator = g; window = []; left = l; collected = c }

  -- one bit of a blackout before its last one
  dark_one : (b : ℕ) (g : G.State) (l : ℕ) (c : List ℕ) → 1 < l
      → (rule G S).next (dark g l c) b ≡ dark (G.next g) (l - 1) (take S.collects (c ++ (line G S (dark g l c) b ∷ [])))
  dark_one b g l c h = step_dark G S (dark g l c) (line G S (dark g l c) b) h

  -- what is collected with one bit and then the others is what is collected with all
  collected_more : (b : ℕ) (r : List ℕ) (g : G.State) (l : ℕ) (c : List ℕ)
      → take S.collects (take S.collects (c ++ (line G S (dark g l c) b ∷ [])) ++ carried G S (G.next g) r) ≡ take S.collects (c ++ carried G S g (b ∷ r))
  collected_more b r g l c =
      take_take_append S.collects (c ++ (line G S (dark g l c) b ∷ [])) (carried G S (G.next g) r)
      ∙ ap (take S.collects) (append_assoc c (line G S (dark g l c) b ∷ []) (carried G S (G.next g) r) ∙ ap (λ (l : List ℕ). c ++ l) (sym (carried_more G S g b r)))

  -- so many bits of a blackout, but not its last one
  pub dark_after : (bs : List ℕ) (g : G.State) (l : ℕ) (c : List ℕ) → length bs < l → length c ≤ S.collects
      → after (rule G S) (dark g l c) bs ≡ dark (nexts G g (length bs)) (l - length bs) (take S.collects (c ++ carried G S g bs))
  dark_after [] g l c h k =
      let z : l ≡ l - 0 = omega arith in
      let e : c ≡ take S.collects (c ++ carried G S g []) =
      sym (take_all S.collects c k) ∙ ap (take S.collects) (sym (append-nil c) ∙ ap (λ (r : List ℕ). c ++ r) (sym (carried_none g))) in
      λ i. dark g (z i) (e i)
  dark_after (b ∷ r) g l c h k =
      let z : l - 1 - length r ≡ l - suc (length r) = omega arith in
      ap (λ (t : State G.State). after (rule G S) t r) (dark_one b g l c (omega arith))
      ∙ dark_after r (G.next g) (l - 1) (take S.collects (c ++ (line G S (dark g l c) b ∷ []))) (omega arith) (simp length-take (omega arith))
      ∙ (λ i. dark (nexts G (G.next g) (length r)) (z i) (collected_more b r g l c i))

  -- the rest of a blackout, to its last bit
  pub dark_over : (bs : List ℕ) (g : G.State) (l : ℕ) (c : List ℕ) → length bs ≡ l → 0 < l
      → after (rule G S) (dark g l c) bs ≡ opened (G.load (take S.collects (c ++ carried G S g bs)))
  dark_over [] g l c e h = absurd (omega arith)
  dark_over (b ∷ []) g l c e h =
      step_last G S (dark g l c) (line G S (dark g l c) b) (sym e)
      ∙ ap (λ (d : List ℕ). opened (G.load (take S.collects (c ++ d))))
      (sym (carried_more G S g b [] ∙ ap (λ (r : List ℕ). line G S (dark g l c) b ∷ r) (carried_none (G.next g))))
  dark_over (b ∷ x ∷ r) g l c e h =
      ap (λ (t : State G.State). after (rule G S) t (x ∷ r)) (dark_one b g l c (omega arith))
      ∙ dark_over (x ∷ r) (G.next g) (l - 1) (take S.collects (c ++ (line G S (dark g l c) b ∷ []))) (omega arith) (omega arith)
      ∙ ap (λ (d : List ℕ). opened (G.load d)) (collected_more b (x ∷ r) g l c)

  pub dark_outs : (bs : List ℕ) (g : G.State) (l : ℕ) (c : List ℕ) → length bs ≤ l
      → outs (rule G S) (dark g l c) bs ≡ plus bs (stream G g (length bs))
  dark_outs bs g l c h = in_between G S (dark g l c) bs (dark_unset G S (dark g l c) bs h)
