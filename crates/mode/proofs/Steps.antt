-- One bit and many: the cases of one bit as equations; the bits of a blackout are counted; the ranges are kept; the state depends on line bits
-- alone; a receiver turns back what a sender made.
use mathlib.Core.Path.{◌≡◌, refl, sym, ap, ◌∙◌}
use mathlib.Core.Logic.{◌⊎◌, inl, inr}
use mathlib.Core.Bool.{Bool, true, false}
use mathlib.Core.List.{List, [], ◌∷◌, ◌++◌}
use Prim.Native.Nat.{ℕ, zero, suc, ◌+◌, ◌-◌, ◌*◌, ◌%◌, ◌<◌, ◌≤◌, min}
use native.Mathlib.Omega.{arith}
use lib.ListN.{length, length-append, length-take}
use Rattle.mode.specs.Rule.{Blackout, after, outs}
use Rattle.mode.specs.Mode.{Generator, Settings, State, stage, last, out, line, seen, found, gathered, step, rule, fed, lines, opened, toward, sends, receives, Bits}
use Rattle.mode.specs.Words.{due, Within}
use Rattle.mode.proofs.Cases.{picked, staged, length_last, bits_drop, bits_take, bits_append}
use Rattle.mode.proofs.Runs.{after_append, outs_append}

stage_scan : {A : Type 0} (l : ℕ) (x y z : A) → l ≡ 0 → stage l x y z ≡ x
stage_scan zero x y z e = refl
stage_scan (suc k) x y z e = absurd (omega arith)

stage_last : {A : Type 0} (l : ℕ) (x y z : A) → l ≡ 1 → stage l x y z ≡ y
stage_last zero x y z e = absurd (omega arith)
stage_last (suc zero) x y z e = refl
stage_last (suc (suc k)) x y z e = absurd (omega arith)

stage_dark : {A : Type 0} (l : ℕ) (x y z : A) → 1 < l → stage l x y z ≡ z
stage_dark zero x y z e = absurd (omega arith)
stage_dark (suc zero) x y z e = absurd (omega arith)
stage_dark (suc (suc k)) x y z e = refl

due_start : (S : Settings) (l : ℕ) → l ≡ S.lasts → due S l ≡ 0
due_start S zero e = refl
due_start S (suc k) e = omega arith

due_dark : (S : Settings) (l : ℕ) → 0 < l → due S l ≡ min S.collects (S.lasts - l)
due_dark S zero h = absurd (omega arith)
due_dark S (suc k) h = refl

module _ (G : Generator) (S : Settings) where
  -- ---- the four cases of one line bit

  pub step_looks : (s : State G.State) (v : ℕ) → s.left ≡ 0 → found G S s v ≡ false
      → step G S s v ≡ record { generator = G.next s.generator; window = last (length S.pattern - 1) (seen G S s v); left = 0; collected = [] }
  unfolding step
  step_looks s v z e = stage_scan s.left _ _ _ z ∙ rw e

  pub step_found : (s : State G.State) (v : ℕ) → s.left ≡ 0 → found G S s v ≡ true
      → step G S s v ≡ record { generator = G.next s.generator; window = []; left = S.lasts; collected = [] }
  unfolding step
  step_found s v z e = stage_scan s.left _ _ _ z ∙ rw e

  pub step_last : (s : State G.State) (v : ℕ) → s.left ≡ 1 → step G S s v ≡ opened (G.load (gathered G S s v))
  unfolding step
  step_last s v e = stage_last s.left _ _ _ e

  pub step_dark : (s : State G.State) (v : ℕ) → 1 < s.left
      → step G S s v ≡ record { generator = G.next s.generator; window = []; left = s.left - 1; collected = gathered G S s v }
  unfolding step
  step_dark s v h = stage_dark s.left _ _ _ h

  -- ---- the blackout's bits

  pub left_scans : (s : State G.State) (v : ℕ) → s.left ≡ 0 → ((step G S s v).left ≡ 0) ⊎ ((step G S s v).left ≡ S.lasts)
  unfolding step
  left_scans s v z =
      staged (λ (t : State G.State). (t.left ≡ 0) ⊎ (t.left ≡ S.lasts)) s.left _ _ _
      (λ _. picked (λ (t : State G.State). (t.left ≡ 0) ⊎ (t.left ≡ S.lasts)) (found G S s v) _ _ (λ _. inr refl) (λ _. inl refl))
      (λ _. inl refl)
      (λ h. absurd (omega arith))

  pub left_counts : (s : State G.State) (v k : ℕ) → s.left ≡ suc k → (step G S s v).left ≡ k
  unfolding step
  left_counts s v k e =
      staged (λ (t : State G.State). t.left ≡ k) s.left _ _ _ (λ h. absurd (omega arith)) (λ h. omega arith) (λ h. omega arith)

  -- so the tick's theory holds over every generator, for a blackout of L blocks
  pub blackout : (L : ℕ) → 1 ≤ L → S.lasts ≡ 128 * L → Blackout (rule G S) L
  blackout L some e = record {
    some = some;
    scans = λ s x z. rw (← e) (left_scans s (line G S s x) z);
    counts = λ s x k h. left_counts s (line G S s x) k h;
  }

  -- ---- the ranges

  pub within_step : (s : State G.State) (v : ℕ) → v < 2 → Within S s → Within S (step G S s v)
  unfolding step
  within_step s v b w =
      staged (Within S) s.left _ _ _
      (λ z. picked (Within S) (found G S s v) _ _
      (λ _. record { left_in = omega arith; collected_is = sym (due_start S S.lasts refl); window_in = omega arith; collected_bits = tt; window_bits = tt })
      (λ _. record {
        left_in = omega arith;
        collected_is = refl;
        window_in = length_last (length S.pattern - 1) (seen G S s v);
        collected_bits = tt;
        window_bits = bits_drop (length (seen G S s v) - (length S.pattern - 1)) (seen G S s v) (bits_append s.window (v ∷ []) w.window_bits (b, tt));
      }))
      (λ _. record { left_in = omega arith; collected_is = refl; window_in = omega arith; collected_bits = tt; window_bits = tt })
      (λ h.
      let c : length s.collected ≡ min S.collects (S.lasts - s.left) = w.collected_is ∙ due_dark S s.left (omega arith) in
      record {
        left_in = omega (arith, w.left_in);
        collected_is = simp (length-take, length-append) (omega (arith, w.left_in, due_dark S (s.left - 1) (omega arith)));
        window_in = omega arith;
        collected_bits = bits_take S.collects (s.collected ++ (v ∷ [])) (bits_append s.collected (v ∷ []) w.collected_bits (b, tt));
        window_bits = tt;
      })

  pub line_bit : (s : State G.State) (b : ℕ) → b < 2 → line G S s b < 2
  line_bit s b h = picked (λ (v : ℕ). v < 2) S.sending (out G S s b) b (λ _. omega arith) (λ _. h)

  pub within_after : (s : State G.State) (bs : List ℕ) → Bits bs → Within S s → Within S (after (rule G S) s bs)
  within_after s [] h w = w
  within_after s (b ∷ r) h w = within_after ((rule G S).next s b) r h.1 (within_step s (line G S s b) (line_bit s b h.0) w)

  -- what is kept by the generator's step and holds where it is set holds of every state reached
  generator_step : (P : G.State → Type 0) → ((g : G.State) → P g → P (G.next g)) → ((c : List ℕ) → P (G.load c))
      → (s : State G.State) (v : ℕ) → P s.generator → P (step G S s v).generator
  unfolding step
  generator_step P on set s v h =
      staged (λ (t : State G.State). P t.generator) s.left _ _ _
      (λ _. picked (λ (t : State G.State). P t.generator) (found G S s v) _ _ (λ _. on s.generator h) (λ _. on s.generator h))
      (λ _. set (gathered G S s v))
      (λ _. on s.generator h)

  pub generator_keeps : (P : G.State → Type 0) → ((g : G.State) → P g → P (G.next g)) → ((c : List ℕ) → P (G.load c))
      → (s : State G.State) (bs : List ℕ) → P s.generator → P (after (rule G S) s bs).generator
  generator_keeps P on set s [] h = h
  generator_keeps P on set s (b ∷ r) h =
      generator_keeps P on set ((rule G S).next s b) r (generator_step P on set s (line G S s b) h)

  -- ---- line bits alone

  pub lines_alone : (s : State G.State) (bs : List ℕ) → after (rule G S) s bs ≡ fed G S s (lines G S s bs)
  lines_alone s [] = refl
  lines_alone s (b ∷ r) = lines_alone ((rule G S).next s b) r

  pub fed_append : (s : State G.State) (a b : List ℕ) → fed G S s (a ++ b) ≡ fed G S (fed G S s a) b
  fed_append s [] b = refl
  fed_append s (v ∷ a) b = fed_append (step G S s v) a b

  -- a run in pieces gives the state and the bits of the whole
  pub in_pieces : (s : State G.State) (a b : List ℕ)
      → (after (rule G S) s (a ++ b) ≡ after (rule G S) (after (rule G S) s a) b)
      × (outs (rule G S) s (a ++ b) ≡ outs (rule G S) s a ++ outs (rule G S) (after (rule G S) s a) b)
  in_pieces s a b = (after_append (rule G S) s a b, outs_append (rule G S) s a b)

module _ (G : Generator) (S : Settings) where
  -- the direction plays no part in what line bits do
  pub fed_toward : (d : Bool) (s : State G.State) (vs : List ℕ) → fed G (toward d S) s vs ≡ fed G S s vs
  unfolding step
  fed_toward d s [] = refl
  fed_toward d s (v ∷ vs) = fed_toward d (step G S s v) vs

  -- two lines in one state, each sending or receiving, whose line bits are the same stay in one state
  pub same_lines : (d e : Bool) (s : State G.State) (cs bs : List ℕ) → lines G (toward d S) s cs ≡ lines G (toward e S) s bs
      → after (rule G (toward d S)) s cs ≡ after (rule G (toward e S)) s bs
  same_lines d e s cs bs p =
      lines_alone G (toward d S) s cs ∙ fed_toward d s (lines G (toward d S) s cs) ∙ ap (fed G S s) p
      ∙ sym (fed_toward e s (lines G (toward e S) s bs)) ∙ sym (lines_alone G (toward e S) s bs)

  -- a sender's line bits are what comes out of it, a receiver's what goes in
  pub sent_lines : (s : State G.State) (bs : List ℕ) → lines G (toward true S) s bs ≡ outs (sends G S) s bs
  sent_lines s [] = refl
  sent_lines s (b ∷ r) = ap (λ (l : List ℕ). out G S s b ∷ l) (sent_lines ((sends G S).next s b) r)

  pub received_lines : (s : State G.State) (bs : List ℕ) → lines G (toward false S) s bs ≡ bs
  received_lines s [] = refl
  received_lines s (b ∷ r) = ap (λ (l : List ℕ). b ∷ l) (received_lines ((receives G S).next s b) r)

  -- ---- a receiver turns back what a sender made, and both stand in one state

  twice : (b k : ℕ) → b < 2 → ((b + k) % 2 + k) % 2 ≡ b
  twice b k h = omega arith

  pub turns_back : (s : State G.State) (bs : List ℕ) → Bits bs → outs (receives G S) s (outs (sends G S) s bs) ≡ bs
  unfolding step
  turns_back s [] h = refl
  turns_back s (b ∷ r) h = λ i. twice b (G.bit s.generator) h.0 i ∷ turns_back (step G S s (out G S s b)) r h.1 i

  pub same_state : (s : State G.State) (bs : List ℕ) → after (receives G S) s (outs (sends G S) s bs) ≡ after (sends G S) s bs
  same_state s bs =
      same_lines false true s (outs (sends G S) s bs) bs (received_lines s (outs (sends G S) s bs) ∙ sym (sent_lines s bs))
