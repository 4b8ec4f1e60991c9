-- A generator in blocks: within a block the stream is the cipher's block from the place on, and the whole stream is the blocks of the successive
-- counters one after the other.
use mathlib.Core.Path.{◌≡◌, refl, sym, ap, ◌∙◌}
use mathlib.Core.List.{List, ◌∷◌, ◌++◌, append-nil}
use Prim.Native.Nat.{ℕ, zero, suc, ◌+◌, ◌*◌, ◌<◌, ◌≤◌}
use native.Mathlib.Decide.{dec_lt}
use native.Mathlib.Omega.{arith}
use lib.Dec.{ltb}
use lib.ListN.{length, take, drop, get_or, length-append, get_or-append}
use lib.Seq.{drop-cons, drop_at}
use borrow.Author.Tests.{lt-ltb, le-ltb, ltb-true}
use Rattle.mode.specs.Mode.{Generator, Settings, State, rule}
use Rattle.mode.specs.Rule.{outs}
use Rattle.mode.specs.Blocks.{Position, onward, blocks, keystream}
use Rattle.mode.specs.Words.{stream, nexts, plus, Unset}
use Rattle.mode.proofs.Cases.{picked}
use Rattle.mode.proofs.Words.{in_between}

module _ {X : Type 0} (size : ℕ) (encipher : X → List ℕ) (step : X → X) (load : List ℕ → X) where
  abbrev G : Generator
  G = blocks size encipher step load

  abbrev at : X → ℕ → Position X
  at c p = record { counter = c; place = p }

  pub onward_within : (c : X) (p : ℕ) → suc p < size → onward size encipher step (at c p) ≡ at c (suc p)
  onward_within c p h = rw (lt-ltb (suc p) size h)

  pub onward_over : (c : X) (p : ℕ) → size ≤ suc p → onward size encipher step (at c p) ≡ at (step c) 0
  onward_over c p h = rw (le-ltb (suc p) size h)

  pub onward_place : 0 < size → (p : Position X) → (onward size encipher step p).place < size
  onward_place some p =
      picked (λ (q : Position X). q.place < size) (ltb (suc p.place) size) _ _ (λ e. ltb-true (suc p.place) size e) (λ e. some)

  -- so many bits on, within the block
  pub nexts_within : (n : ℕ) (c : X) (p : ℕ) → p + n < size → nexts G (at c p) n ≡ at c (p + n)
  nexts_within zero c p h = let e : p ≡ p + 0 = omega arith in ap (at c) e
  nexts_within (suc n) c p h =
      let e : suc p + n ≡ p + suc n = omega arith in
      ap (λ (q : Position X). nexts G q n) (onward_within c p (omega arith)) ∙ nexts_within n c (suc p) (omega arith) ∙ ap (at c) e

  -- to the end of the block
  pub nexts_over : (n : ℕ) (c : X) (p : ℕ) → 0 < n → p + n ≡ size → nexts G (at c p) n ≡ at (step c) 0
  nexts_over zero c p h e = absurd (omega arith)
  nexts_over (suc zero) c p h e = onward_over c p (omega arith)
  nexts_over (suc (suc n)) c p h e =
      ap (λ (q : Position X). nexts G q (suc n)) (onward_within c p (omega arith)) ∙ nexts_over (suc n) c (suc p) (omega arith) (omega arith)

  module _ (full : (c : X) → length (encipher c) ≡ size) where
    -- the stream from a place on is the keystream of the counters from there on
    pub stream_is : (n : ℕ) (m : ℕ) (c : X) (p : ℕ) → p < size → p + n ≤ size * m → stream G (at c p) n ≡ take n (drop p (keystream size encipher step c m))
    stream_is zero m c p h k = refl
    stream_is (suc n) zero c p h k = absurd (omega arith)
    stream_is (suc n) (suc m) c p h k =
        let E : List ℕ = encipher c in
        let K : List ℕ = keystream size encipher step (step c) m in
        let lt : p < length E = rw (full c) h in
        let long : p < length (E ++ K) = rw (length-append E K) (omega arith) in
        let here : get_or E p 0 ≡ get_or (E ++ K) p 0 = sym (get_or-append E K 0 p lt) in
        let rest : stream G (onward size encipher step (at c p)) n ≡ take n (drop (suc p) (E ++ K)) =
        elim (dec_lt (suc p) size) [
          | yes within ↦ ap (λ (q : Position X). stream G q n) (onward_within c p within) ∙ stream_is n (suc m) c (suc p) within (omega arith)
          | no over ↦
              let e : length E ≡ suc p = full c ∙ (let q : size ≡ suc p = omega arith in q) in
              ap (λ (q : Position X). stream G q n) (onward_over c p (omega arith))
              ∙ stream_is n m (step c) 0 (omega arith) (omega arith)
              ∙ ap (take n) (sym (drop_at E K (suc p) e))
        ] in
        (λ i. here i ∷ rest i) ∙ ap (take (suc n)) (sym (drop-cons (E ++ K) p 0 long))

    -- within one block
    pub stream_within : (n : ℕ) (c : X) (p : ℕ) → p < size → p + n ≤ size → stream G (at c p) n ≡ take n (drop p (encipher c))
    stream_within n c p h k =
        stream_is n 1 c p h (omega arith) ∙ ap (λ (l : List ℕ). take n (drop p l)) (append-nil (encipher c))

    -- the published mode: between two moments at which the counter is set, the output is the input plus, bit by bit, the blocks that the cipher makes of
    -- the successive counters; n bits from place p of the block of counter c on
    pub blocks_in_between : (S : Settings) (s : State (Position X)) (bs : List ℕ) (m : ℕ) → s.generator.place < size → s.generator.place + length bs ≤ size * m
        → Unset G S s bs
        → outs (rule G S) s bs ≡ plus bs (take (length bs) (drop s.generator.place (keystream size encipher step s.generator.counter m)))
    blocks_in_between S s bs m h k u =
        in_between G S s bs u ∙ ap (plus bs) (stream_is (length bs) m s.generator.counter s.generator.place h k)
