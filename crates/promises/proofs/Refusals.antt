-- Demand 1: a call is refused exactly when 01's table says, with the number of the first test that holds; and a refused call keeps what it was given.
use Rattle.std.specs.Prelude.{Ok, Err}
use mathlib.Core.Path.{◌≡◌, refl, ap, ◌∙◌}
use mathlib.Core.Logic.{◌↔◌}
use mathlib.Core.Bool.{Bool, true, false, not, cond, ◌||◌}
use mathlib.Core.List.{List, [], ◌∷◌, ◌++◌}
use Prim.Native.Nat.{ℕ, ◌+◌, ◌/◌}
use lib.Dec.{eqb, ltb}
use lib.ListN.{length, take, drop}
use Rattle.refusal.specs.declared.Refusal.{Refusal}
use Rattle.refusal.specs.Numbers.{Answer, number_of, outcome}
use Rattle.refusal.proofs.Answers.{refused_not_done}
use Rattle.aes.specs.Cipher.{aes128}
use Rattle.aes.specs.Block.{answer as block_answer, after as block_after}
use Rattle.line.specs.declared.record.Line.{Line}
use Rattle.line.specs.Tests.{faulty}
use Rattle.mode.specs.Rule.{after, outs}
use Rattle.bits.specs.Bits.{part, laid}
use Rattle.line.specs.View.{rule_of, view, holding}
use Rattle.line.specs.Free.{open_answer, fresh, zero_line, opening, run_answer, running, written}
use Rattle.promises.specs.Calls.{Test, tried}

-- ---- the first test that holds decides

-- none of some tests holds
abbrev pub None : List Test → Type 0
None [] = Unit {0}
None (t ∷ ts) = (t.holds ≡ false) × None ts

done_or : (t : Test) (ts : List Test) → tried (t ∷ ts) ≡ Ok tt → (t.holds ≡ false) × (tried ts ≡ Ok tt)
done_or t ts e = go t.holds refl e
  where
    go : (h : Bool) → t.holds ≡ h → cond h (Err t.refusal) (tried ts) ≡ Ok tt → (t.holds ≡ false) × (tried ts ≡ Ok tt)
    go true p q = absurd (refused_not_done t.refusal tt q)
    go false p q = (p, q)

-- a call is done exactly when no test holds
pub done_exactly : (ts : List Test) → (tried ts ≡ Ok tt) ↔ None ts
done_exactly [] = (λ _. tt, λ _. refl)
done_exactly (t ∷ ts) = (
  λ e. let q = done_or t ts e in (q.0, (done_exactly ts).0 q.1),
  λ n. ap (λ (h : Bool). cond h (Err t.refusal) (tried ts)) n.0 ∙ (done_exactly ts).1 n.1,
)

-- where the tests before it do not hold, a test that holds gives its refusal
pub refused_when : (before : List Test) (t : Test) (ts : List Test) → None before → t.holds ≡ true → tried (before ++ (t ∷ ts)) ≡ Err t.refusal
refused_when [] t ts n h = ap (λ (b : Bool). cond b (Err t.refusal) (tried ts)) h
refused_when (b ∷ bs) t ts n h = ap (λ (x : Bool). cond x (Err b.refusal) (tried (bs ++ (t ∷ ts)))) n.0 ∙ refused_when bs t ts n.1 h

-- ---- the free line's calls try 01's tests in 01's order

abbrev pub open_tests : List ℕ → List ℕ → ℕ → List Test
open_tests key iv l =
    record { holds = not (eqb (length key) 16); refusal = Refusal.Key }
    ∷ record { holds = not (eqb (length iv) 16); refusal = Refusal.Iv }
    ∷ record { holds = ltb l 1 || ltb 11 l; refusal = Refusal.Blackout } ∷ []

either : (b : Bool) (x y : Answer) → cond b x y ≡ cond (not b) y x
either true x y = refl
either false x y = refl

pub open_tries : (key iv : List ℕ) (l : ℕ) → open_answer key iv l ≡ tried (open_tests key iv l)
unfolding open_answer
open_tries key iv l =
    either (eqb (length key) 16) _ _
    ∙ ap (cond (not (eqb (length key) 16)) (Err (Refusal.Key))) (either (eqb (length iv) 16) _ _)

abbrev pub run_tests : Line → ℕ → List ℕ → List ℕ → List Test
run_tests g n input output =
    record { holds = faulty g; refusal = Refusal.State }
    ∷ record { holds = ltb 524288 n; refusal = Refusal.Bits }
    ∷ record { holds = ltb (length input) ((n + 7) / 8); refusal = Refusal.Input }
    ∷ record { holds = ltb (length output) ((n + 7) / 8); refusal = Refusal.Output } ∷ []

pub run_tries : (g : Line) (n : ℕ) (input output : List ℕ) → run_answer g n input output ≡ tried (run_tests g n input output)
unfolding run_answer
run_tries g n input output = refl

-- ---- AES of one block on slices

abbrev pub block_tests : List ℕ → List ℕ → List ℕ → List Test
block_tests key input output =
    record { holds = not (eqb (length key) 16); refusal = Refusal.Key }
    ∷ record { holds = ltb (length input) 16; refusal = Refusal.Input }
    ∷ record { holds = ltb (length output) 16; refusal = Refusal.Output } ∷ []

pub block_tries : (key input output : List ℕ) → block_answer key input output ≡ tried (block_tests key input output)
block_tries key input output = either (eqb (length key) 16) _ _

-- ---- what a refusal leaves

pub refused_block_keeps : (key input output : List ℕ) (r : Refusal) → block_answer key input output ≡ Err r → block_after key input output ≡ output
refused_block_keeps key input output r e = ap (λ (a : Answer). outcome a (aes128 key (take 16 input) ++ drop 16 output) output) e

-- the line's record as it came, and no buffer touched
pub refused_run_keeps : (g : Line) (n : ℕ) (input output : List ℕ) (r : Refusal) → run_answer g n input output ≡ Err r
    → ((running g n input output).line ≡ g) × (written g n input output ≡ output)
refused_run_keeps g n input output r e = (
  ap (λ (a : Answer). outcome a (holding g (after (rule_of g) (view g) (part input 0 n))) g) e,
  ap (λ (a : Answer). outcome a (laid output 0 (outs (rule_of g) (view g) (part input 0 n))) output) e,
)

pub refused_opening_is_zeros : (key iv : List ℕ) (pattern l : ℕ) (receiving : Bool) (r : Refusal) → open_answer key iv l ≡ Err r → (opening key iv pattern l receiving).line ≡ zero_line
refused_opening_is_zeros key iv pattern l receiving r e = ap (λ (a : Answer). outcome a (fresh key iv pattern l receiving) zero_line) e

-- a record of zeros is refused 9 by every run
pub zeros_refused : (n : ℕ) (input output : List ℕ) → number_of (run_answer zero_line n input output) ≡ 9
unfolding run_answer faulty
zeros_refused n input output = refl
