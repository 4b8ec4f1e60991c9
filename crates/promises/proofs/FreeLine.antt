-- Demand 2 for the free line, in one call or many: what comes out is the mode with FIPS 197's AES-128 over the counter; an end opened the same but for
-- direction turns it back; and no record reached from an opening meets a test for 9.
use Rattle.std.specs.Prelude.{Ok, Err}
use mathlib.Core.Path.{◌≡◌, refl, sym, ap, subst, ◌∙◌}
use mathlib.Core.Bool.{Bool, true, false}
use mathlib.Core.List.{List, [], ◌∷◌, ◌++◌}
use Prim.Native.Nat.{ℕ, ◌+◌, ◌*◌, ◌/◌, ◌<◌, ◌≤◌}
use native.Mathlib.Omega.{arith}
use lib.ListN.{length, take, drop}
use borrow.Author.Tests.{ltb-false}
use Rattle.refusal.specs.Numbers.{Answer, outcome}
use Rattle.aes.specs.Cipher.{aes128}
use Rattle.aes.proofs.Schedule.{aes_length}
use Rattle.bits.specs.Bits.{bits_of, pack, part, laid}
use Rattle.bits.proofs.Packed.{length_bits}
use Rattle.bits.proofs.Parts.{small_part, length_part}
use Rattle.bits.proofs.Laid.{part_laid}
use Rattle.counter.specs.Counter.{stepped_bytes}
use Rattle.mode.specs.Rule.{after, outs}
use Rattle.mode.specs.Mode.{State, Bits}
use Rattle.mode.specs.Blocks.{Position, keystream}
use Rattle.mode.specs.Words.{plus, Unset}
use Rattle.mode.proofs.Runs.{after_append, outs_append, length_outs}
use Rattle.mode.proofs.Steps.{turns_back}
use Rattle.mode.proofs.Blocks.{blocks_in_between}
use Rattle.line.specs.declared.record.Line.{Line}
use Rattle.line.specs.View.{box, aes, settings, rule_of, view, holding}
use Rattle.line.specs.Tests.{faulty}
use Rattle.line.specs.Free.{fresh, zero_line, opening, run_answer, running, written}
use Rattle.line.specs.Good.{Good}
use Rattle.line.proofs.Records.{bits_from_small, view_ran, good_ran, passes, holds}
use Rattle.line.proofs.Passing.{opens, good_fresh}
use Rattle.line.proofs.Running.{small_outs}
use Rattle.promises.specs.Calls.{Call, line, AllDone, given, out}
use Rattle.promises.proofs.Refusals.{run_tests, run_tries, done_exactly}

-- ---- a run that is not refused

module _ (g : Line) (n : ℕ) (input output : List ℕ) (done : run_answer g n input output ≡ Ok tt) where
  pub ran_line : (running g n input output).line ≡ holding g (after (rule_of g) (view g) (part input 0 n))
  ran_line = ap (λ (a : Answer). outcome a (holding g (after (rule_of g) (view g) (part input 0 n))) g) done

  pub ran_out : part (written g n input output) 0 n ≡ outs (rule_of g) (view g) (part input 0 n)
  ran_out =
      let none = (done_exactly (run_tests g n input output)).0 (sym (run_tries g n input output) ∙ done) in
      let fit : length (part input 0 n) ≡ n = length_part input 0 n (omega (arith, ltb-false (length input) ((n + 7) / 8) none.1.1.0)) in
      let made : List ℕ = outs (rule_of g) (view g) (part input 0 n) in
      let many : length made ≡ n = length_outs (rule_of g) (view g) (part input 0 n) ∙ fit in
      ap (λ (a : Answer). part (outcome a (laid output 0 made) output) 0 n) done
      ∙ ap (part (laid output 0 made) 0) (sym many)
      ∙ part_laid output 0 made (small_outs (aes (box g)) (settings g) (view g) (part input 0 n)) (omega arith)

-- ---- many calls are one stream

module _ where
  pub many_calls : (cs : List Call) (g : Line) → Good g → AllDone g cs
      → (line g cs ≡ holding g (after (rule_of g) (view g) (given cs))) × (out g cs ≡ outs (rule_of g) (view g) (given cs))
  many_calls [] g ok done = (sym (holds g ok), refl)
  many_calls (c ∷ cs) g ok done =
      let p : List ℕ = part c.input 0 c.bits in
      let t : State (Position (List ℕ)) = after (rule_of g) (view g) p in
      let bits : Bits p = bits_from_small p (small_part c.input 0 c.bits) in
      let h : (running g c.bits c.input c.output).line ≡ holding g t = ran_line g c.bits c.input c.output done.0 in
      let seen : view (holding g t) ≡ t = view_ran g ok p bits in
      let rest = many_calls cs (running g c.bits c.input c.output).line (subst Good (sym h) (good_ran g ok p bits)) done.1 in (
        rest.0
            ∙ ap (λ (u : Line). holding u (after (rule_of u) (view u) (given cs))) h
            ∙ ap (λ (u : State (Position (List ℕ))). holding g (after (rule_of g) u (given cs))) seen
            ∙ ap (holding g) (sym (after_append (rule_of g) (view g) p (given cs))),
        (λ i. ran_out g c.bits c.input c.output done.0 i
            ++ (rest.1 ∙ ap (λ (u : Line). outs (rule_of u) (view u) (given cs)) h ∙ ap (λ (u : State (Position (List ℕ))). outs (rule_of g) u (given cs)) seen) i)
            ∙ sym (outs_append (rule_of g) (view g) p (given cs)),
      )

-- ---- any calls, refused or not

kept_good : (a : Answer) (g h : Line) → Good g → Good h → Good (outcome a g h)
kept_good (Ok tt) g h ok ok' = ok
kept_good (Err r) g h ok ok' = ok'

all_good : (cs : List Call) (g : Line) → Good g → Good (line g cs)
all_good [] g ok = ok
all_good (c ∷ cs) g ok =
    let p : List ℕ = part c.input 0 c.bits in
    all_good cs (running g c.bits c.input c.output).line
    (kept_good (run_answer g c.bits c.input c.output) (holding g (after (rule_of g) (view g) p)) g (good_ran g ok p (bits_from_small p (small_part c.input 0 c.bits))) ok)

-- ---- from an opening

module _ (key iv : List ℕ) (pattern l : ℕ) (low : 1 ≤ l) (high : l ≤ 11) (byte : pattern < 256) where
  fresh_is_good : (receiving : Bool) → Good (fresh key iv pattern l receiving)
  fresh_is_good receiving = good_fresh key iv pattern l receiving byte low high

  -- an opening that no test refuses gives the line that all this is about
  pub opened_is : length key ≡ 16 → length iv ≡ 16 → (receiving : Bool)
      → opening key iv pattern l receiving ≡ record { answer = Ok tt; line = fresh key iv pattern l receiving }
  opened_is hk hv receiving = ap (λ (a : Answer). record { answer = a; line = outcome a (fresh key iv pattern l receiving) zero_line }) (opens key iv l hk hv low high)

  -- no record reached from an opening by runs, refused ones among them, meets a test for 9
  pub reached_passes : (receiving : Bool) (cs : List Call) → faulty (line (fresh key iv pattern l receiving) cs) ≡ false
  reached_passes receiving cs =
      passes (line (fresh key iv pattern l receiving) cs) (all_good cs (fresh key iv pattern l receiving) (fresh_is_good receiving))

  -- what one end enciphers from its opening, the other, opened the same but for direction and given every bit, turns back into the original
  pub turned_back : (bs : List ℕ) → Bits bs
      → outs (rule_of (fresh key iv pattern l true)) (view (fresh key iv pattern l true)) (outs (rule_of (fresh key iv pattern l false)) (view (fresh key iv pattern l false)) bs) ≡ bs
  turned_back bs b = turns_back (aes (box (fresh key iv pattern l false))) (settings (fresh key iv pattern l false)) (view (fresh key iv pattern l false)) bs b

  -- the same for the calls themselves, however many at each end
  pub ends_agree : (cs ds : List Call) → AllDone (fresh key iv pattern l false) cs → AllDone (fresh key iv pattern l true) ds
      → given ds ≡ out (fresh key iv pattern l false) cs → Bits (given cs) → out (fresh key iv pattern l true) ds ≡ given cs
  ends_agree cs ds done done' every b =
      (many_calls ds (fresh key iv pattern l true) (fresh_is_good true) done').1
      ∙ ap (outs (rule_of (fresh key iv pattern l true)) (view (fresh key iv pattern l true))) (every ∙ (many_calls cs (fresh key iv pattern l false) (fresh_is_good false) done).1)
      ∙ turned_back (given cs) b

-- the published mode over AES-128: while the counter is not set, the output is the input plus, bit by bit, the blocks AES makes of the successive counters
pub aes_in_between : (g : Line) → g.position.place < 128 → (bs : List ℕ) (m : ℕ) → g.position.place + length bs ≤ 128 * m → Unset (aes (box g)) (settings g) (view g) bs
    → outs (rule_of g) (view g) bs ≡ plus bs (take (length bs) (drop g.position.place (keystream 128 (λ c. bits_of (aes128 g.key c)) stepped_bytes g.position.counter m)))
aes_in_between g place bs m few unset =
    blocks_in_between 128 (λ c. bits_of (aes128 g.key c)) stepped_bytes (pack 16) (λ c. length_bits (aes128 g.key c) ∙ ap (λ (k : ℕ). 8 * k) (aes_length g.key c))
    (settings g) (view g) bs m place few unset
