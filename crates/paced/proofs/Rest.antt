-- Closing: the ready bits laid in the output, and the waiting bits, passed, laid after them, are laid as one.
use mathlib.Core.Path.{◌≡◌, sym, ap, ◌∙◌}
use mathlib.Core.Bool.{true}
use mathlib.Core.List.{List, [], ◌++◌, append-nil}
use Prim.Native.Nat.{ℕ, ◌+◌, ◌*◌, ◌≤◌}
use native.Mathlib.Omega.{arith}
use lib.ListN.{length, replicate, length-append}
use Rattle.mode.specs.Rule.{Rule, after, outs}
use Rattle.mode.proofs.Runs.{length_outs}
use Rattle.bits.specs.Bits.{part, laid}
use Rattle.bits.proofs.Packed.{pack_none}
use Rattle.bits.proofs.Parts.{small_part, length_part}
use Rattle.bits.proofs.Laid.{laid_laid}
use Rattle.line.specs.declared.record.Line.{Line}
use Rattle.line.specs.View.{rule_of, view, holding}
use Rattle.paced.specs.declared.record.Paced.{Paced}
use Rattle.paced.specs.Answers.{counted}
use Rattle.paced.specs.Closing.{last_from}
use Rattle.paced.specs.Inner.{Open, PassedOn, closed_to}
use Rattle.paced.proofs.Records.{length_queue, counts_in}
use Rattle.paced.proofs.Moves.{ready_bits, waiting_bits, length_ready_bits, length_waiting_bits}

-- laid after the first n bits of a queue
laid_on : (q o e b : List ℕ) (n : ℕ) → n ≤ 8 * length q → e ≡ laid o 0 (part q 0 n) → laid e n b ≡ laid o 0 (part q 0 n ++ b)
laid_on q o e b n fits h =
    let l : length (part q 0 n) ≡ n = length_part q 0 n (omega arith) in
    let z : n ≡ 0 + length (part q 0 n) = omega arith in
    (λ i. laid (h i) (z i) b) ∙ laid_laid o 0 (part q 0 n) b (small_part q 0 n) (omega arith)

pub clean : (q o e : List ℕ) (n : ℕ) → n ≤ 8 * length q → e ≡ laid o 0 (part q 0 n) → laid e n [] ≡ e
clean q o e n fits h = laid_on q o e [] n fits h ∙ ap (laid o 0) (append-nil (part q 0 n)) ∙ sym h

module _ (p : Paced) (o : Open p) where
  abbrev R : Rule ℕ ℕ
  R = rule_of p.line

  length_last : p.ready + p.waiting ≡ length (last_from p)
  length_last =
      sym (length-append (ready_bits p o) (outs R (view p.line) (waiting_bits p o))
      ∙ (λ i. length_ready_bits p o i + (length_outs R (view p.line) (waiting_bits p o) ∙ length_waiting_bits p o) i))

  pub close_is : (d d₁ d₂ : List ℕ) (t : Line) (rd wt : ℕ) → rd ≡ p.ready → wt ≡ p.waiting → d₁ ≡ laid d 0 (part p.queue 0 rd) → PassedOn p.line p.queue rd wt d₁ t d₂
      → (record {
        answer = counted (rd + wt) 0;
        line = record { line = t; d = p.d; closed = true; ready = 0; waiting = 0; fillers = 0; queue = replicate 60 0 };
      }
      ≡ closed_to p) × (d₂ ≡ laid d 0 (last_from p))
  close_is d d₁ d₂ t rd wt er ew first rest =
      let passed : t ≡ holding p.line (after R (view p.line) (waiting_bits p o)) =
      rest.line ∙ (λ i. holding p.line (after R (view p.line) (part p.queue (er i) (ew i)))) in
      let whole : rd + wt ≡ length (last_from p) = (λ i. er i + ew i) ∙ length_last in (
        λ i. record {
          answer = counted (whole i) 0;
          line = record { line = passed i; d = p.d; closed = true; ready = 0; waiting = 0; fillers = 0; queue = sym (pack_none 60) i };
        },
        rest.out
            ∙ laid_on p.queue d d₁ (outs R (view p.line) (part p.queue rd wt)) rd (omega (arith, er, length_queue p o, counts_in p o)) first
            ∙ (λ i. laid d 0 (part p.queue 0 (er i) ++ outs R (view p.line) (part p.queue (er i) (ew i)))),
      )
