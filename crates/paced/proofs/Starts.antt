-- The line that an opening gives: the line's own opening, and then D, decide.
use Rattle.std.proofs.Common.{◌≡◌, ◌<◌, Bool, false, List, ℕ, Ok, sym, ap, ◌∙◌}
use Rattle.bits.proofs.Packed.{pack_none}
use Rattle.pace.specs.Tick.{hold}
use Rattle.refusal.proofs.Answers.{given_done}
use Rattle.line.specs.declared.record.Line.{Line}
use Rattle.line.specs.Free.{open_answer, fresh, opened as line_opened}
use Rattle.line.specs.Good.{Good}
use Rattle.line.proofs.Passing.{opened_of, good_fresh}
use Rattle.line.proofs.Records.{holds}
use Rattle.paced.specs.declared.record.Paced.{Paced}
use Rattle.paced.specs.Tests.{too_fast}
use Rattle.paced.specs.Opening.{paced_answer, empty, fresh_paced, opened}

-- a line that holds nothing but M fillers holds what it opens with
fresh_is : (s : Line) (d n : ℕ) → Good s → n ≡ hold d → empty s d n ≡ fresh_paced s d
fresh_is s d n g e = λ i. record {
  line = sym (holds s g) i;
  d = d;
  closed = false;
  ready = 0;
  waiting = 0;
  fillers = e i;
  queue = sym (pack_none 60) i;
}

pub opens : (key iv : List ℕ) (pattern l : ℕ) (receiving : Bool) (d : ℕ) (s : Line) (n : ℕ) (p : Paced) → line_opened key iv pattern l receiving ≡ Ok s → too_fast d l ≡ false
    → pattern < 256 → n ≡ hold d → p ≡ empty s d n → Ok p ≡ opened key iv pattern l receiving d
unfolding paced_answer
opens key iv pattern l receiving d s n p e slow byte held is =
    let k = given_done (open_answer key iv l) (fresh key iv pattern l receiving) s e in
    let low = opened_of key iv l k.0 in
    rw (k.0, slow)
    (ap Ok (is ∙ ap (λ (t : Line). empty t d n) (sym k.1) ∙ fresh_is (fresh key iv pattern l receiving) d n (good_fresh key iv pattern l receiving byte low.0 low.1) held))
