-- A free line opened with settings that pass runs the bits of a file: neither the opening nor the run is refused.
use Rattle.std.proofs.Common.{◌≡◌, List, ℕ, ◌-◌, ◌*◌, ◌<◌, Ok, length, take, drop, length-drop, ap, ◌∙◌, arith}
use lib.Seq.{take_all}
use Rattle.mode.specs.Rule.{outs}
use Rattle.bits.specs.Bits.{part, laid}
use Rattle.bits.proofs.Parts.{part_from}
use Rattle.refusal.specs.Numbers.{Answer, outcome}
use Rattle.line.specs.Free.{opened, run_answer, written}
use Rattle.line.specs.View.{rule_of, view}
use Rattle.line.proofs.Passing.{opens, runs, good_fresh}
use Rattle.line.proofs.Records.{passes}
use Rattle.linefile.specs.declared.reader.Contents.{Contents}
use Rattle.linefile.specs.Run.{line_of}
use Rattle.linefile.specs.Paces.{Freed}

module _ (c : Contents) (s d : List ℕ) (f : Freed c (length s) (length d)) where
  -- the file from the byte on at which the bits start
  abbrev pub rest : List ℕ
  rest = take (length s - c.start) (drop c.start s)

  pub opens_free : length c.settings.key ≡ 16 → length c.settings.iv ≡ 16
      → opened c.settings.key c.settings.iv c.settings.pattern c.settings.l c.settings.receiving ≡ Ok (line_of c.settings)
  opens_free hk hv = rw (opens c.settings.key c.settings.iv c.settings.l hk hv f.l_low f.l_high)

  module _ (hp : c.settings.pattern < 256) where
    rest_is : rest ≡ drop c.start s
    rest_is = take_all (length s - c.start) (drop c.start s) (simp length-drop (omega arith))

    pub runs_free : run_answer (line_of c.settings) c.count rest d ≡ Ok tt
    runs_free =
        let good = good_fresh c.settings.key c.settings.iv c.settings.pattern c.settings.l c.settings.receiving hp f.l_low f.l_high in
        rw rest_is (runs (line_of c.settings) c.count (drop c.start s) d (passes (line_of c.settings) good) f.few (simp length-drop (omega (arith, f.there))) f.room)

    pub writes_free : written (line_of c.settings) c.count rest d
        ≡ laid d 0 (outs (rule_of (line_of c.settings)) (view (line_of c.settings)) (part s (8 * c.start) c.count))
    writes_free =
        ap (λ (a : Answer). outcome a (laid d 0 (outs (rule_of (line_of c.settings)) (view (line_of c.settings)) (part rest 0 c.count))) d) runs_free
        ∙ ap (λ (b : List ℕ). laid d 0 (outs (rule_of (line_of c.settings)) (view (line_of c.settings)) (part b 0 c.count))) rest_is
        ∙ ap (λ (b : List ℕ). laid d 0 (outs (rule_of (line_of c.settings)) (view (line_of c.settings)) b)) (part_from s c.start c.count)
