-- The pieces keep `Along`, with the block made at the start.
use Rattle.std.proofs.Common.{◌≡◌, ℕ, List, ◌+◌, ◌-◌, min, ap, ◌∙◌, arith}
use Rattle.mode.specs.Rule.{after, outs}
use Rattle.bits.specs.Bits.{part, laid}
use Rattle.line.specs.declared.record.Line.{Line}
use Rattle.line.specs.View.{rule_of, view, holding}
use Rattle.line.specs.Inner.{Ran, Whole}
use Rattle.line.specs.declared.going.Going.{Going}
use Rattle.line.proofs.Running.{start, ahead, stop, room_on, room_less}
use Rattle.line.proofs.run.whole.Goals as goal

pub loop-at-init : goal.loop-at-init
loop-at-init c = start _ _ 0 c.args.n _ c.args.n (omega arith) c.requires.room

pub piece-going-requires : goal.piece-going-requires
piece-going-requires c = let l = c.loop-at in record {
  room = room_less _ _ l.at (c.args.n - l.at) c.min.result (omega (arith, c.min.ensures)) (room_on _ _ _ _ _ _ _ _ _ l.invariant);
}

pub loop-at-preserved : goal.loop-at-preserved
loop-at-preserved c =
    let k : c.min.result ≡ min (c.args.n - c.loop-at.at) 4096 = c.min.ensures in
    ahead _ _ _ _ _ _ _ _ _ c.loop-at.invariant c.min.result (c.loop-at.at + 4096) _ _ (omega (arith, k)) (omega arith) c.piece-going.ensures

-- the run of the line that was taken into it
lines : (s d : List ℕ) (n : ℕ) (t : Line) (g r : Going) (e : List ℕ) → g.line ≡ t → Ran s d 0 n g r e → Whole s d n t r.line e
lines s d n t g r e is a = record {
  line = a.line ∙ ap (λ (u : Line). holding u (after (rule_of u) (view u) (part s 0 n))) is;
  out = a.out ∙ ap (λ (u : Line). laid d 0 (outs (rule_of u) (view u) (part s 0 n))) is;
}

pub returns-2 : goal.returns-2
returns-2 c =
    let last : c.args.n ≡ c.loop-at.at + c.min.result = omega (arith, c.min.ensures, c.loop-at-test.true) in
    lines _ _ _ _ _ _ _ c.new-going.ensures
    (stop _ _ _ _ _ _ _ _ _ (ahead _ _ _ _ _ _ _ _ _ c.loop-at.invariant c.min.result c.args.n _ _ last (omega arith) c.piece-going.ensures) (omega arith))
