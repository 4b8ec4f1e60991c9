-- The queue's steps, one after the other, are those of `tick_is`.
use Rattle.std.proofs.Common.{◌-◌, refl, sym, ap, ◌∙◌}
use Rattle.bits.specs.Bits.{part, laid}
use Rattle.paced.proofs.Moves.{leaving_bits, tick_is}
use Rattle.paced.proofs.record.Paced.ticked.Goals as goal

pub returns : goal.returns
returns c =
    let p = c.args.self in
    let o = c.requires.opened in
    let leaving = c.saturating_sub-leaving in record {
      value = tick_is p o c.args.input.now c.requires.room.0 leaving.result (p.ready - leaving.result) leaving.ensures refl c.joined-q.result c.joined-q.ensures c.passing-m.result c.passing-m.ensures _ _ _
          refl refl c.saturating_sub.ensures;
      output_after = c.copy.ensures ∙ ap (laid c.args.output.now 0) (ap (part p.queue 0) leaving.ensures ∙ sym (leaving_bits p o));
    }
