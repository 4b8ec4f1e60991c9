-- The tick is not refused, and what it wrote goes after what stands in the output.
use Rattle.std.proofs.Common.{refl, sym, ◌∙◌}
use Rattle.refusal.proofs.Answers.{refused_not_done}
use Rattle.linefile.proofs.Ticking.{tick_done, ticked_is, tick_room, tick_appends}
use Rattle.linefile.proofs.running.Going.tick.Goals as goal

pub returns-in_err-n : goal.returns-in_err-n
returns-in_err-n c =
    absurd (refused_not_done _ _ (sym c.in_err-n.was ∙ c.tick.ensures.value ∙ tick_done _ _ _ _ _ c.requires _ _ c.read-input.ensures refl))

pub append-requires : goal.append-requires
append-requires c =
    tick_room _ _ _ _ _ c.requires _ _ c.read-input.ensures refl _ (sym c.tick.ensures.value ∙ c.in_ok-n.was) _ c.tick.ensures.output_after

pub returns : goal.returns
returns c =
    let done = sym c.tick.ensures.value ∙ c.in_ok-n.was in record {
      value = refl;
      going_after = ticked_is _ _ _ _ _ c.requires _ _ c.read-input.ensures refl _ done _ c.tick.ensures.line_after;
      output_after = tick_appends _ _ _ _ _ c.requires _ _ c.read-input.ensures refl _ done _ c.tick.ensures.output_after _ c.append.ensures;
    }
