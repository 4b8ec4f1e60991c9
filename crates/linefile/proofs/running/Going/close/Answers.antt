-- Closing is not refused, and what it wrote goes after what stands in the output.
use Rattle.std.proofs.Common.{refl, sym, ◌∙◌}
use Rattle.refusal.proofs.Answers.{refused_not_done}
use Rattle.linefile.proofs.Ticking.{close_done, close_room, close_appends}
use Rattle.linefile.proofs.running.Going.close.Goals as goal

pub returns-in_err-n : goal.returns-in_err-n
returns-in_err-n c = absurd (refused_not_done _ _ (sym c.in_err-n.was ∙ c.close.ensures.value ∙ close_done _ _ c.requires _ refl))

pub append-requires : goal.append-requires
append-requires c = close_room _ _ c.requires _ refl _ (sym c.close.ensures.value ∙ c.in_ok-n.was) _ c.close.ensures.output_after

pub returns-clause-output_after : goal.returns-clause-output_after
returns-clause-output_after c = close_appends _ _ c.requires _ refl _ (sym c.close.ensures.value ∙ c.in_ok-n.was) _ c.close.ensures.output_after _ c.append.ensures
