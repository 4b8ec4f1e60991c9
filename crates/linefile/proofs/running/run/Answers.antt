-- A file that is not refused gives its line what it needs, free or paced.
use Rattle.std.proofs.Common.{sym, ◌∙◌, arith}
use Rattle.linefile.proofs.Results.{free_needs, paced_needs}
use Rattle.linefile.proofs.running.run.Goals as goal

pub run_free-requires : goal.run_free-requires
run_free-requires c = free_needs _ _ (sym c.read.ensures ∙ c.in_ok-contents.was) _ (omega (arith, c.div_ceil.ensures, c.if-div_ceil-output.false))

pub run_paced-requires : goal.run_paced-requires
run_paced-requires c = paced_needs _ _ (sym c.read.ensures ∙ c.in_ok-contents.was) _ (omega (arith, c.div_ceil.ensures, c.if-div_ceil-output.false)) c.if-contents-eq0.false
