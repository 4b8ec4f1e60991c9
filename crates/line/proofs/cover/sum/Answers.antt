-- The loop sums byte after byte.
use Rattle.line.proofs.Sums.{summed_on, summed}
use Rattle.line.proofs.cover.sum.Goals as goal

pub loop-i-preserved : goal.loop-i-preserved
loop-i-preserved c = summed_on _ _ _ _ c.loop-i.invariant c.loop-i-test.true

pub returns : goal.returns
returns c = summed _ _ _ _ c.loop-i.invariant c.loop-i-test.false
