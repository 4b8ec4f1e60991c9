-- The loop keeps `Appended`.
use Rattle.std.proofs.Common.{arith}
use Rattle.linefile.proofs.Appended.{none_appended, more_appended}
use Rattle.linefile.proofs.running.append.Goals as goal

pub loop-i-init : goal.loop-i-init
loop-i-init c = none_appended c.args.output.now c.args.at c.args.s.now c.args.n c.requires.3

pub loop-i-preserved : goal.loop-i-preserved
loop-i-preserved c = record {
  high = omega arith;
  done = more_appended _ _ _ _ c.requires.0 c.requires.1 _ _ _ _ _ _ c.loop-i.invariant c.loop-i.auto.output c.min-m.ensures (omega (arith, c.min-m.ensures)) c.read.ensures c.write.ensures;
}

pub returns-2 : goal.returns-2
returns-2 c =
    more_appended _ _ _ _ c.requires.0 c.requires.1 _ _ _ _ _ _ c.loop-i.invariant c.loop-i.auto.output c.min-m.ensures (omega (arith, c.min-m.ensures, c.loop-i-test.true)) c.read.ensures c.write.ensures
