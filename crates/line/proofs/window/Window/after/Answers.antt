-- Fewer bits than 7 and one more are no pattern; 7 and one more are, where the numbers are equal.
use Rattle.std.proofs.Common.{arith}
use Rattle.line.proofs.WindowBits.{moved_is, ended_is, moved_few, ends_here, moved_full}
use Rattle.line.proofs.window.Window.after.Goals as goal

pub returns-then-self-lt-FULL : goal.returns-then-self-lt-FULL
returns-then-self-lt-FULL c =
    let w = c.args.self in
    moved_is _ _ _ _ (moved_few w.seen w.bits c.args.bit c.args.pattern w.small (omega (arith, c.if-self-lt-FULL.true)))

pub returns-then-x-pattern : goal.returns-then-x-pattern
returns-then-x-pattern c =
    let w = c.args.self in
    ended_is _ _ (ends_here w.seen w.bits c.args.bit c.args.pattern w.small w.few (omega (arith, c.if-self-lt-FULL.false)) c.ranges.pattern.fits c.if-x-pattern.true)

pub returns-else-x-pattern : goal.returns-else-x-pattern
returns-else-x-pattern c =
    let w = c.args.self in
    moved_is _ _ _ _ (moved_full w.seen w.bits c.args.bit c.args.pattern w.small w.few (omega (arith, c.if-self-lt-FULL.false)) c.ranges.pattern.fits c.if-x-pattern.false)
