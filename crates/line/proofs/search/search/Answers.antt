-- The loop keeps `Searching`: what is still to be scanned gives, with the bits scanned, what there is to find.
use Rattle.std.proofs.Common.{refl}
use Rattle.line.proofs.WindowBits.{moved_of, ended_of}
use Rattle.line.proofs.Scanning.{turn_moves, turn_ends, searched}
use Rattle.line.proofs.search.search.Goals as goal

pub loop-i-preserved : goal.loop-i-preserved
loop-i-preserved c =
    let l = c.loop-i in
    let w = c.in-Some.next in
    turn_moves _ _ _ _ _ l.window.bits l.window.seen l.i c.get.result l.invariant c.loop-i-test.true c.get.ensures w.bits w.seen (moved_of _ _ _ _ c.in-Some.ensures)

pub returns-in-None : goal.returns-in-None
returns-in-None c =
    let l = c.loop-i in
    turn_ends _ _ _ _ _ l.window.bits l.window.seen l.i c.get.result l.invariant c.loop-i-test.true c.get.ensures (ended_of _ _ c.in-None.ensures) _ refl refl

pub returns : goal.returns
returns c = let l = c.loop-i in searched _ _ _ _ _ l.window l.i l.invariant c.loop-i-test.false
