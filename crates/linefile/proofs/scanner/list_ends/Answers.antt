-- The loop keeps `Listing`.
use Rattle.std.proofs.Common.{◌∙◌}
use Rattle.linefile.proofs.Listing.{listing, turn_found, turn_none, listed}
use Rattle.linefile.proofs.scanner.list_ends.Goals as goal
use Rattle.linefile.proofs.scanner.list_ends.Goals.{then-t, else-t}

pub loop-i-init : goal.loop-i-init
loop-i-init c = let a = c.args in listing a.s.now a.from a.n a.pattern a.l a.d.now _ c.new-scanner.ensures.0 c.new-scanner.ensures.1 c.new-scanner.ensures.2

pub loop-i-preserved : goal.loop-i-preserved
loop-i-preserved c =
    let l = c.loop-i in
    elim c.if-t.branch [
      | then-t w ↦ turn_found _ _ _ _ _ _ c.requires.0 _ _ _ _ l.invariant _ c.loop-i-test.true c.get.ensures _ c.look-t.ensures _ _ w.if-t.true (w.d-is ∙ w.put.ensures) w.count-is
      | else-t w ↦ turn_none _ _ _ _ _ _ c.requires.0 _ _ _ _ l.invariant _ c.loop-i-test.true c.get.ensures _ c.look-t.ensures _ _ w.if-t.false w.d-is w.count-is
    ]

pub returns : goal.returns
returns c =
    let l = c.loop-i in
    let all = listed _ _ _ _ _ _ c.requires.0 _ l.scanner _ l.i l.invariant c.loop-i-test.false in
    record { value = all.0; d_after = all.1 }
