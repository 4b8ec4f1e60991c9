-- After i bits the output has the first i bits of the queue laid in it.
use mathlib.Core.Path.{◌≡◌, sym, ap, ◌∙◌}
use Prim.Native.Nat.{◌+◌, ◌-◌, min}
use native.Mathlib.Omega.{arith}
use lib.ListN.{length}
use Rattle.bits.specs.Bits.{laid}
use Rattle.bits.proofs.Arrays.{array_length}
use Rattle.bits.proofs.Parts.{part_none}
use Rattle.bits.proofs.Laid.{laid_nothing}
use Rattle.paced.proofs.Appending.{copied}
use Rattle.paced.proofs.queue.copy.Goals as goal

pub loop-i-init : goal.loop-i-init
loop-i-init c =
    let a = c.args in
    (omega arith, sym (ap (laid a.output.now 0) (part_none a.q 0 0 (omega arith)) ∙ laid_nothing a.output.now))

pub loop-i-preserved : goal.loop-i-preserved
loop-i-preserved c =
    let l = c.loop-i in
    let lq : length c.args.q ≡ 60 = array_length 60 c.args.q _ c.well_formed.0 in
    let m : c.min-m.result ≡ min (c.args.n - l.i) 128 = c.min-m.ensures in
    (omega arith, copied c.args.q c.args.output.now l.output _ _ l.i c.min-m.result (l.i + 128) (omega (arith, m)) (omega (arith, c.requires.0)) (omega (arith, m)) l.invariant.1 c.read.ensures c.append.ensures)

pub returns-2 : goal.returns-2
returns-2 c =
    let l = c.loop-i in
    let lq : length c.args.q ≡ 60 = array_length 60 c.args.q _ c.well_formed.0 in
    let m : c.min-m.result ≡ min (c.args.n - l.i) 128 = c.min-m.ensures in
    copied c.args.q c.args.output.now l.output _ _ l.i c.min-m.result c.args.n (omega (arith, m)) (omega (arith, c.requires.0)) (omega (arith, m)) l.invariant.1 c.read.ensures c.append.ensures
