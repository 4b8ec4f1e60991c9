-- Where w bits wait they pass, otherwise none do.
use native.Mathlib.Omega.{arith}
use Rattle.bits.proofs.Arrays.{array_length, array_bytes}
use Rattle.pace.proofs.Moves.{width_most}
use Rattle.paced.proofs.Blocks.{move_none, move_some}
use Rattle.paced.proofs.ticking.passing.Goals as goal

pub returns-then-n-w : goal.returns-then-n-w
returns-then-n-w c =
    let a = c.args in
    move_none a.line c.requires.0 a.q a.at a.n _ (array_length 60 a.q _ c.well_formed.1.0) (array_bytes 60 a.q _ c.well_formed.1.0) c.width_of-w.ensures c.requires.1 c.if-n-w.true

pub returns : goal.returns
returns c =
    let a = c.args in
    move_some a.line c.requires.0 a.q a.at a.n _ (array_length 60 a.q _ c.well_formed.1.0) (array_bytes 60 a.q _ c.well_formed.1.0) c.width_of-w.ensures c.requires.1
    c.read.result c.passed-t.result.out _ c.passed-t.result.line
    c.if-n-w.false (omega (arith, width_most a.line.left, c.width_of-w.ensures))
    c.read.ensures c.passed-t.ensures.line_value c.passed-t.ensures.out_value c.replaced.ensures
