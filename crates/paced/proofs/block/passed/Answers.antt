-- A run of so few bits is never refused.
use mathlib.Core.Path.{refl}
use Rattle.bits.proofs.Lists.{zeros}
use Rattle.bits.proofs.Arrays.{array_length}
use Rattle.paced.proofs.Blocks.{block_line, block_out}
use Rattle.paced.proofs.block.passed.Goals as goal

pub returns : goal.returns
returns c =
    let a = c.args in
    let l = array_length 16 a.b _ c.well_formed.1.0 in record {
      line_value = block_line a.line c.requires.0 a.b a.n l c.requires.1 (zeros 16) _ refl c.run.ensures.line_after;
      out_value = block_out a.line c.requires.0 a.b a.n l c.requires.1 (zeros 16) _ refl c.run.ensures.output_after;
    }
