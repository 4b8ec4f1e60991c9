-- The bits behind those written, up to the end of their byte, are read before and written after.
use mathlib.Core.Path.{refl}
use Rattle.bits.proofs.Arrays.{array_length, array_bytes}
use Rattle.paced.proofs.Joining.{replaced_is}
use Rattle.paced.proofs.queue.replaced.Goals as goal

pub returns : goal.returns
returns c =
    let a = c.args in
    replaced_is a.q a.b _ _ _ a.at a.n _ _ (array_length 60 a.q _ c.well_formed.0) (array_bytes 60 a.q _ c.well_formed.0) (array_length 16 a.b _ c.well_formed.1.1.0)
    c.requires.0 refl c.requires.1 refl
    c.read-kept.ensures c.write.ensures c.write-2.ensures
