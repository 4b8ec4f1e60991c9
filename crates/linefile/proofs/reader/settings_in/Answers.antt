-- Key and IV are sixteen bytes each, read as 128 bits.
use Rattle.std.proofs.Common.{◌+◌, arith}
use Rattle.bits.proofs.Lists.{Bytes}
use Rattle.bits.proofs.Parts.{sixteen}
use Rattle.linefile.specs.File.{settings_at}
use Rattle.linefile.proofs.reader.settings_in.Goals as goal

pub returns : goal.returns
returns c =
    let f = c.args.file.now in
    let known : Bytes f = λ i. omega (arith, c.type_inv.file i) in
    let key = sixteen f (settings_at f + 4) known (omega (arith, c.requires)) in
    let iv = sixteen f (settings_at f + 20) known (omega (arith, c.requires)) in
    cc
