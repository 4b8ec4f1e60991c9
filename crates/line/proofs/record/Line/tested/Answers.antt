-- A record that passes the tests is good.
use Rattle.std.proofs.Common.{sym, ◌∙◌}
use Rattle.bits.proofs.Arrays.{array_length, array_bytes}
use Rattle.line.proofs.Records.{good_of}
use Rattle.line.proofs.record.Line.tested.Goals as goal

pub returns-clause-good : goal.returns-clause-good
returns-clause-good c =
    let s = c.args.self in
    let g = c.well_formed.0.1.1 in
    good_of s (sym c.is_faulty.ensures ∙ c.if-is_faulty.false) g.1.0.1 (array_length 16 s.iv _ g.1.1.1.1.1.1.1.1.0) (array_bytes 16 s.iv _ g.1.1.1.1.1.1.1.1.0)
