-- A record that passes the tests and is not closed is open.
use Rattle.std.proofs.Common.{sym, ◌∙◌}
use Rattle.bits.proofs.Arrays.{array_length, array_bytes}
use Rattle.paced.proofs.Records.{open_of}
use Rattle.paced.proofs.record.Paced.tested.Goals as goal

pub returns-clause-opened : goal.returns-clause-opened
returns-clause-opened c =
    let p = c.args.self in
    let g = c.well_formed.0.1.1 in
    let u = g.0.1.1 in
    open_of p (sym c.is_faulty.ensures ∙ c.if-is_faulty.false) c.if-self.false u.1.0.1 (array_length 16 p.line.iv _ u.1.1.1.1.1.1.1.1.0) (array_bytes 16 p.line.iv _ u.1.1.1.1.1.1.1.1.0)
    (array_length 60 p.queue _ g.1.1.1.1.1.1.0) (array_bytes 60 p.queue _ g.1.1.1.1.1.1.0)
