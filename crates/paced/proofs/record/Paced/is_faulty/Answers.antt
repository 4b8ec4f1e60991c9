-- A line that passes its own tests has an L of 11 at most.
use Rattle.std.proofs.Common.{sym, ◌∙◌}
use Rattle.line.proofs.Records.{passed}
use Rattle.paced.proofs.record.Paced.is_faulty.Goals as goal

pub is_too_fast-requires : goal.is_too_fast-requires
is_too_fast-requires c = (passed c.args.self.now.line (sym c.is_faulty.ensures ∙ c.if-is_faulty.false)).l_high
