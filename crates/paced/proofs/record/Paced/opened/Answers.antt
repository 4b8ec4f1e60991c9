-- The line's own opening, and then D, decide the answer; the line holds M fillers.
use Rattle.std.proofs.Common.{sym, ◌∙◌}
use Rattle.paced.proofs.Starts.{opens}
use Rattle.paced.proofs.record.Paced.opened.Goals as goal

pub returns : goal.returns
returns c =
    let s = c.args.settings in
    opens s.key.now s.iv.now s.pattern s.l s.receiving c.args.d c.in_ok-line.line c.hold_of.result c.empty.result (sym c.opened.ensures ∙ c.in_ok-line.was) (sym c.is_too_fast.ensures ∙ c.if-is_too_fast.false)
    c.well_formed.0.1.1.1.1.0.1 c.hold_of.ensures c.empty.ensures
