-- `store` of a paced line's record meets its contract: its parts stand one after the other. Assumes nothing.
use Rattle.std.proofs.Common.{rules}
use Rattle.tisarqluk.proofs.Lines.{Shaped}
use Rattle.tisarqluk.proofs.Paces.{ShapedPaced}
use Rattle.tisarqluk.proofs.Parts.{paced_laid}
use Rattle.tisarqluk.proofs.paced_record.PacedRecord.store.Goals as goal

pub returns : goal.returns
returns c =
    let line : Shaped c.args.self.line = record { key = search rules; counter = search rules; iv = search rules; left = search rules } in
    let shaped : ShapedPaced c.args.self = record { line = line; queue = search rules; ready = search rules; waiting = search rules; fillers = search rules } in
    paced_laid c.args.self c.args.buf.now _ _ _ _ _ _ shaped c.put_line.ensures (rw c.from.ensures at c.copy_from_slice.ensures.after) (rw c.to_be_bytes.ensures at c.copy_from_slice-2.ensures.after) (rw c.to_be_bytes-2.ensures at c.copy_from_slice-3.ensures.after) (rw c.to_be_bytes-3.ensures at c.copy_from_slice-4.ensures.after) c.copy_from_slice-5.ensures.after
