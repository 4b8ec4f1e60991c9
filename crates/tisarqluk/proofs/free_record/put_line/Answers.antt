-- `tisarqluk::free_record::put_line` meets its contract: its parts stand one after the other. Assumes nothing.
use Rattle.std.proofs.Common.{rules}
use Rattle.tisarqluk.proofs.Lines.{Shaped}
use Rattle.tisarqluk.proofs.Parts.{line_laid}
use Rattle.tisarqluk.proofs.free_record.put_line.Goals as goal

pub returns : goal.returns
returns c =
    let shaped : Shaped c.args.line = record { key = search rules; counter = search rules; iv = search rules; left = search rules } in
    line_laid c.args.kind c.args.line c.args.buf.now _ _ _ _ _ shaped c.requires (rw c.from.ensures at c.copy_from_slice.ensures.after) c.copy_from_slice-2.ensures.after c.copy_from_slice-3.ensures.after (rw c.to_be_bytes.ensures at c.copy_from_slice-4.ensures.after) c.copy_from_slice-5.ensures.after
