-- The settings pass, so that the line opens; the bits are few enough and there, and the output has room.
use Rattle.std.proofs.Common.{◌≡◌, Result, sym, ap, ◌∙◌, rules}
use Rattle.std.specs.Result.{result_unwrap_or}
use Rattle.refusal.specs.declared.Refusal.{Refusal}
use Rattle.line.specs.declared.record.Line.{Line}
use Rattle.linefile.specs.Run.{line_of}
use Rattle.refusal.proofs.Answers.{refused_not_done}
use Rattle.linefile.proofs.Freely.{opens_free, runs_free, writes_free}
use Rattle.linefile.proofs.running.run_free.Goals as goal

pub returns-in_err-line : goal.returns-in_err-line
returns-in_err-line c =
    absurd (refused_not_done _ _ (sym c.in_err-line.was ∙ (rw (c.into.ensures.0, c.into.ensures.1, c.into.ensures.2, c.into.ensures.3, c.into.ensures.4) at c.opened.ensures) ∙ opens_free c.args.contents c.args.file.now c.args.output.now c.requires (search rules) (search rules)))

pub returns : goal.returns
returns c =
    let o = opens_free c.args.contents c.args.file.now c.args.output.now c.requires (search rules) (search rules) in
    let r = runs_free c.args.contents c.args.file.now c.args.output.now c.requires (search rules) in
    let l = writes_free c.args.contents c.args.file.now c.args.output.now c.requires (search rules) in
    let e = rw (c.into.ensures.0, c.into.ensures.1, c.into.ensures.2, c.into.ensures.3, c.into.ensures.4) at c.opened.ensures in
    let same : c.in_ok-line.line ≡ line_of c.args.contents.settings =
    ap (λ (x : Result Line Refusal). result_unwrap_or x c.in_ok-line.line) (sym c.in_ok-line.was ∙ e ∙ o) in
    record { value = c.run.ensures.value ∙ rw same r; output_after = c.run.ensures.output_after ∙ rw same l }
