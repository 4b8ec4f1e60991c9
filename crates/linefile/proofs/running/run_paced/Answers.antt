-- The settings pass, so that the line opens; the loop keeps `Pacing`, and closing sends the rest.
use Rattle.std.proofs.Common.{sym, ◌∙◌, arith, rules}
use Rattle.refusal.proofs.Answers.{refused_not_done}
use Rattle.linefile.proofs.Pacing.{paced_opens, pacing, can_tick, paced_on, can_close, paced_all}
use Rattle.linefile.proofs.running.run_paced.Goals as goal
use Rattle.linefile.proofs.running.run_paced.Goals.{else-loop-i-test, then-loop-i-test+in_ok-tick+else-d-i-end}

pub returns-in_err-line : goal.returns-in_err-line
returns-in_err-line c =
    absurd (refused_not_done _ _ (sym c.in_err-line.was ∙ (rw (c.into.ensures.0, c.into.ensures.1, c.into.ensures.2, c.into.ensures.3, c.into.ensures.4) at c.opened.ensures) ∙ paced_opens _ _ _ _ _ (search rules) c.requires (search rules) (search rules)))

pub loop-i-init : goal.loop-i-init
loop-i-init c = pacing _ _ _ _ _ (search rules) c.requires _ (sym (rw (c.into.ensures.0, c.into.ensures.1, c.into.ensures.2, c.into.ensures.3, c.into.ensures.4) at c.opened.ensures) ∙ c.in_ok-line.was) (search rules) (search rules)

pub tick-requires : goal.tick-requires
tick-requires c = can_tick _ _ _ _ _ (search rules) c.requires _ _ _ c.loop-i.invariant c.loop-i-test.true

pub loop-i-preserved : goal.loop-i-preserved
loop-i-preserved c =
    paced_on _ _ _ _ _ (search rules) c.requires _ _ _ c.loop-i.invariant c.loop-i-test.true _ _ c.tick.ensures.going_after c.tick.ensures.output_after

pub close-requires : goal.close-requires
close-requires c =
    elim c.loop-i-test.branch [
      | else-loop-i-test w ↦ rw (w.output-is, w.going-is) (can_close _ _ _ _ _ (search rules) c.requires _ _ _ c.loop-i.invariant w.loop-i-test.false)
      | then-loop-i-test+in_ok-tick+else-d-i-end w ↦
          let last = paced_on _ _ _ _ _ (search rules) c.requires _ _ _ c.loop-i.invariant w.loop-i-test.true _ _ w.tick.ensures.going_after w.tick.ensures.output_after in
          rw (w.output-is, w.going-is) (can_close _ _ _ _ _ (search rules) c.requires _ _ _ last (omega arith))
    ]

pub returns-clause-output_after : goal.returns-clause-output_after
returns-clause-output_after c =
    elim c.loop-i-test.branch [
      | else-loop-i-test w ↦
          paced_all _ _ _ _ _ (search rules) c.requires _ _ _ c.loop-i.invariant w.loop-i-test.false _
          (rw (w.output-is, w.going-is) at c.close.ensures.output_after)
      | then-loop-i-test+in_ok-tick+else-d-i-end w ↦
          let last = paced_on _ _ _ _ _ (search rules) c.requires _ _ _ c.loop-i.invariant w.loop-i-test.true _ _ w.tick.ensures.going_after w.tick.ensures.output_after in
          paced_all _ _ _ _ _ (search rules) c.requires _ _ _ last (omega arith) _ (rw (w.output-is, w.going-is) at c.close.ensures.output_after)
    ]
