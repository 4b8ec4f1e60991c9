-- `aes::expand` meets its contract: after the last turn the list holds all the round keys. Assumes nothing.
use native.Mathlib.Omega.{arith}
use Rattle.aes.proofs.Schedule.{later_all}
use Rattle.aes.proofs.expand.Goals as goal

pub returns : goal.returns
returns c =
    let l = c.loop-k in
    let test = c.loop-k-test.false in
    let end = l.auto.k-index-end in
    later_all _ _ _ _ _ (omega arith) l.invariant.keys c.transpose-ks.ensures c.words-w.ensures
