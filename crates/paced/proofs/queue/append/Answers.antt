-- The part lent from the current byte on comes back with the bits laid in it.
use borrow.Author.Rules.{rules}
use Rattle.paced.proofs.Appending.{appended}
use Rattle.paced.proofs.queue.append.Goals as goal

pub returns : goal.returns
returns c =
    let a = c.args in
    appended a.output.now _ a.b a.at a.n (search rules) c.requires.0 c.requires.1 c.write.ensures
