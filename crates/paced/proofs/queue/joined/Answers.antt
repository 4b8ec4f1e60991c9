-- What the reading, the drawing and the writing give is what `joined_is` joins.
use Rattle.paced.proofs.Joining.{joined_is}
use Rattle.paced.proofs.queue.joined.Goals as goal

pub returns : goal.returns
returns c =
    let a = c.args in
    joined_is a.q a.input.now _ _ _ a.r a.n a.d c.requires.4 c.requires.0 c.requires.1 c.requires.2 c.requires.3
    c.draw.ensures c.read.ensures c.write.ensures
