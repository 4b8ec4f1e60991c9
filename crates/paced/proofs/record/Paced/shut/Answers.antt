-- The ready bits are copied, and the rest is appended to them.
use Rattle.std.proofs.Common.{◌*◌, ◌≤◌, length, refl, arith}
use Rattle.paced.proofs.Records.{length_queue, counts_in}
use Rattle.paced.proofs.Appending.{same}
use Rattle.paced.proofs.Rest.{clean, close_is}
use Rattle.paced.proofs.record.Paced.shut.Goals as goal

pub pass_on-line-requires : goal.pass_on-line-requires
pass_on-line-requires c =
    let p = c.args.self in
    let o = c.requires.opened in
    let few : p.ready ≤ 8 * length p.queue = omega (arith, length_queue p o, counts_in p o) in
    let k = same p.queue c.args.output.now _ _ few (omega (arith, c.requires.room)) c.copy.ensures in (
      o.good,
      omega (arith, counts_in p o),
      omega (arith, k, c.requires.room),
      clean p.queue _ _ _ few c.copy.ensures,
    )

pub returns : goal.returns
returns c =
    let all = close_is c.args.self c.requires.opened c.args.output.now _ _ _ _ _ refl refl c.copy.ensures c.pass_on-line.ensures in
    record { value = all.0; output_after = all.1 }
