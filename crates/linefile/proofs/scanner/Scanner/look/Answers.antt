-- Each branch is a law on one line bit.
use Rattle.std.proofs.Common.{refl, arith}
use Rattle.linefile.proofs.Looking.{looks_dark, looks_found, looks_on}
use Rattle.linefile.proofs.scanner.Scanner.look.Goals as goal

pub returns-then-left-gt0 : goal.returns-then-left-gt0
returns-then-left-gt0 c = looks_dark c.args.pattern c.args.l c.args.self c.args.bit c.if-left-gt0.true _ refl refl

pub returns-in-Some : goal.returns-in-Some
returns-in-Some c = looks_on c.args.pattern c.args.l c.args.self c.args.bit (omega (arith, c.if-left-gt0.false)) c.in-Some.window c.in-Some.ensures _ refl refl

pub returns-in-None : goal.returns-in-None
returns-in-None c = looks_found c.args.pattern c.args.l c.args.self c.args.bit (omega (arith, c.if-left-gt0.false)) c.in-None.ensures _ refl refl refl
