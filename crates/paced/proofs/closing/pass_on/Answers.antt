-- The blocks keep `Along` of the line's runs, each line with the keystream block of its counter.
use mathlib.Core.Path.{◌≡◌, refl}
use Prim.Native.Nat.{ℕ, ◌+◌, ◌-◌, ◌*◌, ◌≤◌, min}
use native.Mathlib.Omega.{arith}
use lib.ListN.{length}
use Rattle.bits.proofs.Arrays.{array_length}
use Rattle.line.proofs.Running.{start, ahead, stop, going}
use Rattle.paced.proofs.Blocks.{good_block, ran_block}
use Rattle.paced.proofs.closing.pass_on.Goals as goal

pub loop-i-init : goal.loop-i-init
loop-i-init c =
    let a = c.args in (
      c.requires.0,
      c.requires.0,
      start a.q a.output.now a.from a.n (going a.line c.requires.0) _ refl (record {
        few = omega (arith, c.requires.1);
        bits = omega (arith, c.requires.1, array_length 60 a.q _ c.well_formed.1.0);
        room = c.requires.2;
        clean = c.requires.3;
      }),
    )

pub loop-i-preserved : goal.loop-i-preserved
loop-i-preserved c =
    let l = c.loop-i in
    let m_is : c.min-m.result ≡ min (c.args.from + c.args.n - l.i) 128 = c.min-m.ensures in
    let m : ℕ = c.min-m.result in
    let fits : l.i + m ≤ 8 * length c.args.q = omega (arith, m_is, l.invariant.2.high, c.requires.1, array_length 60 c.args.q _ c.well_formed.1.0) in
    let h = good_block l.line l.invariant.1 c.args.q c.read.result l.i m c.passed-t.result.line c.read.ensures (omega (arith, m_is)) fits c.passed-t.ensures.line_value in (
      l.invariant.0,
      h,
      ahead _ _ _ _ _ _ l.output (going l.line l.invariant.1) l.i l.invariant.2 m (l.i + 128) (going c.passed-t.result.line h) _ (omega (arith, m_is)) (omega arith)
          (ran_block l.line l.invariant.1 c.args.q c.read.result c.passed-t.result.out l.output _ l.i m c.passed-t.result.line h
          c.read.ensures (omega (arith, m_is)) fits c.passed-t.ensures.line_value c.passed-t.ensures.out_value c.append.ensures),
    )

pub returns-2 : goal.returns-2
returns-2 c =
    let l = c.loop-i in
    let m_is : c.min-m.result ≡ min (c.args.from + c.args.n - l.i) 128 = c.min-m.ensures in
    let m : ℕ = c.min-m.result in
    let fits : l.i + m ≤ 8 * length c.args.q = omega (arith, m_is, l.invariant.2.high, c.requires.1, array_length 60 c.args.q _ c.well_formed.1.0) in
    let h = good_block l.line l.invariant.1 c.args.q c.read.result l.i m c.passed-t.result.line c.read.ensures (omega (arith, m_is)) fits c.passed-t.ensures.line_value in
    let last = ahead _ _ _ _ _ _ l.output (going l.line l.invariant.1) l.i l.invariant.2 m (c.args.from + c.args.n) (going c.passed-t.result.line h) _ (omega (arith, m_is)) (omega arith)
    (ran_block l.line l.invariant.1 c.args.q c.read.result c.passed-t.result.out l.output _ l.i m c.passed-t.result.line h
    c.read.ensures (omega (arith, m_is)) fits c.passed-t.ensures.line_value c.passed-t.ensures.out_value c.append.ensures) in
    let r = stop _ _ _ _ _ _ _ _ _ last (omega arith) in
    record { line = r.line; out = r.out }
