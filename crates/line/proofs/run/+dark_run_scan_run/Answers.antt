-- A stretch on, `Along` holds again; the other run then goes on from there to the end.
use Rattle.std.proofs.Common.{◌<◌, ℕ, ◌+◌, ◌-◌, List, refl, sym, ◌∙◌, arith}
use Rattle.line.specs.declared.going.Going.{Going}
use Rattle.line.specs.declared.stretch.Stretch.{Stretch}
use Rattle.line.specs.Inner.{Stretched}
use Rattle.line.proofs.Running.{Along, start, ahead, stop, on, room_on}
use Rattle.line.proofs.run.+dark_run_scan_run.Goals as goal

next : {s d : List ℕ} {f n : ℕ} {g : Going} {end : ℕ} {e : List ℕ} {h : Going} {i : ℕ} {t : Stretch} {e' : List ℕ} → Along s d f n g end e h i → i < end
    → Stretched s e i (end - i) h t e' → Along s d f n g end e' t.going (i + t.done)
next {s} {d} {f} {n} {g} {end} {e} {h} {i} {t} {e'} a lt k = ahead s d f n g end e h i a t.done (i + t.done) t.going e' refl (omega (arith, k.most)) k.ran

pub dark_run-loop-i-init : goal.dark_run-loop-i-init
dark_run-loop-i-init t c = (start _ _ _ _ _ _ refl c.requires.room, c.requires.dark)

pub dark_run-dark_stretch-t-requires : goal.dark_run-dark_stretch-t-requires
dark_run-dark_stretch-t-requires t c = record {
  room = room_on _ _ _ _ _ _ c.loop-i.output c.loop-i.h c.loop-i.i c.loop-i.invariant.0;
  dark = (omega (arith, c.loop-i-test.true), c.loop-i.invariant.1);
}

pub dark_run-scan_run-requires : goal.dark_run-scan_run-requires
dark_run-scan_run-requires t c =
    let a = next c.loop-i.invariant.0 c.loop-i-test.true c.dark_stretch-t.ensures in (
      omega (arith, c.decreases, c.loop-i-test.true, c.loop-i.invariant.0.low, c.dark_stretch-t.ensures.some, c.dark_stretch-t.ensures.most),
      (room_on _ _ _ _ _ _ _ _ _ a, sym c.left.ensures ∙ c.if-left-eq0.true),
    )

pub dark_run-returns-then-left-eq0 : goal.dark_run-returns-then-left-eq0
dark_run-returns-then-left-eq0 t c =
    let a = next c.loop-i.invariant.0 c.loop-i-test.true c.dark_stretch-t.ensures in
    on _ _ _ _ _ _ _ _ _ a _ _ c.scan_run.ensures

pub dark_run-loop-i-preserved : goal.dark_run-loop-i-preserved
dark_run-loop-i-preserved t c =
    let a = next c.loop-i.invariant.0 c.loop-i-test.true c.dark_stretch-t.ensures in
    (a, omega (arith, c.left.ensures, c.if-left-eq0.false))

pub dark_run-returns : goal.dark_run-returns
dark_run-returns t c = stop _ _ _ _ _ _ _ _ _ c.loop-i.invariant.0 c.loop-i-test.false

pub scan_run-loop-i-init : goal.scan_run-loop-i-init
scan_run-loop-i-init t c = (start _ _ _ _ _ _ refl c.requires.room, c.requires.scanning)

pub scan_run-scan_stretch-t-requires : goal.scan_run-scan_stretch-t-requires
scan_run-scan_stretch-t-requires t c = record {
  room = room_on _ _ _ _ _ _ c.loop-i.output c.loop-i.h c.loop-i.i c.loop-i.invariant.0;
  scanning = (omega (arith, c.loop-i-test.true), c.loop-i.invariant.1);
}

pub scan_run-dark_run-requires : goal.scan_run-dark_run-requires
scan_run-dark_run-requires t c =
    let a = next c.loop-i.invariant.0 c.loop-i-test.true c.scan_stretch-t.ensures in (
      omega (arith, c.decreases, c.loop-i-test.true, c.loop-i.invariant.0.low, c.scan_stretch-t.ensures.some, c.scan_stretch-t.ensures.most),
      (room_on _ _ _ _ _ _ _ _ _ a, omega (arith, c.left.ensures, c.if-left-ne0.true)),
    )

pub scan_run-returns-then-left-ne0 : goal.scan_run-returns-then-left-ne0
scan_run-returns-then-left-ne0 t c =
    let a = next c.loop-i.invariant.0 c.loop-i-test.true c.scan_stretch-t.ensures in
    on _ _ _ _ _ _ _ _ _ a _ _ c.dark_run.ensures

pub scan_run-loop-i-preserved : goal.scan_run-loop-i-preserved
scan_run-loop-i-preserved t c =
    let a = next c.loop-i.invariant.0 c.loop-i-test.true c.scan_stretch-t.ensures in
    (a, omega (arith, c.left.ensures, c.if-left-ne0.false))

pub scan_run-returns : goal.scan_run-returns
scan_run-returns t c = stop _ _ _ _ _ _ _ _ _ c.loop-i.invariant.0 c.loop-i-test.false
