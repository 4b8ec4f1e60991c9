-- Each callee's answer is a step of `scan_stretched`.
use mathlib.Core.Path.{◌≡◌, ◌∙◌}
use Prim.Native.Nat.{◌-◌, ◌<◌, min}
use native.Mathlib.Omega.{arith}
use Rattle.line.proofs.Steady.{scanned_block, scan_takes, scan_good, scan_stretched}
use Rattle.line.proofs.stretch.scan_stretch.Goals as goal

pub scanned_to-requires : goal.scanned_to-requires
scanned_to-requires c =
    let a = c.args in
    let m = c.min-m in
    let place : a.g.line.position.place < 128 = a.g.good.place_in in
    let m_is : m.result ≡ min a.n (128 - a.g.line.position.place) = m.ensures in
    scan_takes a.input.now a.output.now a.from a.n a.g c.requires.room m.result (omega (arith, m_is, c.requires.scanning.0, place)) (omega (arith, m_is)) (omega (arith, m_is, place))
    c.cover-c.result c.cover-c.ensures c.requires.scanning.1 c.search-f.result c.search-f.ensures

pub settled-requires : goal.settled-requires
settled-requires c =
    let a = c.args in
    let m = c.min-m in
    let place : a.g.line.position.place < 128 = a.g.good.place_in in
    let m_is : m.result ≡ min a.n (128 - a.g.line.position.place) = m.ensures in record {
      good = scan_good a.input.now a.output.now a.from a.n a.g c.requires.room m.result (omega (arith, m_is, c.requires.scanning.0, place)) (omega (arith, m_is)) (omega (arith, m_is, place))
          c.cover-c.result c.cover-c.ensures c.requires.scanning.1 c.search-f.result c.search-f.ensures c.scanned_to.result c.scanned_to.ensures;
      block_is = scanned_block a.g c.scanned_to.result c.search-f.result c.scanned_to.ensures;
    }

pub returns : goal.returns
returns c =
    let a = c.args in
    let m = c.min-m in
    let place : a.g.line.position.place < 128 = a.g.good.place_in in
    let m_is : m.result ≡ min a.n (128 - a.g.line.position.place) = m.ensures in
    scan_stretched a.input.now a.output.now a.from a.n a.g c.requires.room m.result (omega (arith, m_is, c.requires.scanning.0, place)) (omega (arith, m_is)) (omega (arith, m_is, place))
    c.cover-c.result c.cover-c.ensures c.settled.result _ c.requires.scanning.1 c.search-f.result c.search-f.ensures (c.settled.ensures ∙ c.scanned_to.ensures) c.write.ensures
