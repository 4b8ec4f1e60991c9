-- Each callee's answer is a step of `dark_stretched`.
use mathlib.Core.Path.{◌≡◌, ap, ◌∙◌}
use Prim.Native.Nat.{ℕ, ◌-◌, ◌<◌, min}
use native.Mathlib.Omega.{arith}
use Rattle.line.proofs.Steady.{darkened_block, dark_good, dark_stretched}
use Rattle.line.proofs.stretch.dark_stretch.Goals as goal

pub settled-requires : goal.settled-requires
settled-requires c =
    let a = c.args in
    let m = c.min-m in
    let place : a.g.line.position.place < 128 = a.g.good.place_in in
    let m_is : m.result ≡ min (min a.n (128 - a.g.line.position.place)) a.g.line.left = m.ensures ∙ ap (λ (k : ℕ). min k a.g.line.left) c.min.ensures in record {
      good = dark_good a.input.now a.output.now a.from a.n a.g c.requires.room m.result (omega (arith, m_is, c.requires.dark.0, c.requires.dark.1, place)) (omega (arith, m_is)) (omega (arith, m_is, place))
          c.cover-c.result c.cover-c.ensures c.requires.dark.1 (omega (arith, m_is)) c.darkened_by.result c.darkened_by.ensures;
      block_is = darkened_block a.g c.darkened_by.result c.cover-c.result.carried m.result c.darkened_by.ensures;
    }

pub returns : goal.returns
returns c =
    let a = c.args in
    let m = c.min-m in
    let place : a.g.line.position.place < 128 = a.g.good.place_in in
    let m_is : m.result ≡ min (min a.n (128 - a.g.line.position.place)) a.g.line.left = m.ensures ∙ ap (λ (k : ℕ). min k a.g.line.left) c.min.ensures in
    dark_stretched a.input.now a.output.now a.from a.n a.g c.requires.room m.result (omega (arith, m_is, c.requires.dark.0, c.requires.dark.1, place)) (omega (arith, m_is)) (omega (arith, m_is, place))
    c.cover-c.result c.cover-c.ensures c.settled.result _ c.requires.dark.1 (omega (arith, m_is)) (c.settled.ensures ∙ c.darkened_by.ensures) c.write.ensures
