use Prim.Native.Nat.{ℕ, ◌+◌}
use mathlib.Core.Path.{◌≡◌}
use Rattle.aes.specs.Field.{◌⊕◌, product, ◌•◌}
use Rattle.aes.proofs.field.product.Given as goal

-- with the n terms that are to go, the sum is the product
abbrev pub invariant-loop : goal.invariant-loop
invariant-loop l = (n : ℕ) → n + l.counter ≡ 8 → l.sum ⊕ product n l.a l.b ≡ l.fn.a • l.fn.b
