-- `aes::field::product` meets its contract: at each turn the sum has one term more of the definition's. Assumes nothing.
use Prim.Native.Nat.{ℕ, suc, ◌/◌}
use mathlib.Core.Path.{◌≡◌, sym, ◌∙◌}
use native.Mathlib.Omega.{arith}
use lib.Bits.{xor_zero_l, xor_zero_r, xor_assoc}
use Rattle.aes.specs.Field.{◌⊕◌, xtime, low, product, ◌•◌}
use Rattle.aes.proofs.field.product.Goals as goal

first : (a b n : ℕ) → n ≡ 8 → 0 ⊕ product n a b ≡ a • b
unfolding ◌•◌
first a b n e = rw e (xor_zero_l _)

more : (a b s p l x n : ℕ) → s ⊕ product (suc n) a b ≡ p → l ≡ low a b → x ≡ xtime b → s ⊕ l ⊕ product n (a / 2) x ≡ p
unfolding product
more a b s p l x n e el ex = rw (el, ex) (xor_assoc s (low a b) _ ∙ e)

pub loop-init : goal.loop-init
loop-init c = λ n e. first c.args.a c.args.b n (omega arith)

pub loop-preserved : goal.loop-preserved
loop-preserved c = λ n e. more _ _ _ _ _ _ n (c.loop.invariant (suc n) (omega arith)) c.low-sum.ensures c.xtime-b.ensures

pub returns : goal.returns
unfolding product
returns c = sym (xor_zero_r c.loop.sum) ∙ c.loop.invariant 0 (omega arith)
