-- FIPS 197, section 4: a byte, a number below 256, stands for an element of the field of 256 elements. Its bit i is the coefficient of x^i.
-- Assumes nothing.
use Rattle.std.specs.Prelude.{ℕ, zero, suc, ◌*◌, ◌/◌, ◌%◌, cond, ltb, eqb}
use Rattle.std.specs.Int.Bits.{bit_xor}

infixl 68 ◌⊕◌
infixl 72 ◌•◌
-- 4.1: addition is the exclusive or
abbrev pub ◌⊕◌ : ℕ → ℕ → ℕ
a ⊕ b = bit_xor a b

-- 4.2.1: multiplication by x, modulo x^8 + x^4 + x^3 + x + 1: a shift to the left, and 0x1b added where bit 7 was set
unfoldable pub xtime : ℕ → ℕ
xtime b = cond (ltb b 128) (b * 2 % 256) (b * 2 % 256 ⊕ 0x1b)

-- b where bit 0 of a is set, and 0 where it is not
unfoldable pub low : ℕ → ℕ → ℕ
low a b = cond (eqb (a % 2) 0) 0 b

-- 4.2: the product, as the sum of b · x^i over the bits i of a that are set; n bits of a are to go
unfoldable pub product : ℕ → ℕ → ℕ → ℕ
product zero a b = 0
product (suc n) a b = low a b ⊕ product n (a / 2) (xtime b)

unfoldable pub ◌•◌ : ℕ → ℕ → ℕ
a • b = product 8 a b
