-- Document 01, P6 and P7: worked examples of FIPS 197, of its field (4.2) and of its S-box (5.1.1), by computation. Assumes nothing.
use mathlib.Core.Path.{◌≡◌, refl}
use Rattle.aes.specs.Field.{xtime, low, product, ◌•◌}
use Rattle.aes.specs.SBox.{squares, inverse, affine_bit, affine, s_box}

pub product_example : 0x57 • 0x83 ≡ 0xc1
unfolding xtime low product ◌•◌
product_example = refl

pub s_box_example : s_box 0x53 ≡ 0xed
unfolding xtime low product ◌•◌ squares inverse affine_bit affine s_box
s_box_example = refl

pub s_box_of_zero : s_box 0x00 ≡ 0x63
unfolding xtime low product ◌•◌ squares inverse affine_bit affine s_box
s_box_of_zero = refl
