-- FIPS 197, section 5.1.1: the S-box, by its rule. Assumes nothing.
use Rattle.std.specs.Prelude.{ℕ, zero, suc, ◌+◌, ◌*◌, ◌/◌, ◌%◌, ◌^◌}
use Rattle.aes.specs.Field.{◌•◌}

-- the product of n squares: s, s², s⁴, ..
unfoldable pub squares : ℕ → ℕ → ℕ
squares zero s = 1
squares (suc n) s = s • squares n (s • s)

-- the inverse in the field, and 0 for 0: b^254, which is b² · b⁴ · b⁸ · .. · b^128. `proofs/Inverse.antt` proves that b • inverse b is 1 for
-- each b but 0
unfoldable pub inverse : ℕ → ℕ
inverse b = squares 7 (b • b)

abbrev pub bit : ℕ → ℕ → ℕ
bit b i = b / 2 ^ i % 2

-- (5.1): bit i of the affine map's result, with c = 0x63
unfoldable pub affine_bit : ℕ → ℕ → ℕ
affine_bit b i = (bit b i + bit b ((i + 4) % 8) + bit b ((i + 5) % 8) + bit b ((i + 6) % 8) + bit b ((i + 7) % 8) + bit 0x63 i) % 2

unfoldable pub affine : ℕ → ℕ
affine b =
    affine_bit b 0 + 2 * affine_bit b 1 + 4 * affine_bit b 2 + 8 * affine_bit b 3
    + 16 * affine_bit b 4 + 32 * affine_bit b 5 + 64 * affine_bit b 6 + 128 * affine_bit b 7

unfoldable pub s_box : ℕ → ℕ
s_box b = affine (inverse b)
