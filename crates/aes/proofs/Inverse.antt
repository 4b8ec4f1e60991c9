-- The inverses in the field of 256 elements, written out, and two tests that antt computes over them: each is what `inverse` says (b^254), and b • inverse b is 1
-- for each b from 1 to 255. So `inverse` is the inverse of FIPS 197, section 4.2; and inverse 0 is 0. Assumes nothing.
use mathlib.Core.Path.{◌≡◌, sym, ap, ◌∙◌}
use mathlib.Core.List.{List, [], ◌∷◌}
use mathlib.Core.Bool.{Bool}
use Prim.Native.Nat.{ℕ, zero, suc, ◌<◌, zero-le, suc-le-suc}
use native.Mathlib.Nat.{le_of_suc-le-suc, not-suc-le-zero}
use lib.Dec.{T, eqb, eqb→eq}
use lib.ListN.{get_or, drop}
use Rattle.aes.specs.Field.{xtime, low, product, ◌•◌}
use Rattle.aes.specs.SBox.{squares, inverse}
use Rattle.aes.proofs.Table.{at, every}

abbrev pub inverses : List ℕ
inverses =
    0 ∷ 1 ∷ 141 ∷ 246 ∷ 203 ∷ 82 ∷ 123 ∷ 209 ∷ 232 ∷ 79 ∷ 41 ∷ 192 ∷ 176 ∷ 225 ∷ 229 ∷ 199
    ∷ 116 ∷ 180 ∷ 170 ∷ 75 ∷ 153 ∷ 43 ∷ 96 ∷ 95 ∷ 88 ∷ 63 ∷ 253 ∷ 204 ∷ 255 ∷ 64 ∷ 238 ∷ 178
    ∷ 58 ∷ 110 ∷ 90 ∷ 241 ∷ 85 ∷ 77 ∷ 168 ∷ 201 ∷ 193 ∷ 10 ∷ 152 ∷ 21 ∷ 48 ∷ 68 ∷ 162 ∷ 194
    ∷ 44 ∷ 69 ∷ 146 ∷ 108 ∷ 243 ∷ 57 ∷ 102 ∷ 66 ∷ 242 ∷ 53 ∷ 32 ∷ 111 ∷ 119 ∷ 187 ∷ 89 ∷ 25
    ∷ 29 ∷ 254 ∷ 55 ∷ 103 ∷ 45 ∷ 49 ∷ 245 ∷ 105 ∷ 167 ∷ 100 ∷ 171 ∷ 19 ∷ 84 ∷ 37 ∷ 233 ∷ 9
    ∷ 237 ∷ 92 ∷ 5 ∷ 202 ∷ 76 ∷ 36 ∷ 135 ∷ 191 ∷ 24 ∷ 62 ∷ 34 ∷ 240 ∷ 81 ∷ 236 ∷ 97 ∷ 23
    ∷ 22 ∷ 94 ∷ 175 ∷ 211 ∷ 73 ∷ 166 ∷ 54 ∷ 67 ∷ 244 ∷ 71 ∷ 145 ∷ 223 ∷ 51 ∷ 147 ∷ 33 ∷ 59
    ∷ 121 ∷ 183 ∷ 151 ∷ 133 ∷ 16 ∷ 181 ∷ 186 ∷ 60 ∷ 182 ∷ 112 ∷ 208 ∷ 6 ∷ 161 ∷ 250 ∷ 129 ∷ 130
    ∷ 131 ∷ 126 ∷ 127 ∷ 128 ∷ 150 ∷ 115 ∷ 190 ∷ 86 ∷ 155 ∷ 158 ∷ 149 ∷ 217 ∷ 247 ∷ 2 ∷ 185 ∷ 164
    ∷ 222 ∷ 106 ∷ 50 ∷ 109 ∷ 216 ∷ 138 ∷ 132 ∷ 114 ∷ 42 ∷ 20 ∷ 159 ∷ 136 ∷ 249 ∷ 220 ∷ 137 ∷ 154
    ∷ 251 ∷ 124 ∷ 46 ∷ 195 ∷ 143 ∷ 184 ∷ 101 ∷ 72 ∷ 38 ∷ 200 ∷ 18 ∷ 74 ∷ 206 ∷ 231 ∷ 210 ∷ 98
    ∷ 12 ∷ 224 ∷ 31 ∷ 239 ∷ 17 ∷ 117 ∷ 120 ∷ 113 ∷ 165 ∷ 142 ∷ 118 ∷ 61 ∷ 189 ∷ 188 ∷ 134 ∷ 87
    ∷ 11 ∷ 40 ∷ 47 ∷ 163 ∷ 218 ∷ 212 ∷ 228 ∷ 15 ∷ 169 ∷ 39 ∷ 83 ∷ 4 ∷ 27 ∷ 252 ∷ 172 ∷ 230
    ∷ 122 ∷ 7 ∷ 174 ∷ 99 ∷ 197 ∷ 219 ∷ 226 ∷ 234 ∷ 148 ∷ 139 ∷ 196 ∷ 213 ∷ 157 ∷ 248 ∷ 144 ∷ 107
    ∷ 177 ∷ 13 ∷ 214 ∷ 235 ∷ 198 ∷ 14 ∷ 207 ∷ 173 ∷ 8 ∷ 78 ∷ 215 ∷ 227 ∷ 93 ∷ 80 ∷ 30 ∷ 179
    ∷ 91 ∷ 35 ∷ 56 ∷ 52 ∷ 104 ∷ 70 ∷ 3 ∷ 140 ∷ 221 ∷ 156 ∷ 125 ∷ 160 ∷ 205 ∷ 26 ∷ 65 ∷ 28 ∷ []

abbrev power : ℕ → ℕ → Bool
power k x = eqb x (inverse k)

powers : T (every power 0 inverses)
unfolding xtime low product ◌•◌ squares inverse
powers = tt

pub inverse_at : (k : ℕ) → k < 256 → get_or inverses k 0 ≡ inverse k
inverse_at k h = eqb→eq (get_or inverses k 0) (inverse k) (at power inverses powers k h)

-- place k of the list without its first entry is the inverse of k + 1
abbrev one : ℕ → ℕ → Bool
one k x = eqb (suc k • x) 1

ones : T (every one 0 (drop 1 inverses))
unfolding xtime low product ◌•◌
ones = tt

pub inverse_right : (b : ℕ) → 0 < b → b < 256 → b • inverse b ≡ 1
inverse_right zero h l = absurd (not-suc-le-zero h)
inverse_right (suc b) h l =
    ap (λ (x : ℕ). suc b • x) (sym (inverse_at (suc b) l))
    ∙ eqb→eq (suc b • get_or (drop 1 inverses) b 0) 1 (at one (drop 1 inverses) ones b (le_of_suc-le-suc l))

pub inverse_zero : inverse 0 ≡ 0
inverse_zero = sym (inverse_at 0 (suc-le-suc zero-le))
