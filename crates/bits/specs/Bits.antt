-- Packed bits (01, "Bits and settings"): the first bit is the top bit of byte 0. A bit is the number 0 or 1. Assumes nothing: these are definitions.
use Rattle.std.specs.Prelude.{ℕ, zero, suc, ◌+◌, ◌*◌, ◌/◌, ◌%◌, cond, ◌&&◌, List, [], ◌∷◌, ◌++◌, leb, length, get_or, take, drop}

-- the bits of a list of bytes, each byte's top bit first
unfoldable pub bits_of : List ℕ → List ℕ
bits_of [] = []
bits_of (x ∷ s) =
    x / 128 % 2 ∷ x / 64 % 2 ∷ x / 32 % 2 ∷ x / 16 % 2 ∷ x / 8 % 2 ∷ x / 4 % 2 ∷ x / 2 % 2 ∷ x % 2 ∷ bits_of s

-- the byte that the first eight bits make, the first one its top bit; a bit that is missing is 0
abbrev pub byte_of : List ℕ → ℕ
byte_of b =
    get_or b 0 0 * 128 + get_or b 1 0 * 64 + get_or b 2 0 * 32 + get_or b 3 0 * 16 + get_or b 4 0 * 8 + get_or b 5 0 * 4 + get_or b 6 0 * 2 + get_or b 7 0

-- n bytes made of bits; where the bits run out, zeros
unfoldable pub pack : ℕ → List ℕ → List ℕ
pack zero b = []
pack (suc n) b = byte_of b ∷ pack n (drop 8 b)

-- the n bits of the bytes s from bit i on
unfoldable pub part : List ℕ → ℕ → ℕ → List ℕ
part s i n = take n (drop i (bits_of s))

-- the buffer d with the bits r laid in it from bit i on: the bits before them stay, the unused low bits of the last byte are 0, later bytes stay
unfoldable pub laid : List ℕ → ℕ → List ℕ → List ℕ
laid d i r = pack ((i + length r + 7) / 8) (take i (bits_of d) ++ r) ++ drop ((i + length r + 7) / 8) d

-- the buffer d with the first n bits of the sixteen bytes b laid in it from bit i on; for n above 128, and where the buffer ends before them, the buffer as it is
unfoldable pub wrote : List ℕ → ℕ → List ℕ → ℕ → List ℕ
wrote d i b n = cond (leb n 128 && leb (i + n) (8 * length d)) (laid d i (take n (bits_of b))) d

-- the last n binary digits of a number, the highest first
unfoldable pub digits : ℕ → ℕ → List ℕ
digits zero x = []
digits (suc n) x = digits n (x / 2) ++ (x % 2 ∷ [])

-- the number that digits make, the highest first, after those that make a
unfoldable pub number_on : ℕ → List ℕ → ℕ
number_on a [] = a
number_on a (v ∷ l) = number_on (a * 2 + v) l

abbrev pub number : List ℕ → ℕ
number l = number_on 0 l
