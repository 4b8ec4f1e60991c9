-- The counter (01, "The counter"; source document 003): 128 bits, r127 to r0, written as a list with r127 first.
use Rattle.std.specs.Prelude.{cond, List, ◌∷◌, ℕ, ◌+◌, ◌-◌, ◌%◌, ltb, get_or, take}
use Rattle.bits.specs.Bits.{bits_of, pack}
use Rattle.counter.specs.declared.Position.{Position}

-- the bit r k of the counter c
abbrev pub r : List ℕ → ℕ → ℕ
r c k = get_or c (127 - k) 0

-- the new r127: the sum modulo 2 of the old r29, r17, r2 and r0
unfoldable pub feedback : List ℕ → ℕ
feedback c = (r c 29 + r c 17 + r c 2 + r c 0) % 2

-- one step: every bit moves one place down
unfoldable pub stepped : List ℕ → List ℕ
stepped c = feedback c ∷ take 127 c

-- the same on the sixteen bytes of a record and of the AES input, in which byte 0's top bit is r127
unfoldable pub stepped_bytes : List ℕ → List ℕ
stepped_bytes c = pack 16 (stepped (bits_of c))

-- after one keystream bit: the next place of the block, or the first place of the next counter's block
unfoldable pub advanced : Position → Position
advanced p =
    cond (ltb p.place 127)
    (record { counter = p.counter; place = p.place + 1 })
    (record { counter = stepped_bytes p.counter; place = 0 })
