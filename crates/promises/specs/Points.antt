-- P1 to P13 (01, "Points to try"), as one table. Bytes are hexadecimal, as in the document.
use Rattle.std.specs.Prelude.{◌≡◌, Bool, true, List, [], ◌∷◌, ◌++◌, ℕ, length, take, replicate}
use Rattle.aes.specs.Field.{◌•◌}
use Rattle.aes.specs.SBox.{s_box}
use Rattle.bits.specs.Bits.{bits_of}
use Rattle.bits.proofs.Lists.{Bytes}
use Rattle.counter.specs.Points.{P1, P2, P3, P4, P5}
use Rattle.mode.specs.Rule.{after}
use Rattle.mode.specs.Mode.{State, opened}
use Rattle.mode.specs.Blocks.{Position}
use Rattle.line.specs.View.{rule_of, view}
use Rattle.line.specs.Free.{fresh}
use Rattle.pace.specs.Ticks.{P13}

module _ (key iv : List ℕ) where
  -- a receiving line with L 1 after the first n bits of these line bytes
  abbrev pub heard : ℕ → ℕ → List ℕ → State (Position (List ℕ))
  heard pattern n s = after (rule_of (fresh key iv pattern 1 true)) (view (fresh key iv pattern 1 true)) (take n (bits_of s))

  -- the table, for every key and IV
  pub record Points : Type 0 where
    pub p1 : P1
    pub p2 : P2
    pub p3 : P3
    pub p4 : P4
    pub p5 : P5
    pub p6 : 0x57 • 0x83 ≡ 0xC1
    pub p7 : (s_box 0x53 ≡ 0xED) × (s_box 0x00 ≡ 0x63)
    -- after 136 bits the counter is V, place 0, window empty: the state of a line that was opened with V
    pub p8 : (v : List ℕ) → length v ≡ 16 → Bytes v → heard 0x80 136 (0x80 ∷ v) ≡ opened (record { counter = v; place = 0 })
    -- found at bit 15; bit 143 is the last one under the old counter
    pub p9 : ((heard 0x80 14 (0x01 ∷ 0x00 ∷ [])).left ≡ 0) × ((heard 0x80 15 (0x01 ∷ 0x00 ∷ [])).left ≡ 128)
        × ((heard 0x80 142 (0x01 ∷ replicate 17 0x00)).left ≡ 1) × (heard 0x80 143 (0x01 ∷ replicate 17 0x00) ≡ opened (record { counter = replicate 16 0x00; place = 0 }))
    -- found at bit 8, and the ninth bit is the IV's first
    pub p10 : ((heard 0xFF 8 (0xFF ∷ 0xFF ∷ [])).left ≡ 128) × ((heard 0xFF 9 (0xFF ∷ 0xFF ∷ [])).collected ≡ 1 ∷ [])
    pub p11 : (heard 0x00 7 (0x00 ∷ [])).left ≡ 0
    -- one pattern only: the zeros after the blackout do not meet the one within it
    pub p12 : ((heard 0x80 8 (0x80 ∷ [])).left ≡ 128) × ((heard 0x80 144 (0x80 ∷ replicate 15 0x00 ++ 0x01 ∷ 0x00 ∷ [])).left ≡ 0)
    -- for every pattern and direction
    pub p13 : (pattern : ℕ) (receiving : Bool) → P13 (rule_of (fresh key iv pattern 1 receiving)) (view (fresh key iv pattern 1 receiving))
