-- P1 to P5 (01, "Points to try"): counters of sixteen bytes, and what they step to.
use Rattle.std.specs.Prelude.{◌≡◌, List, [], ◌∷◌, ◌++◌, ℕ, replicate}
use Rattle.counter.specs.Counter.{stepped_bytes}

-- n bytes alike
abbrev bytes : ℕ → ℕ → List ℕ
bytes n x = replicate n x

abbrev pub P1 : Type 0
P1 = stepped_bytes (bytes 15 0x00 ++ (0x01 ∷ [])) ≡ 0x80 ∷ bytes 15 0x00

abbrev pub P2 : Type 0
P2 = stepped_bytes (bytes 15 0x00 ++ (0x04 ∷ [])) ≡ 0x80 ∷ bytes 14 0x00 ++ (0x02 ∷ [])

-- r29 is bit 5 of byte 12, r28 bit 4
abbrev pub P3 : Type 0
P3 = stepped_bytes (bytes 12 0x00 ++ (0x20 ∷ bytes 3 0x00)) ≡ 0x80 ∷ bytes 11 0x00 ++ (0x10 ∷ bytes 3 0x00)

abbrev pub P4 : Type 0
P4 = stepped_bytes (bytes 16 0xFF) ≡ 0x7F ∷ bytes 15 0xFF

abbrev pub P5 : Type 0
P5 = stepped_bytes (0x80 ∷ bytes 15 0x00) ≡ 0x40 ∷ bytes 15 0x00
