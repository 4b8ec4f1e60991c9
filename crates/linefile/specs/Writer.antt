-- A writer of line files, for the statement that the reader reads what was written (01, "Line files and the two programs").
use Rattle.std.specs.Prelude.{◌≡◌, cond, ◌⊎◌, List, [], ◌∷◌, ◌++◌, ℕ, ◌+◌, ◌-◌, ◌*◌, ◌/◌, ◌%◌, ◌≤◌, length, replicate}
use Rattle.std.proofs.lemmas.List.Edits.{sets}
use Rattle.bits.specs.Bits.{pack}
use Rattle.linefile.specs.declared.reader.Settings.{Settings}
use Rattle.linefile.specs.File.{bytes_for}

-- a 32-bit number, big-endian
abbrev pub word : ℕ → List ℕ
word n = n / 16777216 ∷ n / 65536 % 256 ∷ n / 256 % 256 ∷ n % 256 ∷ []

-- L, pattern, direction, D, key, IV
abbrev pub setting_bytes : Settings → List ℕ
setting_bytes c = c.l ∷ c.pattern ∷ cond c.receiving 1 0 ∷ c.d ∷ (c.key ++ c.iv)

-- a file of n bytes with these settings from byte b on and these bits from byte a on; whatever is neither is 0
unfoldable pub file_of : Settings → List ℕ → ℕ → ℕ → ℕ → List ℕ
file_of c r a b n =
    sets (sets (word n ++ (word (length r) ++ (word a ++ (word b ++ replicate (n - 16) 0)))) b (setting_bytes c)) a (pack (bytes_for (length r)) r)

-- what a writer keeps to: a file of at most 65,536 bytes, two areas inside it that share no byte, as an empty one does with none, settings that 3 and 4 let pass, and whole ticks
pub record Writable (c : Settings) (r : List ℕ) (a b n : ℕ) : Type 0 where
  pub short : n ≤ 65536
  pub bits_after : 16 ≤ a
  pub bits_inside : a + bytes_for (length r) ≤ n
  pub settings_after : 16 ≤ b
  pub settings_inside : b + 36 ≤ n
  pub apart : (length r ≡ 0) ⊎ ((a + bytes_for (length r) ≤ b) ⊎ (b + 36 ≤ a))
  pub l_low : 1 ≤ c.l
  pub l_high : c.l ≤ 11
  pub free_or_paced : (c.d ≡ 0) ⊎ ((length r % c.d ≡ 0) × (c.d * (c.l + 1) ≤ 128 * c.l))
  pub key_is : length c.key ≡ 16
  pub iv_is : length c.iv ≡ 16
