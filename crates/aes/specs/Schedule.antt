-- The round keys as this crate keeps them: each laid out as the state is, its four words being the columns (FIPS 197, 3.5), so that a row is
-- added to a row. Assumes nothing.
use Rattle.std.specs.Prelude.{ℕ, List, map}
use Rattle.aes.specs.State.{State, columns}
use Rattle.aes.specs.KeyExpansion.{key_expansion}
use Rattle.aes.specs.Cipher.{cipher}

-- the round keys of a key, kept so
unfoldable pub schedule : List ℕ → List State
schedule key = map columns (key_expansion key)

-- the cipher by round keys that are kept so
unfoldable pub cipher_by : List State → List ℕ → List ℕ
cipher_by ks block = cipher (map columns ks) block
