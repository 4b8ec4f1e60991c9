-- What `syncs` says of a line file (01, "Line files and the two programs").
use Rattle.std.specs.Prelude.{Result, true, List, ℕ, ◌*◌, length}
use Rattle.std.proofs.lemmas.List.Edits.{sets}
use Rattle.refusal.specs.declared.Refusal.{Refusal}
use Rattle.refusal.specs.Numbers.{outcome, given}
use Rattle.bits.specs.Bits.{digits}
use Rattle.mode.specs.Mode.{Settings}
use Rattle.mode.specs.Ends.{pattern_ends, under_new}
use Rattle.linefile.specs.declared.scanning.Syncs.{Syncs}
use Rattle.linefile.specs.File.{count_of, l_of, pattern_of, bits_of_file, read_answer}

-- a pattern of 8 bits, 128 IV bits, a blackout of 128L; the bits are taken as line bits, so that the direction says nothing
abbrev pub scanned : ℕ → ℕ → Settings
scanned pattern l = record { pattern = digits 8 pattern; collects = 128; lasts = 128 * l; sending = true }

-- the numbers of the last bits of the patterns in a file, counted from 1
abbrev pub ends_in : List ℕ → List ℕ
ends_in s = pattern_ends (scanned (pattern_of s) (l_of s)) (bits_of_file s)

-- the bit count, L and the number of patterns, or why the file is refused
abbrev pub synced : List ℕ → Result Syncs Refusal
synced s = given (read_answer s) (record { bits = count_of s; l = l_of s; found = length (ends_in s) })

-- the ends stand at the start of a lent list, as many as it holds
abbrev pub syncs_left : List ℕ → List ℕ → List ℕ
syncs_left s d = outcome (read_answer s) (sets d 0 (ends_in s)) d

-- the number of the first bit under the new counter, for a pattern that ends at bit e
abbrev pub first_under_new : ℕ → ℕ → ℕ
first_under_new l e = under_new (scanned 0 l) e
