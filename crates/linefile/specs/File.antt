-- A line file (01, "Line files and the two programs"): what it says, or the number that it is refused with. Every list of bytes is one or the other.
use Rattle.std.specs.Prelude.{Result, Ok, Err, Bool, not, cond, ◌&&◌, ◌||◌, List, ℕ, ◌+◌, ◌*◌, ◌/◌, ◌%◌, eqb, ltb, length, get_or, take, drop}
use Rattle.refusal.specs.declared.Refusal.{Refusal}
use Rattle.refusal.specs.Numbers.{Answer, given}
use Rattle.bits.specs.Bits.{part}
use Rattle.linefile.specs.declared.reader.Settings.{Settings}
use Rattle.linefile.specs.declared.reader.Contents.{Contents}

-- ---- the four numbers that a file starts with

-- the 32-bit number at a place, big-endian
abbrev pub number_at : List ℕ → ℕ → ℕ
number_at s i = ((get_or s i 0 * 256 + get_or s (i + 1) 0) * 256 + get_or s (i + 2) 0) * 256 + get_or s (i + 3) 0

abbrev pub stated_length : List ℕ → ℕ
stated_length s = number_at s 0

abbrev pub count_of : List ℕ → ℕ
count_of s = number_at s 4

abbrev pub bits_at : List ℕ → ℕ
bits_at s = number_at s 8

abbrev pub settings_at : List ℕ → ℕ
settings_at s = number_at s 12

-- ---- the two areas

-- the bytes that so many bits take
abbrev pub bytes_for : ℕ → ℕ
bytes_for n = (n + 7) / 8

-- an area of so many bytes starts before 16, or does not lie inside a file of this length
abbrev pub outside : ℕ → ℕ → ℕ → Bool
outside start bytes length = ltb start 16 || ltb length (start + bytes)

-- two areas overlap; an empty one overlaps nothing
abbrev pub overlapping : ℕ → ℕ → ℕ → ℕ → Bool
overlapping a n b m = ltb 0 n && ltb 0 m && ltb a (b + m) && ltb b (a + n)

-- the 36 bytes of settings: L, pattern, direction, D, key, IV
abbrev pub setting_at : List ℕ → ℕ → ℕ
setting_at s k = get_or s (settings_at s + k) 0

abbrev pub l_of : List ℕ → ℕ
l_of s = get_or s (settings_at s) 0

abbrev pub pattern_of : List ℕ → ℕ
pattern_of s = setting_at s 1

abbrev pub direction_of : List ℕ → ℕ
direction_of s = setting_at s 2

abbrev pub d_of : List ℕ → ℕ
d_of s = setting_at s 3

abbrev pub settings_of : List ℕ → Settings
settings_of s = record {
  l = l_of s;
  pattern = pattern_of s;
  receiving = eqb (direction_of s) 1;
  d = d_of s;
  key = take 16 (drop (settings_at s + 4) s);
  iv = take 16 (drop (settings_at s + 20) s);
}

-- ---- what is tried

-- d is not 0, and the bit count is no multiple of it
abbrev pub ragged : ℕ → ℕ → Bool
ragged count d = not (eqb d 0) && not (eqb (count % d) 0)

-- 10: more than 65,536 bytes; length not the actual one or under 16; an area starting before 16 or not inside the file; areas overlapping; direction above 1;
-- D not 0 and the bit count no multiple of it
unfoldable pub malformed : List ℕ → Bool
malformed s =
    ltb 65536 (length s)
    || not (eqb (stated_length s) (length s))
    || ltb (length s) 16
    || outside (bits_at s) (bytes_for (count_of s)) (length s)
    || outside (settings_at s) 36 (length s)
    || overlapping (bits_at s) (bytes_for (count_of s)) (settings_at s) 36
    || ltb 1 (direction_of s)
    || ragged (count_of s) (d_of s)

-- 3: L is 0 or above 11
abbrev pub blackout_refused : ℕ → Bool
blackout_refused l = ltb l 1 || ltb 11 l

-- 4: D(L + 1) > 128L, where D is not 0, which means a free line
abbrev pub rate_refused : ℕ → ℕ → Bool
rate_refused l d = not (eqb d 0) && ltb (128 * l) (d * (l + 1))

unfoldable pub read_answer : List ℕ → Answer
read_answer s =
    cond (malformed s) (Err (Refusal.File))
    (cond (blackout_refused (l_of s)) (Err (Refusal.Blackout))
    (cond (rate_refused (l_of s) (d_of s)) (Err (Refusal.Rate)) (Ok tt)))

-- ---- what a file says

-- its bits
abbrev pub bits_of_file : List ℕ → List ℕ
bits_of_file s = part s (8 * bits_at s) (count_of s)

-- its settings, the number of its bits and the byte at which they start, or why it is refused
unfoldable pub contents : List ℕ → Result Contents Refusal
contents s = given (read_answer s) (record { settings = settings_of s; count = count_of s; start = bits_at s })
