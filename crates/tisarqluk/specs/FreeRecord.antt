-- docs/RECORD.md, "A free line's record": the bytes that stand for it in a lent buffer, and the record that bytes stand for.
use Rattle.std.specs.Prelude.{Bool, cond, ◌&&◌, List, [], ◌∷◌, ◌++◌, ℕ, ◌+◌, ◌*◌, ◌/◌, ◌%◌, eqb, leb, length, get_or, take, drop}
use Rattle.line.specs.declared.record.Line.{Line}

-- 1 for true, 0 for false
abbrev pub flag : Bool → ℕ
flag b = cond b 1 0

-- bytes 0 to 3 of a record of this kind
abbrev pub settings_of : ℕ → Line → List ℕ
settings_of kind s = kind ∷ s.l ∷ s.pattern ∷ flag s.receiving ∷ []

-- bytes 36 to 40; a number of two bytes has the higher first
abbrev pub numbers_of : Line → List ℕ
numbers_of s = s.position.place ∷ s.window ∷ s.seen ∷ s.left / 256 ∷ s.left % 256 ∷ []

-- bytes 0 to 57
unfoldable pub line_bytes : ℕ → Line → List ℕ
line_bytes kind s = settings_of kind s ++ s.key ++ s.position.counter ++ numbers_of s ++ s.iv ++ (s.collected ∷ [])

-- the line that stands in bytes
unfoldable pub line_in : List ℕ → Line
line_in s = record {
  key = take 16 (drop 4 s);
  pattern = get_or s 2 0;
  l = get_or s 1 0;
  receiving = eqb (get_or s 3 0) 1;
  position = record { counter = take 16 (drop 20 s); place = get_or s 36 0 };
  window = get_or s 37 0;
  seen = get_or s 38 0;
  left = get_or s 39 0 * 256 + get_or s 40 0;
  iv = take 16 (drop 41 s);
  collected = get_or s 57 0;
}

-- a buffer with a free line's record at its start, 58 bytes of kind 70; its later bytes stay
abbrev pub stored_free : Line → List ℕ → List ℕ
stored_free g s = line_bytes 70 g ++ drop 58 s

-- whether a buffer is long enough, and its bytes stand for a free line's record
unfoldable pub holds_free : List ℕ → Bool
holds_free s = leb 58 (length s) && (eqb (get_or s 0 0) 70 && leb (get_or s 3 0) 1)
