-- docs/RECORD.md, "A paced line's record": the bytes that stand for it in a lent buffer, and the record that bytes stand for.
use Rattle.std.specs.Prelude.{Bool, ◌&&◌, List, [], ◌∷◌, ◌++◌, ℕ, ◌+◌, ◌*◌, ◌/◌, ◌%◌, eqb, leb, length, get_or, take, drop}
use Rattle.paced.specs.declared.record.Paced.{Paced}
use Rattle.tisarqluk.specs.FreeRecord.{flag, line_bytes, line_in}

-- bytes 58 to 65
abbrev pub counts_of : Paced → List ℕ
counts_of p = p.d ∷ flag p.closed ∷ p.ready / 256 ∷ p.ready % 256 ∷ p.waiting / 256 ∷ p.waiting % 256 ∷ p.fillers / 256 ∷ p.fillers % 256 ∷ []

-- its 126 bytes, of kind 80: first those of its line
unfoldable pub paced_bytes : Paced → List ℕ
paced_bytes p = line_bytes 80 p.line ++ counts_of p ++ p.queue

-- the paced line that stands in bytes
unfoldable pub paced_in : List ℕ → Paced
paced_in s = record {
  line = line_in s;
  d = get_or s 58 0;
  closed = eqb (get_or s 59 0) 1;
  ready = get_or s 60 0 * 256 + get_or s 61 0;
  waiting = get_or s 62 0 * 256 + get_or s 63 0;
  fillers = get_or s 64 0 * 256 + get_or s 65 0;
  queue = take 60 (drop 66 s);
}

-- a buffer with a paced line's record at its start; its later bytes stay
abbrev pub stored_paced : Paced → List ℕ → List ℕ
stored_paced p s = paced_bytes p ++ drop 126 s

-- whether a buffer is long enough, and its bytes stand for a paced line's record
unfoldable pub holds_paced : List ℕ → Bool
holds_paced s = leb 126 (length s) && ((eqb (get_or s 0 0) 80 && leb (get_or s 3 0) 1) && leb (get_or s 59 0) 1)
