-- What the functions inside the line tell each other. Nobody need believe this file: the public contracts cite nothing of it.
use Rattle.std.specs.Prelude.{◌≡◌, Bool, cond, not, List, [], ℕ, ◌+◌, ◌-◌, ◌*◌, ◌<◌, ◌≤◌, min, ltb, length, take, replicate}
use Rattle.mode.specs.Rule.{after, outs}
use Rattle.mode.specs.Words.{plus}
use Rattle.mode.specs.Scan.{Scan, scan}
use Rattle.bits.specs.Bits.{bits_of, digits, part, laid, wrote}
use Rattle.counter.specs.Counter.{advanced}
use Rattle.counter.specs.declared.Position.{Position}
use Rattle.line.specs.declared.record.Line.{Line}
use Rattle.line.specs.declared.search.Finding.{Finding}
use Rattle.line.specs.declared.cover.Covered.{Covered}
use Rattle.line.specs.declared.going.Going.{Going}
use Rattle.line.specs.declared.stretch.Stretch.{Stretch}
use Rattle.line.specs.View.{rule_of, view, holding}

-- what there is to find in the first n bits of b, from a window on
abbrev pub within : List ℕ → ℕ → ℕ → ℕ → ℕ → Scan
within b n window seen pattern = scan (digits 8 pattern) (digits seen window) (take n (bits_of b))

pub record Found (b : List ℕ) (n window seen pattern : ℕ) (r : Finding) : Type 0 where
  pub count : r.count ≡ (within b n window seen pattern).count
  pub left : digits r.window.seen r.window.bits ≡ (within b n window seen pattern).window
  pub match : r.found ≡ (within b n window seen pattern).found

-- ---- a stretch

-- what comes out for the bits a under the keystream bits k, and the line bits
pub record Covers (a k : List ℕ) (receiving : Bool) (n : ℕ) (r : Covered) : Type 0 where
  pub out : take n (bits_of r.out) ≡ plus a k
  pub carried : take n (bits_of r.carried) ≡ cond (not receiving) (plus a k) a

-- the position n bits on
abbrev pub moved_on : Position → ℕ → Position
moved_on p n = advanced (record { counter = p.counter; place = p.place + (n - 1) })

-- the line after the bits that the scanner took
abbrev pub scanned_to : Line → Finding → Line
scanned_to s f = record {
  key = s.key;
  pattern = s.pattern;
  l = s.l;
  receiving = s.receiving;
  position = moved_on s.position f.count;
  window = f.window.bits;
  seen = f.window.seen;
  left = cond f.found (128 * s.l) s.left;
  iv = s.iv;
  collected = s.collected;
}

-- the line after m bits of a blackout
abbrev taken : Line → ℕ → ℕ
taken s m = min m (128 - s.collected)

abbrev pub darkened_by : Line → List ℕ → ℕ → Line
darkened_by s carried m =
    cond (ltb m s.left)
    (record {
      key = s.key;
      pattern = s.pattern;
      l = s.l;
      receiving = s.receiving;
      position = moved_on s.position m;
      window = s.window;
      seen = s.seen;
      left = s.left - m;
      iv = wrote s.iv s.collected carried (taken s m);
      collected = s.collected + taken s m;
    })
    (record {
      key = s.key;
      pattern = s.pattern;
      l = s.l;
      receiving = s.receiving;
      position = record { counter = wrote s.iv s.collected carried (taken s m); place = 0 };
      window = s.window;
      seen = s.seen;
      left = 0;
      iv = replicate 16 0;
      collected = 0;
    })

-- ---- a run of n bits of the input s into the output d, from bit i on

-- bits to read and room to write, few enough, and nothing but zeros behind the bits written so far in their last byte
pub record Room (s d : List ℕ) (i n : ℕ) : Type 0 where
  pub few : i + n ≤ 524288
  pub bits : i + n ≤ 8 * length s
  pub room : i + n ≤ 8 * length d
  pub clean : laid d i [] ≡ d

-- what it gives, in the mode's words
pub record Ran (s d : List ℕ) (i n : ℕ) (g r : Going) (e : List ℕ) : Type 0 where
  pub line : r.line ≡ holding g.line (after (rule_of g.line) (view g.line) (part s i n))
  pub out : e ≡ laid d i (outs (rule_of g.line) (view g.line) (part s i n))

pub record Stretched (s d : List ℕ) (i n : ℕ) (g : Going) (r : Stretch) (e : List ℕ) : Type 0 where
  pub some : 0 < r.done
  pub most : r.done ≤ n
  pub ran : Ran s d i r.done g r.going e

-- the same from bit 0 on, for the record alone
pub record Whole (s d : List ℕ) (n : ℕ) (g r : Line) (e : List ℕ) : Type 0 where
  pub line : r ≡ holding g (after (rule_of g) (view g) (part s 0 n))
  pub out : e ≡ laid d 0 (outs (rule_of g) (view g) (part s 0 n))
