-- The areas of a file that is not refused lie inside it: what is malformed otherwise was tried.
use Rattle.std.proofs.Common.{◌≡◌, false, List, ℕ, ◌+◌, ◌*◌, ◌≤◌, Ok, ltb, length, arith}
use Rattle.refusal.proofs.Answers.{given_done}
use Rattle.line.proofs.Records.{neither}
use Rattle.linefile.specs.declared.reader.Contents.{Contents}
use Rattle.linefile.specs.File.{stated_length, count_of, bits_at, settings_at, bytes_for, outside, overlapping, direction_of, d_of, l_of, ragged, malformed, blackout_refused, rate_refused, read_answer, settings_of, contents}

-- what is known of a file that is not malformed
pub record Formed (s : List ℕ) : Type 0 where
  pub short : length s ≤ 65536
  pub stated : stated_length s ≡ length s
  pub long : 16 ≤ length s
  pub bits_after : 16 ≤ bits_at s
  pub bits_inside : bits_at s + bytes_for (count_of s) ≤ length s
  pub settings_after : 16 ≤ settings_at s
  pub settings_inside : settings_at s + 36 ≤ length s
  pub apart : overlapping (bits_at s) (bytes_for (count_of s)) (settings_at s) 36 ≡ false
  pub direction_low : direction_of s ≤ 1
  pub whole_ticks : ragged (count_of s) (d_of s) ≡ false

pub formed : (s : List ℕ) → malformed s ≡ false → Formed s
unfolding malformed
formed s e =
    let p7 = neither _ (ragged (count_of s) (d_of s)) e in
    let p6 = neither _ (ltb 1 (direction_of s)) p7.0 in
    let p5 = neither _ (overlapping (bits_at s) (bytes_for (count_of s)) (settings_at s) 36) p6.0 in
    let p4 = neither _ (outside (settings_at s) 36 (length s)) p5.0 in
    let p3 = neither _ (outside (bits_at s) (bytes_for (count_of s)) (length s)) p4.0 in
    record {
      short = grind (arith, p3.0);
      stated = grind (arith, p3.0);
      long = grind (arith, p3.0);
      bits_after = grind (arith, p3.1);
      bits_inside = grind (arith, p3.1);
      settings_after = grind (arith, p4.1);
      settings_inside = grind (arith, p4.1);
      apart = p5.1;
      direction_low = grind (arith, p6.1);
      whole_ticks = p7.1;
    }

-- a file that is not refused passed every test
pub record Passed (s : List ℕ) : Type 0 where
  pub is_formed : malformed s ≡ false
  pub blackout : blackout_refused (l_of s) ≡ false
  pub rate : rate_refused (l_of s) (d_of s) ≡ false

pub passed : (s : List ℕ) → read_answer s ≡ Ok tt → Passed s
unfolding read_answer
passed s e = record { is_formed = grind arith; blackout = grind arith; rate = grind arith }

-- the areas of a file that is not refused lie inside it
pub areas_inside : (s : List ℕ) → read_answer s ≡ Ok tt → (bits_at s + bytes_for (count_of s) ≤ length s) × (settings_at s + 36 ≤ length s)
areas_inside s e = let f = formed s (passed s e).is_formed in (f.bits_inside, f.settings_inside)

pub settings_inside : (s : List ℕ) → read_answer s ≡ Ok tt → settings_at s + 36 ≤ length s
settings_inside s e = (areas_inside s e).1

-- its bits are few, and lie inside it
pub bits_inside : (s : List ℕ) → read_answer s ≡ Ok tt → (8 * bits_at s + count_of s ≤ 8 * length s) × (8 * bits_at s + count_of s ≤ 524288)
bits_inside s e = let f = formed s (passed s e).is_formed in (omega (arith, f.bits_inside), omega (arith, f.bits_inside, f.short))

-- what was read of a file that is not refused is what the file says
pub done : (s : List ℕ) (c : Contents) → contents s ≡ Ok c → (read_answer s ≡ Ok tt) × (record { settings = settings_of s; count = count_of s; start = bits_at s } ≡ c)
unfolding contents
done s c e = given_done (read_answer s) (record { settings = settings_of s; count = count_of s; start = bits_at s }) c e
