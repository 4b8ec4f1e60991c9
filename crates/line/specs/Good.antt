-- What the functions inside the line know of a line that passes the tests for 9. Nobody need believe this file: the public contracts cite nothing of it.
use Rattle.std.specs.Prelude.{◌≡◌, ◌*◌, ◌^◌, ◌<◌, ◌≤◌, take}
use Rattle.bits.specs.Bits.{bits_of, pack}
use Rattle.line.specs.declared.record.Line.{Line}
use Rattle.line.specs.Tests.{due_in, most_in}

-- a record that passes the tests for 9
pub record Good (s : Line) : Type 0 where
  pub l_low : 1 ≤ s.l
  pub l_high : s.l ≤ 11
  pub place_in : s.position.place < 128
  pub left_in : s.left ≤ 128 * s.l
  pub collected_is : s.collected ≡ due_in s
  pub seen_in : s.seen ≤ most_in s
  pub pattern_in : s.pattern < 256
  pub window_in : s.window < 2 ^ s.seen
  pub iv_is : s.iv ≡ pack 16 (take s.collected (bits_of s.iv))
