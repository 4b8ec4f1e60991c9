-- A line's record as the mode sees it: the generator, the settings, the state; and the record that holds a state.
use Rattle.std.specs.Prelude.{ℕ, ◌*◌, not, List, length, take}
use Rattle.mode.specs.Rule.{Rule}
use Rattle.mode.specs.Mode.{Generator, Settings, State, rule}
use Rattle.mode.specs.Blocks.{Position, blocks}
use Rattle.bits.specs.Bits.{bits_of, pack, digits, number}
use Rattle.counter.specs.Counter.{stepped_bytes}
use Rattle.aes.specs.Cipher.{aes128}
use Rattle.line.specs.declared.record.Line.{Line}

-- what a line's keystream generator is made with
pub record Box : Type 0 where
  pub key : List ℕ

abbrev pub box : Line → Box
box s = record { key = s.key }

-- AES over the counter (01, "The counter"): blocks of 128 bits, the first of them AES of the IV itself
abbrev pub aes : Box → Generator
aes b = blocks 128 (λ c. bits_of (aes128 b.key c)) stepped_bytes (pack 16)

-- 01, "Bits and settings": a pattern of 8 bits, a block of 128, a blackout of 128L
abbrev pub settings : Line → Settings
settings s = record { pattern = digits 8 s.pattern; collects = 128; lasts = 128 * s.l; sending = not s.receiving }

-- the bit rule of a line
abbrev pub rule_of : Line → Rule ℕ ℕ
rule_of s = rule (aes (box s)) (settings s)

-- the state that a record holds
abbrev pub view : Line → State (Position (List ℕ))
view s = record {
  generator = record { counter = s.position.counter; place = s.position.place };
  window = digits s.seen s.window;
  left = s.left;
  collected = take s.collected (bits_of s.iv);
}

-- the record with the settings of s that holds the state t; each of the two undoes the other on records that pass the tests for 9
abbrev pub holding : Line → State (Position (List ℕ)) → Line
holding s t = record {
  key = s.key;
  pattern = s.pattern;
  l = s.l;
  receiving = s.receiving;
  position = record { counter = t.generator.counter; place = t.generator.place };
  window = number t.window;
  seen = length t.window;
  left = t.left;
  iv = pack 16 t.collected;
  collected = length t.collected;
}
