-- What the functions that run a paced file tell each other. Nobody need believe this file: the public contracts cite nothing of it.
use Rattle.std.specs.Prelude.{◌≡◌, false, List, [], ℕ, ◌+◌, ◌*◌, ◌%◌, ◌≤◌, length}
use Rattle.bits.specs.Bits.{part, laid}
use Rattle.pace.specs.Tick.{ticked}
use Rattle.line.specs.View.{rule_of}
use Rattle.paced.specs.View.{viewed, keeping}
use Rattle.paced.specs.Tests.{faulty}
use Rattle.paced.specs.Ticking.{leaving_from}
use Rattle.paced.specs.Closing.{last_from}
use Rattle.linefile.specs.declared.reader.Settings.{Settings}
use Rattle.linefile.specs.declared.reader.Contents.{Contents}
use Rattle.linefile.specs.declared.running.Going.{Going}

-- settings that 3 lets pass for a free line, and bits that are there, with room for as many
pub record Freed (c : Contents) (s o : ℕ) : Type 0 where
  pub l_low : 1 ≤ c.settings.l
  pub l_high : c.settings.l ≤ 11
  pub there : 8 * c.start + c.count ≤ 8 * s
  pub few : c.count ≤ 524288
  pub room : c.count ≤ 8 * o

-- the bits r can be laid after the first `at` bits of o
pub record Roomy (o : List ℕ) (at : ℕ) (r : List ℕ) : Type 0 where
  pub few : at + length r ≤ 524288
  pub room : at + length r ≤ 8 * length o
  pub clean : laid o at [] ≡ o

-- the next d bits of a file s can be given to a line, and there is room for what leaves
pub record Ticks (g : Going) (s : List ℕ) (from d : ℕ) (o : List ℕ) : Type 0 where
  pub passes : faulty g.line ≡ false
  pub is_open : g.line.closed ≡ false
  pub rate : g.line.d ≡ d
  pub low : d ≤ 128
  pub there : from + d ≤ 8 * length s
  pub writes : Roomy o g.at (leaving_from g.line)

abbrev pub ticked_on : Going → List ℕ → ℕ → Going
ticked_on g s from = record {
  line = keeping g.line (ticked (rule_of g.line.line) g.line.d (viewed g.line) (part s from g.line.d));
  at = g.at + length (leaving_from g.line);
}

-- a line can be closed, and there is room for what it writes then
pub record Closes (g : Going) (o : List ℕ) : Type 0 where
  pub passes : faulty g.line ≡ false
  pub is_open : g.line.closed ≡ false
  pub holds_few : g.line.waiting + g.line.ready ≤ 480
  pub writes : Roomy o g.at (last_from g.line)

-- settings that 3 and 4 let pass for a paced line, and whole ticks of bits that are there, with room for as many
pub record Paceable (c : Settings) (s : ℕ) (from n o : ℕ) : Type 0 where
  pub l_low : 1 ≤ c.l
  pub l_high : c.l ≤ 11
  pub some : 1 ≤ c.d
  pub slow : c.d * (c.l + 1) ≤ 128 * c.l
  pub whole : n % c.d ≡ 0
  pub there : from + n ≤ 8 * s
  pub few : from + n ≤ 524288
  pub room : n ≤ 8 * o
