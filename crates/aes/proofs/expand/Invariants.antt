use mathlib.Core.Path.{◌≡◌}
use mathlib.Core.List.{◌++◌}
use lib.ListN.{take, drop}
use Rattle.aes.specs.KeyExpansion.{round_key, rcon}
use Rattle.aes.proofs.Schedule.{later}
use Rattle.aes.proofs.expand.Given as goal

abbrev pub invariant-loop-k : goal.invariant-loop-k
invariant-loop-k l = record {
  keys : l.k-items ≡ take l.k-index (later l.initial.w) ++ drop l.k-index l.initial.k-items;
  word : l.w ≡ round_key l.initial.w l.k-index;
  constant : l.rc ≡ rcon l.k-index;
}
