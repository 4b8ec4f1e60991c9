-- A paced line's record as the tick sees it: what it holds; and the record that holds so much.
use Rattle.std.specs.Prelude.{true, ◌++◌, length}
use Rattle.bits.specs.Bits.{pack, part}
use Rattle.pace.specs.Tick.{Held}
use Rattle.line.specs.View.{rule_of, view, holding}
use Rattle.paced.specs.declared.record.Paced.{Paced}

-- the bits of the queue, first the ready ones and then the waiting ones
abbrev pub viewed : (p : Paced) → Held (rule_of p.line)
viewed p = record {
  state = view p.line;
  ready = part p.queue 0 p.ready;
  waiting = part p.queue p.ready p.waiting;
  fillers = p.fillers;
}

-- the record with the settings of p that holds h; each of the two undoes the other on records that pass the tests for 9
abbrev pub keeping : (p : Paced) → Held (rule_of p.line) → Paced
keeping p h = record {
  line = holding p.line h.state;
  d = p.d;
  closed = p.closed;
  ready = length h.ready;
  waiting = length h.waiting;
  fillers = h.fillers;
  queue = pack 60 (h.ready ++ h.waiting);
}

-- the record, marked as closed
abbrev pub shut : Paced → Paced
shut p = record {
  line = p.line;
  d = p.d;
  closed = true;
  ready = p.ready;
  waiting = p.waiting;
  fillers = p.fillers;
  queue = p.queue;
}
