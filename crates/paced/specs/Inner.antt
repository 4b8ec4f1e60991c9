-- What the functions inside the paced line tell each other. Nobody need believe this file: the public contracts cite nothing of it.
use Rattle.std.specs.Prelude.{◌≡◌, false, List, ◌++◌, ℕ, ◌+◌, ◌-◌, ◌*◌, ◌≤◌, length, drop}
use Rattle.mode.specs.Rule.{after, outs}
use Rattle.bits.specs.Bits.{bits_of, pack, part, laid}
use Rattle.pace.specs.Tick.{hold, width, moves, closed}
use Rattle.line.specs.declared.record.Line.{Line}
use Rattle.line.specs.View.{rule_of, view, holding}
use Rattle.line.specs.Good.{Good}
use Rattle.paced.specs.declared.record.Paced.{Paced}
use Rattle.paced.specs.Answers.{counted}
use Rattle.paced.specs.Answers.{Moved}
use Rattle.paced.specs.declared.ticking.Move.{Move}
use Rattle.paced.specs.View.{viewed, keeping, shut}
use Rattle.paced.specs.Ticking.{leaving_from, held_after}
use Rattle.paced.specs.Closing.{last_from}

-- an open record that passes the tests for 9
pub record Open (p : Paced) : Type 0 where
  pub good : Good p.line
  pub some : 1 ≤ p.d
  pub slow : p.d * (p.line.l + 1) ≤ 128 * p.line.l
  pub is_open : p.closed ≡ false
  pub together : p.waiting + p.ready + p.fillers ≡ hold p.d
  pub waiting_fits : p.waiting ≤ hold p.d - p.d
  pub queue_is : p.queue ≡ pack 60 (part p.queue 0 (p.ready + p.waiting))

-- what a tick that is not refused answers
abbrev pub ticked_to : Paced → List ℕ → Moved
ticked_to p input = record {
  answer = counted (length (leaving_from p)) (length (held_after p input).waiting);
  line = keeping p (held_after p input);
}

abbrev pub closed_to : Paced → Moved
closed_to p = record {
  answer = counted (length (last_from p)) 0;
  line = shut (keeping p (closed (rule_of p.line) (viewed p)));
}

-- what bits passed on in closing make of the line and of the output
pub record PassedOn (s : Line) (q : List ℕ) (f n : ℕ) (d : List ℕ) (r : Line) (e : List ℕ) : Type 0 where
  pub line : r ≡ holding s (after (rule_of s) (view s) (part q f n))
  pub out : e ≡ laid d f (outs (rule_of s) (view s) (part q f n))

-- what a move makes of the line and of the queue
pub record Passes (s : Line) (q : List ℕ) (at n : ℕ) (r : Move) : Type 0 where
  pub count : r.count ≡ moves (width s.left) n
  pub line : r.line ≡ holding s (after (rule_of s) (view s) (part q at r.count))
  pub queue : r.queue ≡ pack 60 (part q 0 at ++ (outs (rule_of s) (view s) (part q at r.count) ++ drop (at + r.count) (bits_of q)))
