-- A tick on the packed queue is the tick: the ready bits that stay, the waiting bits and the input stand one after the other in the queue, and the bits that pass
-- are the first of the last two.
use mathlib.Core.Path.{◌≡◌, sym, ap, ◌∙◌}
use mathlib.Core.List.{List, ◌++◌, append_assoc}
use Prim.Native.Nat.{ℕ, ◌+◌, ◌-◌, ◌*◌, ◌≤◌}
use native.Mathlib.Omega.{arith}
use lib.ListN.{length, take, drop, length-append, length-drop}
use lib.Seq.{take_at, drop_at, drop-drop, length-take-le}
use Rattle.mode.specs.Rule.{Rule, after, outs}
use Rattle.mode.proofs.Runs.{length_outs}
use Rattle.bits.specs.Bits.{bits_of, pack, part}
use Rattle.bits.proofs.Lists.{Small, small_append}
use Rattle.bits.proofs.Packed.{pack_past}
use Rattle.bits.proofs.Parts.{small_part, length_part, take_part, part_drop, part_split, part_pack}
use Rattle.pace.specs.Tick.{Held, width, moves, moving}
use Rattle.pace.proofs.Moves.{moves_what_waits}
use Rattle.pace.proofs.Kept.{ticked_is}
use Rattle.line.specs.View.{rule_of, view, holding}
use Rattle.paced.specs.declared.record.Paced.{Paced}
use Rattle.paced.specs.Answers.{counted}
use Rattle.paced.specs.declared.ticking.Move.{Move}
use Rattle.paced.specs.View.{viewed, keeping}
use Rattle.paced.specs.Ticking.{leaving_from}
use Rattle.paced.specs.Inner.{Open, Passes, ticked_to}
use Rattle.paced.proofs.Records.{length_queue, leaving_in, counts_in, held_in}

module _ (p : Paced) (o : Open p) where
  abbrev pub ready_bits : List ℕ
  ready_bits = part p.queue 0 p.ready

  abbrev pub waiting_bits : List ℕ
  waiting_bits = part p.queue p.ready p.waiting

  pub length_ready_bits : length ready_bits ≡ p.ready
  length_ready_bits = length_part p.queue 0 p.ready (omega (arith, length_queue p o, counts_in p o))

  pub length_waiting_bits : length waiting_bits ≡ p.waiting
  length_waiting_bits = length_part p.queue p.ready p.waiting (omega (arith, length_queue p o, counts_in p o))

  -- the bits that leave are the queue's first
  pub leaving_bits : leaving_from p ≡ part p.queue 0 (p.d - p.fillers)
  leaving_bits = take_part p.queue 0 p.ready (p.d - p.fillers) (leaving_in p o)

  pub length_leaving : length (leaving_from p) ≡ p.d - p.fillers
  length_leaving = length-take-le (p.d - p.fillers) ready_bits (omega (arith, leaving_in p o, length_ready_bits))

  module _ (input : List ℕ) (more : p.d ≤ 8 * length input) where
    abbrev joining : List ℕ
    joining = waiting_bits ++ part input 0 p.d

    length_joining : length joining ≡ p.waiting + p.d
    length_joining =
        length-append waiting_bits (part input 0 p.d) ∙ (λ i. length_waiting_bits i + length_part input 0 p.d (omega arith) i)

    module _ (r k : ℕ) (re : r ≡ p.d - p.fillers) (ke : k ≡ p.ready - r) (q : List ℕ) (qe : q ≡ pack 60 (part p.queue r (k + p.waiting) ++ part input 0 p.d))
        (m : Move) (ps : Passes p.line q k (p.waiting + p.d) m) where
      abbrev R : Rule ℕ ℕ
      R = rule_of p.line

      abbrev stays : List ℕ
      stays = part p.queue r k

      all_ready : r + k ≡ p.ready
      all_ready = omega (arith, leaving_in p o, re, ke)

      stays_is : drop (p.d - p.fillers) ready_bits ≡ stays
      stays_is = (λ i. drop (sym re i) (part p.queue 0 (sym all_ready i))) ∙ part_drop p.queue r k

      length_stays : length stays ≡ k
      length_stays = length_part p.queue r k (omega (arith, length_queue p o, all_ready, counts_in p o))

      abbrev X : List ℕ
      X = stays ++ joining

      queue_joined : q ≡ pack 60 X
      queue_joined =
          qe
          ∙ ap (λ (l : List ℕ). pack 60 (l ++ part input 0 p.d)) (part_split p.queue r k p.waiting ∙ ap (λ (n : ℕ). stays ++ part p.queue n p.waiting) all_ready)
          ∙ ap (pack 60) (append_assoc stays waiting_bits (part input 0 p.d))

      small_x : Small X
      small_x =
          small_append stays joining (small_part p.queue r k)
          (small_append waiting_bits (part input 0 p.d) (small_part p.queue p.ready p.waiting) (small_part input 0 p.d))

      length_X : length X ≡ k + (p.waiting + p.d)
      length_X = length-append stays joining ∙ (λ i. length_stays i + length_joining i)

      few_x : length X ≤ 8 * 60
      few_x = omega (arith, length_X, held_in p o, re, ke)

      -- how many pass
      abbrev c : ℕ
      c = moving R (viewed p) (part input 0 p.d)

      count_is : m.count ≡ c
      count_is = ps.count ∙ ap (moves (width p.line.left)) (sym length_joining)

      count_in : c ≤ length joining
      count_in = moves_what_waits R (viewed p) (part input 0 p.d)

      abbrev out : List ℕ
      out = outs R (view p.line) (take c joining)

      passes_is : part q k m.count ≡ take c joining
      passes_is =
          (λ i. part (queue_joined i) k (count_is i))
          ∙ part_pack 60 X k c small_x few_x (omega (arith, length_X, count_in, length_joining))
          ∙ ap (take c) (drop_at stays joining k length_stays)

      front_is : part q 0 k ≡ stays
      front_is = (λ i. part (queue_joined i) 0 k) ∙ part_pack 60 X 0 k small_x few_x (omega (arith, length_X)) ∙ take_at stays joining k length_stays

      line_is : m.line ≡ holding p.line (after R (view p.line) (take c joining))
      line_is = ps.line ∙ ap (λ (l : List ℕ). holding p.line (after R (view p.line) l)) passes_is

      queue_is : m.queue ≡ pack 60 ((drop (p.d - p.fillers) ready_bits ++ out) ++ drop c joining)
      queue_is =
          ps.queue
          ∙ (λ i. pack 60 (front_is i ++ (outs R (view p.line) (passes_is i) ++ drop (k + count_is i) (bits_of (queue_joined i)))))
          ∙ ap (pack 60) (sym (append_assoc stays out (drop (k + c) (bits_of (pack 60 X)))))
          ∙ pack_past 60 (stays ++ out) X (k + c) small_x few_x
          ∙ ap (λ (l : List ℕ). pack 60 ((stays ++ out) ++ l)) (sym (drop-drop c k X) ∙ ap (drop c) (drop_at stays joining k length_stays))
          ∙ ap (λ (l : List ℕ). pack 60 ((l ++ out) ++ drop c joining)) (sym stays_is)

      ready_is : k + m.count ≡ length (drop (p.d - p.fillers) ready_bits ++ out)
      ready_is =
          let a : length out ≡ c = length_outs R (view p.line) (take c joining) ∙ length-take-le c joining count_in in
          sym (length-append (drop (p.d - p.fillers) ready_bits) out ∙ (λ i. (ap length stays_is ∙ length_stays) i + (a ∙ sym count_is) i))

      waiting_is : p.waiting + p.d - m.count ≡ length (drop c joining)
      waiting_is = sym (length-drop c joining ∙ (λ i. length_joining i - sym count_is i))

      pub tick_is : (still ready fillers : ℕ) → still ≡ p.waiting + p.d - m.count → ready ≡ k + m.count → fillers ≡ p.fillers - p.d
          → record {
            answer = counted r still;
            line = record { line = m.line; d = p.d; closed = p.closed; ready = ready; waiting = still; fillers = fillers; queue = m.queue };
          }
          ≡ ticked_to p input
      tick_is still ready fillers es er ef =
          (λ i. record {
            answer = counted ((re ∙ sym length_leaving) i) ((es ∙ waiting_is) i);
            line = record {
              line = line_is i;
              d = p.d;
              closed = p.closed;
              ready = (er ∙ ready_is) i;
              waiting = (es ∙ waiting_is) i;
              fillers = ef i;
              queue = queue_is i;
            };
          })
          ∙ ap (λ (h : Held R). record { answer = counted (length (leaving_from p)) (length h.waiting); line = keeping p h }) (sym (ticked_is R p.d (viewed p) (part input 0 p.d)))
