-- Runs join: what one run of bits and then another give is what the run of all of them gives, since the mode's runs join and laid bits are laid on.
use mathlib.Core.Path.{◌≡◌, refl, sym, ap, subst, ◌∙◌}
use mathlib.Core.List.{List, [], ◌∷◌, ◌++◌, append-nil}
use Prim.Native.Nat.{ℕ, zero, suc, ◌+◌, ◌-◌, ◌*◌, ◌≤◌}
use native.Mathlib.Omega.{arith}
use lib.ListN.{length}
use Rattle.mode.specs.Rule.{after, outs}
use Rattle.mode.specs.Mode.{Generator, Settings, State, rule}
use Rattle.mode.specs.Blocks.{Position}
use Rattle.mode.proofs.Runs.{after_append, outs_append, length_outs}
use Rattle.bits.specs.Bits.{part, laid}
use Rattle.bits.proofs.Lists.{Small}
use Rattle.bits.proofs.Parts.{small_part, length_part, part_none, part_split}
use Rattle.bits.proofs.Laid.{laid_laid, length_laid}
use Rattle.aes.specs.Cipher.{aes128}
use Rattle.line.specs.declared.record.Line.{Line}
use Rattle.line.specs.declared.going.Going.{Going}
use Rattle.line.specs.View.{rule_of, view, holding}
use Rattle.line.specs.Good.{Good}
use Rattle.line.specs.Inner.{Room, Ran}
use Rattle.line.proofs.Records.{bits_from_small, holds, view_ran}

pub small_outs : (G : Generator) (S : Settings) (t : State G.State) (bs : List ℕ) → Small (outs (rule G S) t bs)
small_outs G S t [] i = omega arith
small_outs G S t (b ∷ r) zero = omega arith
small_outs G S t (b ∷ r) (suc i) = small_outs G S ((rule G S).next t b) r i

module _ (s d : List ℕ) (f : ℕ) (g : Going) where
  abbrev made : ℕ → List ℕ
  made k = outs (rule_of g.line) (view g.line) (part s f k)

  length_made : (k : ℕ) → f + k ≤ 8 * length s → length (made k) ≡ k
  length_made k h = length_outs (rule_of g.line) (view g.line) (part s f k) ∙ length_part s f k h

  module _ (k : ℕ) (h : Going) (e : List ℕ) (a : Ran s d f k g h e) (fit : f + k ≤ 8 * length s) (room : f + k ≤ 8 * length d) where
    pub same_length : length e ≡ length d
    same_length = ap length a.out ∙ length_laid d f (made k) (rw (length_made k fit) room)

    laid_on : (b : List ℕ) → laid e (f + k) b ≡ laid d f (made k ++ b)
    laid_on b =
        (λ i. laid (a.out i) (f + sym (length_made k fit) i) b)
        ∙ laid_laid d f (made k) b (small_outs _ _ (view g.line) (part s f k)) (omega arith)

    pub clean_on : laid e (f + k) [] ≡ e
    clean_on = laid_on [] ∙ ap (laid d f) (append-nil (made k)) ∙ sym a.out

    -- the run of all
    pub ran_on : (m : ℕ) (r : Going) (e' : List ℕ) → Ran s e (f + k) m h r e' → Ran s d f (k + m) g r e'
    ran_on m r e' b =
        let R = rule_of g.line in
        let t : State (Position (List ℕ)) = after R (view g.line) (part s f k) in
        let p : List ℕ = part s (f + k) m in
        let seen : view (holding g.line t) ≡ t = view_ran g.line g.good (part s f k) (bits_from_small (part s f k) (small_part s f k)) in
        let all : part s f (k + m) ≡ part s f k ++ p = part_split s f k m in
        record {
          line = b.line
              ∙ ap (λ (u : Line). holding u (after (rule_of u) (view u) p)) a.line
              ∙ ap (λ (u : State (Position (List ℕ))). holding g.line (after R u p)) seen
              ∙ ap (holding g.line) (sym (after_append R (view g.line) (part s f k) p) ∙ ap (after R (view g.line)) (sym all));
          out = b.out
              ∙ laid_on (outs (rule_of h.line) (view h.line) p)
              ∙ ap (λ (u : List ℕ). laid d f (made k ++ u))
              (ap (λ (u : Line). outs (rule_of u) (view u) p) a.line ∙ ap (λ (u : State (Position (List ℕ))). outs R u p) seen)
              ∙ ap (laid d f) (sym (outs_append R (view g.line) (part s f k) p) ∙ ap (outs R (view g.line)) (sym all));
        }

-- no bits yet
pub ran_none : (s d : List ℕ) (f k : ℕ) (g : Going) → k ≡ 0 → laid d f [] ≡ d → Ran s d f k g g d
ran_none s d f k g z clean =
    let e : [] ≡ part s f k = sym (part_none s f k z) in
    record {
      line = sym (holds g.line g.good) ∙ ap (λ (b : List ℕ). holding g.line (after (rule_of g.line) (view g.line) b)) e;
      out = sym clean ∙ ap (λ (b : List ℕ). laid d f (outs (rule_of g.line) (view g.line) b)) e;
    }

-- a line with the keystream block of its counter
abbrev pub going : (s : Line) → Good s → Going
going s g = record { line = s; block = aes128 s.key s.position.counter; good = g; block_is = refl }

-- in the middle of a run of n bits of s into d from bit f on: i is the next bit, h the line with its block, e the output
pub record Along (s d : List ℕ) (f n : ℕ) (g : Going) (end : ℕ) (e : List ℕ) (h : Going) (i : ℕ) : Type 0 where
  pub whole : end ≡ f + n
  pub low : f ≤ i
  pub high : i ≤ end
  pub room : Room s d f n
  pub ran : Ran s d f (i - f) g h e

pub start : (s d : List ℕ) (f n : ℕ) (g : Going) (end : ℕ) → end ≡ f + n → Room s d f n → Along s d f n g end d g f
start s d f n g end w room = record {
  whole = w;
  low = omega arith;
  high = omega arith;
  room = room;
  ran = ran_none s d f (f - f) g (omega arith) room.clean;
}

module _ (s d : List ℕ) (f n : ℕ) (g : Going) (end : ℕ) (e : List ℕ) (h : Going) (i : ℕ) (a : Along s d f n g end e h i) where
  here : f + (i - f) ≡ i
  here = omega (arith, a.low)

  fit : f + (i - f) ≤ 8 * length s
  fit = omega (arith, a.low, a.high, a.whole, a.room.bits)

  roomy : f + (i - f) ≤ 8 * length d
  roomy = omega (arith, a.low, a.high, a.whole, a.room.room)

  pub same : length e ≡ length d
  same = same_length s d f g (i - f) h e a.ran fit roomy

  pub room_on : Room s e i (end - i)
  room_on = record {
    few = omega (arith, a.whole, a.high, a.room.few);
    bits = omega (arith, a.whole, a.high, a.room.bits);
    room = omega (arith, a.whole, a.high, same, a.room.room);
    clean = subst (λ (k : ℕ). laid e k [] ≡ e) here (clean_on s d f g (i - f) h e a.ran fit roomy);
  }

  joined : (k : ℕ) (r : Going) (e' : List ℕ) → Ran s e i k h r e' → Ran s d f (i - f + k) g r e'
  joined k r e' q = ran_on s d f g (i - f) h e a.ran fit roomy k r e' (subst (λ (j : ℕ). Ran s e j k h r e') (sym here) q)

  -- k bits on
  pub ahead : (k j : ℕ) (r : Going) (e' : List ℕ) → j ≡ i + k → j ≤ end → Ran s e i k h r e' → Along s d f n g end e' r j
  ahead k j r e' is le q =
      let m : i - f + k ≡ j - f = omega (arith, a.low, is) in
      record {
        whole = a.whole;
        low = omega (arith, a.low, is);
        high = le;
        room = a.room;
        ran = subst (λ (m : ℕ). Ran s d f m g r e') m (joined k r e' q);
      }

  pub stop : end ≤ i → Ran s d f n g h e
  stop le = let m : i - f ≡ n = omega (arith, a.whole, a.high, a.low) in subst (λ (j : ℕ). Ran s d f j g h e) m a.ran

  -- another run goes on to the end
  pub on : (r : Going) (e' : List ℕ) → Ran s e i (end - i) h r e' → Ran s d f n g r e'
  on r e' q =
      let m : i - f + (end - i) ≡ n = omega (arith, a.whole, a.high, a.low) in
      subst (λ (j : ℕ). Ran s d f j g r e') m (joined (end - i) r e' q)

pub room_less : (s d : List ℕ) (i n k : ℕ) → k ≤ n → Room s d i n → Room s d i k
room_less s d i n k le m = record {
  few = omega (arith, m.few);
  bits = omega (arith, m.bits);
  room = omega (arith, m.room);
  clean = m.clean;
}
