-- A record and the state it holds tell each other: `view` and `holding` undo each other on records that pass the tests for 9, which are just the
-- records that hold a state in the mode's ranges.
use mathlib.Core.Path.{◌≡◌, refl, sym, ap, ◌∙◌}
use mathlib.Core.Bool.{Bool, true, false, not, cond, ◌||◌, true≢false}
use mathlib.Core.List.{List, [], ◌∷◌}
use Prim.Native.Nat.{ℕ, zero, suc, ◌+◌, ◌-◌, ◌*◌, ◌/◌, ◌%◌, ◌^◌, ◌<◌, ◌≤◌, min}
use native.Mathlib.Nat.{mod-lt, div-eq_of_lt}
use native.Mathlib.Omega.{arith}
use lib.Dec.{ltb, eqb}
use lib.ListN.{length, take, drop, length-take}
use lib.Pow.{split, pow_pos}
use borrow.Author.Tests.{ltb-false, eqb-true, eq-eqb, lt-ltb, le-ltb, not-false}
use Rattle.mode.specs.Rule.{Blackout, after}
use Rattle.mode.specs.Mode.{Settings, State, Bits}
use Rattle.mode.specs.Blocks.{Position}
use Rattle.mode.specs.Words.{Within, due, most}
use Rattle.mode.proofs.Steps.{blackout, within_after, generator_keeps}
use Rattle.mode.proofs.Blocks.{onward_place}
use Rattle.bits.specs.Bits.{bits_of, pack, digits}
use Rattle.bits.proofs.Lists.{Small, Bytes, small_take}
use Rattle.bits.proofs.Digits.{length_digits, small_digits, number_digits, digits_number, number_below}
use Rattle.bits.specs.Blank.{blank}
use Rattle.bits.proofs.Blank.{blank_pack, pack_blank}
use Rattle.bits.proofs.Packed.{length_bits, length_pack, bits_pack, small_bits}
use Rattle.aes.specs.Cipher.{aes128}
use Rattle.counter.specs.Counter.{stepped_bytes}
use Rattle.line.specs.declared.record.Line.{Line}
use Rattle.line.specs.View.{box, aes, settings, rule_of, view, holding}
use Rattle.line.specs.Tests.{due_in, most_in, faulty}
use Rattle.line.specs.Good.{Good}

-- ---- the two ways of saying that all are bits

pub bits_from_small : (l : List ℕ) → Small l → Bits l
bits_from_small [] h = tt
bits_from_small (x ∷ l) h = (h 0, bits_from_small l (λ i. h (suc i)))

pub small_of : (l : List ℕ) → Bits l → Small l
small_of [] h i = omega arith
small_of (x ∷ l) h zero = h.0
small_of (x ∷ l) h (suc i) = small_of l h.1 i

-- ---- the ranges of the tests are the mode's

due_is : (S : Settings) (l left : ℕ) → S.collects ≡ 128 → S.lasts ≡ 128 * l → cond (ltb 0 left) (min 128 (128 * l - left)) 0 ≡ due S left
due_is S l zero c e = refl
due_is S l (suc k) c e = rw (c, e, lt-ltb 0 (suc k) (omega arith))

most_is : (S : Settings) (left : ℕ) → length S.pattern ≡ 8 → cond (ltb 0 left) 0 7 ≡ most S left
most_is S zero e = rw e
most_is S (suc k) e = rw (lt-ltb 0 (suc k) (omega arith))

due_low : (S : Settings) (left : ℕ) → due S left ≤ S.collects
due_low S zero = omega arith
due_low S (suc k) = omega arith

module _ (s : Line) where
  due_in_is : due_in s ≡ due (settings s) s.left
  due_in_is = due_is (settings s) s.l s.left refl refl

  most_in_is : most_in s ≡ most (settings s) s.left
  most_in_is = most_is (settings s) s.left (length_digits 8 s.pattern)

  module _ (g : Good s) where
    length_iv : length s.iv ≡ 16
    length_iv = ap length g.iv_is ∙ length_pack 16 (take s.collected (bits_of s.iv))

    length_collected : length (take s.collected (bits_of s.iv)) ≡ s.collected
    length_collected =
        let low : s.collected ≤ 128 = rw (g.collected_is ∙ due_in_is) (due_low (settings s) s.left) in
        simp (length-take, length_bits) (omega (arith, length_iv))

    -- what passes 9 is in the mode's ranges
    pub within_view : Within (settings s) (view s)
    within_view = record {
      left_in = g.left_in;
      collected_is = length_collected ∙ g.collected_is ∙ due_in_is;
      window_in = rw (length_digits s.seen s.window, ← most_in_is) g.seen_in;
      collected_bits = bits_from_small (take s.collected (bits_of s.iv)) (small_take s.collected (bits_of s.iv) (small_bits s.iv));
      window_bits = bits_from_small (digits s.seen s.window) (small_digits s.seen s.window);
    }

    pub holds : holding s (view s) ≡ s
    holds = λ i. record {
      key = s.key;
      pattern = s.pattern;
      l = s.l;
      receiving = s.receiving;
      position = s.position;
      window = number_digits s.seen s.window g.window_in i;
      seen = length_digits s.seen s.window i;
      left = s.left;
      iv = sym g.iv_is i;
      collected = length_collected i;
    }

  module _ (t : State (Position (List ℕ))) (w : Within (settings s) t) where
    few_collected : length t.collected ≤ 128
    few_collected = rw w.collected_is (due_low (settings s) t.left)

    pub view_holding : view (holding s t) ≡ t
    view_holding = λ i. record {
      generator = t.generator;
      window = digits_number t.window (small_of t.window w.window_bits) i;
      left = t.left;
      collected = bits_pack 16 t.collected (small_of t.collected w.collected_bits) few_collected i;
    }

    pub good_holding : Good s → t.generator.place < 128 → Good (holding s t)
    good_holding g p =
        let h : Line = holding s t in
        record {
          l_low = g.l_low;
          l_high = g.l_high;
          place_in = p;
          left_in = w.left_in;
          collected_is = w.collected_is ∙ sym (due_is (settings s) s.l t.left refl refl);
          seen_in = rw (most_is (settings s) t.left (length_digits 8 s.pattern)) w.window_in;
          pattern_in = g.pattern_in;
          window_in = number_below t.window (small_of t.window w.window_bits);
          iv_is = ap (pack 16) (sym (bits_pack 16 t.collected (small_of t.collected w.collected_bits) few_collected));
        }

  -- a run leads from a record that passes 9 to one that does
  module _ (g : Good s) (bs : List ℕ) (b : Bits bs) where
    pub within_ran : Within (settings s) (after (rule_of s) (view s) bs)
    within_ran = within_after (aes (box s)) (settings s) (view s) bs b (within_view g)

    pub view_ran : view (holding s (after (rule_of s) (view s) bs)) ≡ after (rule_of s) (view s) bs
    view_ran = view_holding (after (rule_of s) (view s) bs) within_ran

    pub good_ran : Good (holding s (after (rule_of s) (view s) bs))
    good_ran =
        good_holding (after (rule_of s) (view s) bs) within_ran g
        (generator_keeps (aes (box s)) (settings s) (λ (p : Position (List ℕ)). p.place < 128)
        (λ p _. onward_place 128 (λ c. bits_of (aes128 s.key c)) stepped_bytes (pack 16) (omega arith) p) (λ c. omega arith) (view s) bs g.place_in)

-- ---- the tests for 9 are passed by good records alone

pub neither : (a b : Bool) → (a || b) ≡ false → (a ≡ false) × (b ≡ false)
neither true b e = absurd (true≢false e)
neither false b e = (refl, e)

-- a number without higher digits
low_digits : (n x : ℕ) → x / 2 ^ n ≡ 0 → x < 2 ^ n
low_digits n x e =
    let z : 0 * 2 ^ n ≡ 0 = omega arith in
    let s : x / 2 ^ n * 2 ^ n + x % 2 ^ n ≡ x = split x n in
    let t : x / 2 ^ n * 2 ^ n ≡ 0 = ap (λ (k : ℕ). k * 2 ^ n) e ∙ z in
    omega (arith, mod-lt x (pow_pos n))

-- what the tests for 9 say of a record that passes them
pub record Passed (s : Line) : Type 0 where
  pub l_low : 1 ≤ s.l
  pub l_high : s.l ≤ 11
  pub place_in : s.position.place ≤ 127
  pub left_in : s.left ≤ 128 * s.l
  pub collected_is : s.collected ≡ due_in s
  pub seen_in : s.seen ≤ most_in s
  pub window_in : s.window / 2 ^ s.seen ≡ 0
  pub rest_blank : blank (drop s.collected (bits_of s.iv)) ≡ true

pub passed : (s : Line) → faulty s ≡ false → Passed s
unfolding faulty
passed s e =
    let q8 = neither _ (not (blank (drop s.collected (bits_of s.iv)))) e in
    let q7 = neither _ (not (eqb (s.window / 2 ^ s.seen) 0)) q8.0 in
    let q6 = neither _ (ltb (most_in s) s.seen) q7.0 in
    let q5 = neither _ (not (eqb s.collected (due_in s))) q6.0 in
    let q4 = neither _ (ltb (128 * s.l) s.left) q5.0 in
    let q3 = neither _ (ltb 127 s.position.place) q4.0 in
    let q2 = neither (ltb s.l 1) (ltb 11 s.l) q3.0 in
    record {
      l_low = ltb-false s.l 1 q2.0;
      l_high = ltb-false 11 s.l q2.1;
      place_in = ltb-false 127 s.position.place q3.1;
      left_in = ltb-false (128 * s.l) s.left q4.1;
      collected_is = eqb-true s.collected (due_in s) (not-false (eqb s.collected (due_in s)) q5.1);
      seen_in = ltb-false (most_in s) s.seen q6.1;
      window_in = eqb-true (s.window / 2 ^ s.seen) 0 (not-false (eqb (s.window / 2 ^ s.seen) 0) q7.1);
      rest_blank = not-false (blank (drop s.collected (bits_of s.iv))) q8.1;
    }

pub good_of : (s : Line) → faulty s ≡ false → s.pattern < 256 → length s.iv ≡ 16 → Bytes s.iv → Good s
good_of s e p n b =
    let q = passed s e in
    record {
      l_low = q.l_low;
      l_high = q.l_high;
      place_in = omega (arith, q.place_in);
      left_in = q.left_in;
      collected_is = q.collected_is;
      seen_in = q.seen_in;
      pattern_in = p;
      window_in = low_digits s.seen s.window q.window_in;
      iv_is = blank_pack 16 s.iv s.collected n b q.rest_blank;
    }

pub passes : (s : Line) → Good s → faulty s ≡ false
unfolding faulty
passes s g =
    simp (
      le-ltb s.l 1 g.l_low,
      le-ltb 11 s.l g.l_high,
      le-ltb 127 s.position.place (omega (arith, g.place_in)),
      le-ltb (128 * s.l) s.left g.left_in,
      eq-eqb s.collected (due_in s) g.collected_is,
      le-ltb (most_in s) s.seen g.seen_in,
      eq-eqb (s.window / 2 ^ s.seen) 0 (div-eq_of_lt g.window_in),
      pack_blank 16 s.iv s.collected g.iv_is,
    )

-- its rule has the blackout laws that pacing asks for
pub blackout_of : (s : Line) → 1 ≤ s.l → Blackout (rule_of s) s.l
blackout_of s low = blackout (aes (box s)) (settings s) s.l low refl
