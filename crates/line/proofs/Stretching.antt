-- A stretch in the record's numbers is the mode's: within a block the keystream is the block from the place on, the scanner stops where the mode finds
-- the pattern, and what a blackout collects is packed behind what was collected before.
use mathlib.Core.Path.{◌≡◌, sym, ap, subst, ◌∙◌}
use mathlib.Core.Bool.{not, cond}
use mathlib.Core.List.{List, [], ◌∷◌, ◌++◌}
use Prim.Native.Nat.{ℕ, zero, suc, ◌+◌, ◌-◌, ◌*◌, ◌^◌, ◌<◌, ◌≤◌, min}
use native.Mathlib.Decide.{dec_lt}
use native.Mathlib.Omega.{arith}
use lib.Dec.{ltb}
use lib.ListN.{length, take, length-take, length-append}
use lib.Seq.{take-take, take-append-add, take-nil}
use borrow.Author.Tests.{lt-ltb, le-ltb, ltb-true, ltb-false}
use Rattle.mode.specs.Rule.{after, outs}
use Rattle.mode.specs.Mode.{Generator, Settings, State}
use Rattle.mode.specs.Blocks.{Position}
use Rattle.mode.specs.Words.{stream, nexts, plus}
use Rattle.mode.specs.Scan.{Scan, scan}
use Rattle.mode.proofs.Cases.{picked}
use Rattle.mode.proofs.Streams.{carried, length_carried}
use Rattle.mode.proofs.Stretches.{looking, scanned, dark, scan_after, scan_outs, dark_after, dark_over, dark_outs}
use Rattle.mode.proofs.Scans.{scan_some, scan_most}
use Rattle.mode.proofs.Blocks.{nexts_within, nexts_over, stream_within}
use Rattle.bits.specs.Bits.{bits_of, pack, digits, number, part, laid, wrote}
use Rattle.bits.proofs.Lists.{small_take}
use Rattle.bits.proofs.Digits.{no_digits, length_digits, number_none, number_digits}
use Rattle.bits.proofs.Packed.{length_bits, length_pack, pack_none, small_bits}
use Rattle.bits.proofs.Parts.{part_is}
use Rattle.bits.proofs.Laid.{laid_pack, wrote_laid}
use Rattle.aes.specs.Cipher.{aes128}
use Rattle.aes.proofs.Schedule.{aes_length}
use Rattle.counter.specs.declared.Position.{Position as Kept}
use Rattle.counter.specs.Counter.{stepped_bytes}
use Rattle.counter.proofs.Laws.{advanced_in_block, advanced_at_end}
use Rattle.line.specs.declared.record.Line.{Line}
use Rattle.line.specs.declared.search.Finding.{Finding}
use Rattle.line.specs.declared.cover.Covered.{Covered}
use Rattle.line.specs.View.{box, aes, settings, rule_of, view, holding}
use Rattle.line.specs.Tests.{most_in}
use Rattle.line.specs.Good.{Good}
use Rattle.line.specs.Inner.{within, Found, Covers, moved_on, scanned_to, darkened_by}

-- ---- the first bits of the first bits

take_min : (n m : ℕ) (l : List ℕ) → take n (take m l) ≡ take (min n m) l
take_min zero m l = let e : 0 ≡ min 0 m = omega arith in ap (λ (k : ℕ). take k l) e
take_min (suc n) zero l = let e : 0 ≡ min (suc n) 0 = omega arith in ap (λ (k : ℕ). take k l) e
take_min (suc n) (suc m) [] = sym (take-nil (min (suc n) (suc m)))
take_min (suc n) (suc m) (x ∷ l) =
    let e : suc (min n m) ≡ min (suc n) (suc m) = omega arith in
    ap (λ (t : List ℕ). x ∷ t) (take_min n m l) ∙ ap (λ (k : ℕ). take k (x ∷ l)) e

module _ (s : Line) (g : Good s) where
  abbrev G : Generator
  G = aes (box s)

  abbrev S : Settings
  S = settings s

  abbrev at : Position (List ℕ)
  at = record { counter = s.position.counter; place = s.position.place }

  -- the keystream of a stretch is the block from the place on
  block_bits : (c : List ℕ) → length (bits_of (aes128 s.key c)) ≡ 128
  block_bits c = length_bits (aes128 s.key c) ∙ ap (λ (k : ℕ). 8 * k) (aes_length s.key c)

  keys_are : (m : ℕ) → s.position.place + m ≤ 128 → part (aes128 s.key s.position.counter) s.position.place m ≡ stream G at m
  keys_are m h =
      part_is (aes128 s.key s.position.counter) s.position.place m
      ∙ sym (stream_within 128 (λ c. bits_of (aes128 s.key c)) stepped_bytes (pack 16) block_bits m s.position.counter s.position.place g.place_in h)

  pub moved_is : (n : ℕ) → 0 < n → s.position.place + n ≤ 128
      → record { counter = (nexts G at n).counter; place = (nexts G at n).place } ≡ moved_on s.position n
  moved_is n h k =
      let c : List ℕ = s.position.counter in
      let p : ℕ = s.position.place in
      let before : Kept = record { counter = c; place = p + (n - 1) } in
      elim (dec_lt (p + n) 128) [
        | yes lt ↦
            let e : p + n ≡ p + (n - 1) + 1 = omega arith in
            ap (λ (q : Position (List ℕ)). record { counter = q.counter; place = q.place }) (nexts_within 128 (λ x. bits_of (aes128 s.key x)) stepped_bytes (pack 16) n c p lt)
            ∙ (λ i. record { counter = c; place = e i })
            ∙ sym (advanced_in_block before (omega arith))
        | no ge ↦
            ap (λ (q : Position (List ℕ)). record { counter = q.counter; place = q.place }) (nexts_over 128 (λ x. bits_of (aes128 s.key x)) stepped_bytes (pack 16) n c p h (omega arith))
            ∙ sym (advanced_at_end before (omega arith))
      ]

  module _ (m : ℕ) (some : 0 < m) (in_block : s.position.place + m ≤ 128) (a : List ℕ) (many : length a ≡ m) (r : Covered)
      (c : Covers a (part (aes128 s.key s.position.counter) s.position.place m) s.receiving m r) where
    keys : part (aes128 s.key s.position.counter) s.position.place m ≡ stream G at (length a)
    keys = keys_are m in_block ∙ ap (stream G at) (sym many)

    out_is : take m (bits_of r.out) ≡ plus a (stream G at (length a))
    out_is = c.out ∙ ap (plus a) keys

    carried_is : take m (bits_of r.carried) ≡ carried G S at a
    carried_is = c.carried ∙ ap (λ (k : List ℕ). cond (not s.receiving) (plus a k) a) keys

    -- ---- scanning

    module _ (z : s.left ≡ 0) (f : Finding) (found : Found r.carried m s.window s.seen s.pattern f) where
      abbrev R : Scan
      R = scan (digits 8 s.pattern) (digits s.seen s.window) (carried G S at a)

      there : within r.carried m s.window s.seen s.pattern ≡ R
      there = ap (scan (digits 8 s.pattern) (digits s.seen s.window)) carried_is

      count_is : f.count ≡ R.count
      count_is = found.count ∙ ap (λ (t : Scan). t.count) there

      nothing : s.collected ≡ 0
      nothing = g.collected_is ∙ rw (le-ltb 0 s.left (omega arith))

      none : take s.collected (bits_of s.iv) ≡ []
      none = ap (λ (k : ℕ). take k (bits_of s.iv)) nothing

      scans : view s ≡ looking G S at (digits s.seen s.window)
      scans = λ i. record { generator = at; window = digits s.seen s.window; left = z i; collected = none i }

      pub scan_least : 0 < f.count
      scan_least = rw count_is (nonempty (carried G S at a) (length_carried G S at a ∙ many))
        where
          nonempty : (vs : List ℕ) → length vs ≡ m → 0 < (scan (digits 8 s.pattern) (digits s.seen s.window) vs).count
          nonempty [] e = absurd (omega arith)
          nonempty (v ∷ vs) e = scan_some (digits 8 s.pattern) (digits s.seen s.window) v vs

      pub scan_within : f.count ≤ m
      scan_within = omega (arith, count_is, many, length_carried G S at a, scan_most (digits 8 s.pattern) (digits s.seen s.window) (carried G S at a))

      mode_scans : after (rule_of s) (view s) (take f.count a) ≡ scanned G S at R
      mode_scans =
          ap (λ (t : State (Position (List ℕ))). after (rule_of s) t (take f.count a)) scans
          ∙ ap (λ (k : ℕ). after (rule_of s) (looking G S at (digits s.seen s.window)) (take k a)) count_is
          ∙ scan_after G S at (digits s.seen s.window) a

      pub scan_line : scanned_to s f ≡ holding s (after (rule_of s) (view s) (take f.count a))
      scan_line =
          let window_is : digits f.window.seen f.window.bits ≡ R.window = found.left ∙ ap (λ (t : Scan). t.window) there in
          let w : f.window.bits ≡ number R.window = sym (number_digits f.window.seen f.window.bits f.window.small) ∙ ap number window_is in
          let n : f.window.seen ≡ length R.window = sym (length_digits f.window.seen f.window.bits) ∙ ap length window_is in
          let hit : f.found ≡ R.found = found.match ∙ ap (λ (t : Scan). t.found) there in
          let iv : s.iv ≡ pack 16 [] = g.iv_is ∙ ap (pack 16) none in
          let p : moved_on s.position f.count ≡ record { counter = (nexts G at R.count).counter; place = (nexts G at R.count).place } =
          sym (moved_is f.count scan_least (omega (arith, scan_within))) ∙ ap (λ (k : ℕ). record { counter = (nexts G at k).counter; place = (nexts G at k).place }) count_is in
          (λ i. record {
            key = s.key;
            pattern = s.pattern;
            l = s.l;
            receiving = s.receiving;
            position = p i;
            window = w i;
            seen = n i;
            left = cond (hit i) (128 * s.l) (z i);
            iv = iv i;
            collected = nothing i;
          })
          ∙ ap (holding s) (sym mode_scans)

      pub scan_out : take f.count (bits_of r.out) ≡ outs (rule_of s) (view s) (take f.count a)
      scan_out =
          sym (take-take f.count m (bits_of r.out) scan_within)
          ∙ ap (take f.count) out_is
          ∙ ap (λ (k : ℕ). take k (plus a (stream G at (length a)))) count_is
          ∙ sym (scan_outs G S at (digits s.seen s.window) a)
          ∙ ap (λ (k : ℕ). outs (rule_of s) (looking G S at (digits s.seen s.window)) (take k a)) (sym count_is)
          ∙ ap (λ (t : State (Position (List ℕ))). outs (rule_of s) t (take f.count a)) (sym scans)

    -- ---- in a blackout

    module _ (d : 0 < s.left) (rest : m ≤ s.left) where
      abbrev C : List ℕ
      C = take s.collected (bits_of s.iv)

      abbrev k : ℕ
      k = min m (128 - s.collected)

      due : s.collected ≡ min 128 (128 * s.l - s.left)
      due = g.collected_is ∙ rw (lt-ltb 0 s.left d)

      unseen : s.seen ≡ 0
      unseen = let h : most_in s ≡ 0 = rw (lt-ltb 0 s.left d) in omega (arith, g.seen_in)

      length_c : length C ≡ s.collected
      length_c =
          let n : length s.iv ≡ 16 = ap length g.iv_is ∙ length_pack 16 C in
          simp (length-take, length_bits) (omega (arith, due))

      darkens : view s ≡ dark G S at s.left C
      darkens =
          let w : digits s.seen s.window ≡ [] = ap (λ (n : ℕ). digits n s.window) unseen ∙ no_digits s.window in
          λ i. record { generator = at; window = w i; left = s.left; collected = C }

      -- what is collected with the stretch's line bits
      abbrev gathered : List ℕ
      gathered = take 128 (C ++ carried G S at a)

      gathered_is : gathered ≡ C ++ take k (bits_of r.carried)
      gathered_is =
          let e : 128 ≡ length C + (128 - s.collected) = omega (arith, length_c, due) in
          let q : k ≡ min (128 - s.collected) m = omega arith in
          ap (λ (n : ℕ). take n (C ++ carried G S at a)) e
          ∙ take-append-add C (carried G S at a) (128 - s.collected)
          ∙ ap (λ (l : List ℕ). C ++ l) (ap (take (128 - s.collected)) (sym carried_is) ∙ take_min (128 - s.collected) m (bits_of r.carried) ∙ ap (λ (n : ℕ). take n (bits_of r.carried)) (sym q))

      length_gathered : length gathered ≡ s.collected + k
      length_gathered =
          let e : length (C ++ carried G S at a) ≡ s.collected + m = length-append C (carried G S at a) ∙ (λ i. length_c i + (length_carried G S at a ∙ many) i) in
          length-take 128 (C ++ carried G S at a) ∙ (let n : min 128 (length (C ++ carried G S at a)) ≡ s.collected + k = omega (arith, e, due) in n)

      wrote_is : wrote s.iv s.collected r.carried k ≡ pack 16 gathered
      wrote_is =
          let n : length s.iv ≡ 16 = ap length g.iv_is ∙ length_pack 16 C in
          let b : length (take k (bits_of r.carried)) ≤ k = simp length-take (omega arith) in
          wrote_laid s.iv s.collected r.carried k (omega arith) (omega (arith, n, due))
          ∙ (λ i. laid (g.iv_is i) (sym length_c i) (take k (bits_of r.carried)))
          ∙ laid_pack 16 C (take k (bits_of r.carried)) (small_take s.collected (bits_of s.iv) (small_bits s.iv)) (omega (arith, length_c, due, b))
          ∙ ap (pack 16) (sym gathered_is)

      no_window : s.window ≡ number []
      no_window = let h : s.window < 2 ^ 0 = subst (λ (n : ℕ). s.window < 2 ^ n) unseen g.window_in in omega (arith, number_none)

      pub dark_line : darkened_by s r.carried m ≡ holding s (after (rule_of s) (view s) a)
      dark_line =
          let from_view : after (rule_of s) (dark G S at s.left C) a ≡ after (rule_of s) (view s) a = ap (λ (t : State (Position (List ℕ))). after (rule_of s) t a) (sym darkens) in
          picked (λ (t : Line). t ≡ holding s (after (rule_of s) (view s) a)) (ltb m s.left) _ _
          (λ lt.
          let on : length a < s.left = rw many (ltb-true m s.left lt) in
          let l : s.left - m ≡ s.left - length a = rw many in
          let p : moved_on s.position m ≡ record { counter = (nexts G at (length a)).counter; place = (nexts G at (length a)).place } =
          sym (moved_is m some in_block) ∙ ap (λ (n : ℕ). record { counter = (nexts G at n).counter; place = (nexts G at n).place }) (sym many) in
          (λ i. record {
            key = s.key;
            pattern = s.pattern;
            l = s.l;
            receiving = s.receiving;
            position = p i;
            window = no_window i;
            seen = unseen i;
            left = l i;
            iv = wrote_is i;
            collected = sym length_gathered i;
          })
          ∙ ap (holding s) (sym (dark_after G S a at s.left C on (omega (arith, length_c, due))) ∙ from_view))
          (λ ge.
          let over : length a ≡ s.left = many ∙ (let e : m ≡ s.left = omega (arith, ltb-false m s.left ge) in e) in
          (λ i. record {
            key = s.key;
            pattern = s.pattern;
            l = s.l;
            receiving = s.receiving;
            position = record { counter = wrote_is i; place = 0 };
            window = no_window i;
            seen = unseen i;
            left = 0;
            iv = sym (pack_none 16) i;
            collected = 0;
          })
          ∙ ap (holding s) (sym (dark_over G S a at s.left C over d) ∙ from_view))

      pub dark_out : take m (bits_of r.out) ≡ outs (rule_of s) (view s) a
      dark_out =
          out_is
          ∙ sym (dark_outs G S a at s.left C (rw many rest))
          ∙ ap (λ (t : State (Position (List ℕ))). outs (rule_of s) t a) (sym darkens)
