-- A block of bits through the line: its run is never refused, and what comes out for the bits that were read goes to their place.
use Rattle.std.specs.Prelude.{Ok}
use mathlib.Core.Path.{◌≡◌, sym, ap, subst, ◌∙◌}
use mathlib.Core.List.{List, [], ◌++◌}
use Prim.Native.Nat.{ℕ, ◌+◌, ◌*◌, ◌≤◌, ◌<◌}
use native.Mathlib.Omega.{arith}
use lib.ListN.{length, take, drop, take-append-drop}
use borrow.Author.Tests.{lt-leb, le-leb}
use Rattle.mode.specs.Rule.{after, outs}
use Rattle.mode.proofs.Runs.{length_outs}
use Rattle.bits.specs.Bits.{bits_of, pack, part, laid}
use Rattle.bits.proofs.Lists.{Small, Bytes, zeros}
use Rattle.bits.proofs.Packed.{pack_none, bits_pack, pack_bits}
use Rattle.bits.proofs.Parts.{small_part, length_part, part_none, part_start}
use Rattle.bits.proofs.Laid.{laid_pack}
use Rattle.refusal.specs.Numbers.{Answer}
use Rattle.refusal.specs.Numbers.{outcome}
use Rattle.line.specs.declared.record.Line.{Line}
use Rattle.line.specs.Free.{run_answer, running, written}
use Rattle.line.specs.View.{box, aes, settings, rule_of, view, holding}
use Rattle.line.specs.Good.{Good}
use Rattle.line.specs.Inner.{Ran}
use Rattle.line.proofs.Passing.{runs}
use Rattle.line.proofs.Records.{passes, holds, bits_from_small, good_ran}
use Rattle.line.proofs.Running.{small_outs, going}
use Rattle.pace.specs.Tick.{width, moves}
use Rattle.paced.specs.Inner.{Passes}
use Rattle.paced.proofs.Appending.{bits_read}

module _ (s : Line) (g : Good s) where
  abbrev out : List ℕ → List ℕ
  out b = outs (rule_of s) (view s) b

  abbrev next : List ℕ → Line
  next b = holding s (after (rule_of s) (view s) b)

  small_out : (b : List ℕ) → Small (out b)
  small_out b = small_outs (aes (box s)) (settings s) (view s) b

  length_out : (q : List ℕ) (i n : ℕ) → i + n ≤ 8 * length q → length (out (part q i n)) ≡ n
  length_out q i n h = length_outs (rule_of s) (view s) (part q i n) ∙ length_part q i n h

  -- a run of so few bits is done
  module _ (b : List ℕ) (n : ℕ) (lb : length b ≡ 16) (few : n ≤ 128) where
    done : (d : List ℕ) → length d ≡ 16 → run_answer s n b d ≡ Ok tt
    done d ld = runs s n b d (passes s g) (omega arith) (omega arith) (omega arith)

    pub block_line : (d : List ℕ) (t : Line) → length d ≡ 16 → t ≡ (running s n b d).line → t ≡ next (part b 0 n)
    block_line d t ld e = e ∙ ap (λ (a : Answer). outcome a (next (part b 0 n)) s) (done d ld)

    pub block_out : (d e : List ℕ) → d ≡ zeros 16 → e ≡ written s n b d → e ≡ pack 16 (out (part b 0 n))
    block_out d e z w =
        let O : List ℕ = out (part b 0 n) in
        let l : length O ≡ n = length_out b 0 n (omega arith) in
        let ld : length d ≡ 16 = ap length z in
        w
        ∙ ap (λ (a : Answer). outcome a (laid d 0 O) d) (done d ld)
        ∙ ap (λ (x : List ℕ). laid x 0 O) (z ∙ sym (pack_none 16))
        ∙ laid_pack 16 [] O (λ i. omega arith) (omega arith)

  -- the bits that came out, for bits read from a queue
  pub out_bits : (q b o : List ℕ) (i n : ℕ) → b ≡ pack 16 (part q i n) → n ≤ 128 → i + n ≤ 8 * length q → o ≡ pack 16 (out (part b 0 n)) → take n (bits_of o) ≡ out (part q i n)
  out_bits q b o i n read few fits e =
      let O : List ℕ = out (part q i n) in
      let l : length O ≡ n = length_out q i n fits in
      let here : o ≡ pack 16 O = e ∙ ap (λ (x : List ℕ). pack 16 (out x)) (bits_read q b i n read few fits) in
      (λ j. take (sym l j) (bits_of (here j))) ∙ bits_pack 16 O (small_out (part q i n)) (omega arith)

  -- ---- one move

  module _ (q : List ℕ) (at n w : ℕ) (lq : length q ≡ 60) (bq : Bytes q) (we : w ≡ width s.left) (fits : at + n ≤ 480) where
    pub move_none : n < w → Passes s q at n (record { line = s; queue = q; count = 0 })
    move_none few =
        let none : part q at 0 ≡ [] = part_none q at 0 (omega arith) in
        let z : at + 0 ≡ at = omega arith in
        record {
          count = (let t : 0 ≡ moves w n = simp (lt-leb w n few) in t ∙ ap (λ (k : ℕ). moves k n) we);
          line = sym (holds s g) ∙ ap next (sym none);
          queue = sym (subst (λ (k : ℕ). pack k (bits_of q) ≡ q) lq (pack_bits q bq))
              ∙ ap (pack 60) (sym (take-append-drop at (bits_of q)))
              ∙ (λ i. pack 60 (sym (part_start q at) i ++ (out (sym none i) ++ drop (sym z i) (bits_of q))));
        }

    pub move_some : (b o e : List ℕ) (t : Line) → w ≤ n → w ≤ 128 → b ≡ pack 16 (part q at w) → t ≡ next (part b 0 w) → o ≡ pack 16 (out (part b 0 w))
        → e ≡ pack 60 (part q 0 at ++ (take w (bits_of o) ++ drop (at + w) (bits_of q)))
        → Passes s q at n (record { line = t; queue = e; count = w })
    move_some b o e t enough few read te oe ee =
        let same : part b 0 w ≡ part q at w = bits_read q b at w read few (omega arith) in
        record {
          count = (let t : w ≡ moves w n = simp (le-leb w n enough) in t ∙ ap (λ (k : ℕ). moves k n) we);
          line = te ∙ ap next same;
          queue = ee ∙ ap (λ (x : List ℕ). pack 60 (part q 0 at ++ (x ++ drop (at + w) (bits_of q)))) (out_bits q b o at w read few (omega arith) oe);
        }

  -- ---- bits passed on in closing, in the words of the line's runs

  pub good_block : (q b : List ℕ) (i n : ℕ) (t : Line) → b ≡ pack 16 (part q i n) → n ≤ 128 → i + n ≤ 8 * length q → t ≡ next (part b 0 n) → Good t
  good_block q b i n t read few fits te =
      subst Good (sym (te ∙ ap next (bits_read q b i n read few fits))) (good_ran s g (part q i n) (bits_from_small (part q i n) (small_part q i n)))

  pub ran_block : (q b o d e : List ℕ) (i n : ℕ) (t : Line) (h : Good t) → b ≡ pack 16 (part q i n) → n ≤ 128 → i + n ≤ 8 * length q → t ≡ next (part b 0 n)
      → o ≡ pack 16 (out (part b 0 n)) → e ≡ laid d i (take n (bits_of o)) → Ran q d i n (going s g) (going t h) e
  ran_block q b o d e i n t h read few fits te oe ee = record {
    line = te ∙ ap next (bits_read q b i n read few fits);
    out = ee ∙ ap (laid d i) (out_bits q b o i n read few fits oe);
  }
