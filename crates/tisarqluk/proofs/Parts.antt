-- A record's bytes are laid down part after part: each part follows those before it, and the buffer's later bytes stay. Assumes nothing.
use mathlib.Core.Path.{◌≡◌, refl, ap, ◌∙◌}
use mathlib.Core.Bool.{Bool, true, false}
use mathlib.Core.List.{List, [], ◌∷◌, ◌++◌, append_assoc}
use Prim.Native.Nat.{ℕ, ◌+◌, ◌-◌, ◌/◌, ◌%◌, ◌≤◌, ◌<◌}
use native.Mathlib.Numerals.{add-one}
use native.Mathlib.Omega.{arith}
use lib.ListN.{length, drop, set, length-append}
use mir.Val.{bool_byte}
use lib.Seq.{take_at, drop_at, drop-drop, drop-cons}
use Rattle.std.proofs.lemmas.List.{set-append_right}
use Rattle.line.specs.declared.record.Line.{Line}
use Rattle.paced.specs.declared.record.Paced.{Paced}
use Rattle.tisarqluk.specs.FreeRecord.{flag, line_bytes}
use Rattle.tisarqluk.specs.PacedRecord.{paced_bytes, stored_paced}
use Rattle.tisarqluk.proofs.Lines.{Shaped, length_line}
use Rattle.tisarqluk.proofs.Paces.{ShapedPaced}
use borrow.Rule.Slice.PartMut.{put_mid}

-- the buffer b: the n bytes p, and behind them those of xs
pub record Front (xs : List ℕ) (n : ℕ) (p b : List ℕ) : Type 0 where
  pub long : length p ≡ n
  pub is : b ≡ p ++ drop n xs

-- one part more
pub next : {xs p b : List ℕ} {n : ℕ} (k : ℕ) (a : List ℕ) → length a ≡ k → Front xs n p b → Front xs (n + k) (p ++ a) (put_mid n k b a)
next {xs} {p} {b} {n} k a ha f = record {
  long = length-append p a ∙ omega (arith, f.long);
  is = rw (f.is, take_at p (drop n xs) n f.long, drop_at p (drop n xs) n f.long, drop-drop k n xs, append_assoc);
}

last : {xs p b : List ℕ} {n : ℕ} (x : ℕ) → n < length xs → Front xs n p b → set b n x ≡ (p ++ (x ∷ [])) ++ drop (n + 1) xs
last {xs} {p} {b} {n} x room f =
    let none : n - n ≡ 0 = omega arith in
    rw (f.is, set-append_right p (drop n xs) n n x f.long (omega arith), none, drop-cons xs n 0 room, append_assoc, add-one)

start : (xs a : List ℕ) (n : ℕ) → length a ≡ n → Front xs n a (a ++ drop n xs)
start xs a n h = record { long = h; is = refl }

-- a bool as the machine has it
byte : (b : Bool) → bool_byte b ≡ flag b
byte true = refl
byte false = refl

-- the parts of a line's bytes
pub line_laid : (kind : ℕ) (g : Line) (xs a b c d e : List ℕ) → Shaped g → 58 ≤ length xs → a ≡ kind ∷ g.l ∷ g.pattern ∷ bool_byte g.receiving ∷ [] → b ≡ g.key → c ≡ g.position.counter
    → d ≡ g.position.place ∷ g.window ∷ g.seen ∷ g.left / 256 % 256 ∷ g.left % 256 ∷ [] → e ≡ g.iv
    → set (put_mid 41 16 (put_mid 36 5 (put_mid 20 16 (put_mid 4 16 (a ++ drop 4 xs) b) c) d) e) 57 g.collected ≡ line_bytes kind g ++ drop 58 xs
unfolding line_bytes
line_laid kind g xs a b c d e s room ha hb hc hd he =
    let high : g.left / 256 % 256 ≡ g.left / 256 = omega (arith, s.left) in
    last g.collected (omega arith) (next 16 e (ap length he ∙ s.iv) (next 5 d (ap length hd) (next 16 c (ap length hc ∙ s.counter) (next 16 b (ap length hb ∙ s.key) (start xs a 4 (ap length ha))))))
    ∙ rw (ha, hb, hc, hd, he, high, byte g.receiving)

-- and those that a paced line's record has behind them
pub paced_laid : (p : Paced) (xs a b c d e f : List ℕ) → ShapedPaced p → a ≡ line_bytes 80 p.line ++ drop 58 xs → b ≡ p.d ∷ bool_byte p.closed ∷ []
    → c ≡ p.ready / 256 % 256 ∷ p.ready % 256 ∷ [] → d ≡ p.waiting / 256 % 256 ∷ p.waiting % 256 ∷ [] → e ≡ p.fillers / 256 % 256 ∷ p.fillers % 256 ∷ [] → f ≡ p.queue
    → put_mid 66 60 (put_mid 64 2 (put_mid 62 2 (put_mid 60 2 (put_mid 58 2 a b) c) d) e) f ≡ stored_paced p xs
unfolding paced_bytes
paced_laid p xs a b c d e f s ha hb hc hd he hf =
    let r : p.ready / 256 % 256 ≡ p.ready / 256 = omega (arith, s.ready) in
    let w : p.waiting / 256 % 256 ≡ p.waiting / 256 = omega (arith, s.waiting) in
    let n : p.fillers / 256 % 256 ≡ p.fillers / 256 = omega (arith, s.fillers) in
    let front : Front xs 58 (line_bytes 80 p.line) a = record { long = length_line 80 p.line s.line; is = ha } in
    (next 60 f (ap length hf ∙ s.queue) (next 2 e (ap length he) (next 2 d (ap length hd) (next 2 c (ap length hc) (next 2 b (ap length hb) front))))).is
    ∙ rw (hb, hc, hd, he, hf, r, w, n, byte p.closed) (simp append_assoc)
