-- A stretch of keystream: its length, its pieces, and its sum with the bits of a line.
use mathlib.Core.Path.{◌≡◌, refl, ap}
use mathlib.Core.Bool.{Bool, true, false, cond}
use mathlib.Core.List.{List, [], ◌∷◌, ◌++◌}
use Prim.Native.Nat.{ℕ, zero, suc, ◌+◌, ◌%◌}
use native.Mathlib.Omega.{arith}
use lib.ListN.{length, take}
use Rattle.mode.specs.Mode.{Generator, Settings, Bits}
use Rattle.mode.specs.Words.{stream, plus}

-- the line bits of a stretch in which the generator is not set
abbrev pub carried : (G : Generator) (S : Settings) → G.State → List ℕ → List ℕ
carried G S g bs = cond S.sending (plus bs (stream G g (length bs))) bs

pub length_stream : (G : Generator) (g : G.State) (n : ℕ) → length (stream G g n) ≡ n
length_stream G g zero = refl
length_stream G g (suc n) = ap suc (length_stream G (G.next g) n)

pub plus_none : (k : List ℕ) → plus [] k ≡ []
unfolding plus
plus_none k = refl

pub plus_one : (x y : ℕ) → plus (x ∷ []) (y ∷ []) ≡ (x + y) % 2 ∷ []
unfolding plus
plus_one x y = refl

-- bits after bits
pub plus_append : (a k b l : List ℕ) → length a ≡ length k → plus (a ++ b) (k ++ l) ≡ plus a k ++ plus b l
unfolding plus
plus_append [] [] b l e = refl
plus_append [] (y ∷ k) b l e = absurd (omega arith)
plus_append (x ∷ a) [] b l e = absurd (omega arith)
plus_append (x ∷ a) (y ∷ k) b l e = ap (λ (r : List ℕ). (x + y) % 2 ∷ r) (plus_append a k b l (omega arith))

pub length_plus : (a k : List ℕ) → length (plus a k) ≡ length a
unfolding plus
length_plus [] k = refl
length_plus (x ∷ a) [] = refl
length_plus (x ∷ a) (y ∷ k) = ap suc (length_plus a k)

pub bits_plus : (a k : List ℕ) → length a ≡ length k → Bits (plus a k)
unfolding plus
bits_plus [] k e = tt
bits_plus (x ∷ a) [] e = absurd (omega arith)
bits_plus (x ∷ a) (y ∷ k) e = (omega arith, bits_plus a k (omega arith))

-- the first sums are the sums of the first bits
pub take_plus : (n : ℕ) (x y : List ℕ) → take n (plus x y) ≡ plus (take n x) (take n y)
unfolding plus
take_plus zero x y = refl
take_plus (suc n) [] y = refl
take_plus (suc n) (x ∷ a) [] = refl
take_plus (suc n) (x ∷ a) (y ∷ b) = ap (λ (l : List ℕ). (x + y) % 2 ∷ l) (take_plus n a b)

-- the first bits of a stretch of keystream are a shorter stretch
pub take_stream : (n : ℕ) (G : Generator) (g : G.State) (bs : List ℕ) → take n (stream G g (length bs)) ≡ stream G g (length (take n bs))
take_stream zero G g bs = refl
take_stream (suc n) G g [] = refl
take_stream (suc n) G g (b ∷ r) = ap (λ (l : List ℕ). G.bit g ∷ l) (take_stream n G (G.next g) r)

pub carried_more : (G : Generator) (S : Settings) (g : G.State) (b : ℕ) (r : List ℕ)
    → carried G S g (b ∷ r) ≡ cond S.sending ((b + G.bit g) % 2) b ∷ carried G S (G.next g) r
unfolding plus
carried_more G S g b r = by_case S.sending
  where
    by_case : (d : Bool) → cond d ((b + G.bit g) % 2 ∷ plus r (stream G (G.next g) (length r))) (b ∷ r)
        ≡ cond d ((b + G.bit g) % 2) b ∷ cond d (plus r (stream G (G.next g) (length r))) r
    by_case true = refl
    by_case false = refl

pub length_carried : (G : Generator) (S : Settings) (g : G.State) (bs : List ℕ) → length (carried G S g bs) ≡ length bs
length_carried G S g bs = by_case S.sending
  where
    by_case : (d : Bool) → length (cond d (plus bs (stream G g (length bs))) bs) ≡ length bs
    by_case true = length_plus bs (stream G g (length bs))
    by_case false = refl
