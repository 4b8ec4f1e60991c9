-- How many bits can wait. Where q wait and l bits of a blackout are left, q is below max (width l) (D + g (128 - D)), g being the full moves that are
-- certain before the next smaller one: a full move takes 128 - D off q, the rate makes up for the smaller one, D ≤ L (128 - D).
use mathlib.Core.Path.{◌≡◌, refl, sym, ap, ◌∙◌, subst}
use mathlib.Core.Logic.{◌⊎◌, inr, ⊎_elim}
use mathlib.Core.List.{List}
use Prim.Native.Nat.{ℕ, zero, suc, ◌+◌, ◌-◌, ◌*◌, ◌/◌, ◌≤◌, ◌<◌, max}
use native.Mathlib.Nat.{mul-le-mul_right, le_of_mul-le-mul_right}
use native.Mathlib.Decide.{dec_le}
use native.Mathlib.Omega.{arith}
use lib.ListN.{length, take, drop, length-drop}
use lib.Seq.{length-take-le}
use Rattle.mode.specs.Rule.{Rule, Blackout, after}
use Rattle.mode.proofs.Runs.{left_down, left_scan}
use Rattle.pace.specs.Tick.{width, moves}
use Rattle.pace.specs.Ticks.{least_hold}
use Rattle.pace.proofs.Moves.{width_block, width_rest, width_most, moves_cases}

-- the most bits that ever wait, and that the least hold is just enough for them and D places to leave
abbrev pub most_waiting : ℕ → ℕ
most_waiting D = max 127 (2 * D - 2)

pub hold_is_enough : (D : ℕ) → 1 ≤ D → most_waiting D + D ≡ least_hold D
hold_is_enough D h = omega arith

-- the moves of 128 bits that are certain before the next smaller one
abbrev pub full : ℕ → ℕ → ℕ
full L zero = L
full L (suc k) = suc k / 128

-- q bits wait, and l are left of a blackout. e stands for 128 - D
pub record Room (D e L l q : ℕ) : Type 0 where
  pub most : q ≤ most_waiting D
  pub soon : q < max (width l) (D + full L l * e)

module _ (D e L : ℕ) (some : 1 ≤ D) (some_l : 1 ≤ L) (is128 : D + e ≡ 128) (rate : D * (L + 1) ≤ 128 * L) where
  rate' : D ≤ L * e
  rate' = omega (arith, ap (λ (z : ℕ). z * L) is128)

  -- nothing moves
  room_none : (l q : ℕ) → q + D < width l → Room D e L l (q + D)
  room_none l q h = let w = width_most l in record { most = omega arith; soon = omega arith }

  -- 128 bits move
  room_full : (g g' q : ℕ) → g ≤ suc g' → q ≤ most_waiting D → q < max 128 (D + g * e) → 128 ≤ q + D
      → (q + D - 128 ≤ most_waiting D) × (q + D - 128 < D + g' * e)
  room_full g g' q le a b c = omega (arith, mul-le-mul_right e le)

  -- the end of a blackout moves
  room_part : (l q : ℕ) → 1 ≤ l → q < max l D → l ≤ q + D → (q + D - l ≤ most_waiting D) × (q + D - l < D + L * e)
  room_part l q a b c = omega (arith, rate')

full_blackout : (L l : ℕ) → 1 ≤ l → full L l ≡ l / 128
full_blackout L zero h = absurd (omega arith)
full_blackout L (suc k) h = refl

-- after a move of a block that began in scanning, and in a blackout
full_scan : (L l : ℕ) → (l ≡ 0) ⊎ (128 * L < l + 128) → L ≤ suc (full L l)
full_scan L zero h = omega arith
full_scan L (suc k) h = ⊎_elim (λ z. absurd (omega arith)) (λ m. omega arith) h

full_block : (L l : ℕ) → full L (l + 128) ≤ suc (full L l)
full_block L zero = omega (arith, full_blackout L 128 (omega arith))
full_block L (suc k) = omega (arith, full_blackout L (suc k + 128) (omega arith))

module _ {A B : Type 0} (R : Rule A B) (D L : ℕ) (law : Blackout R L) (some : 1 ≤ D) (rate : D * (L + 1) ≤ 128 * L) where
  below : D ≤ 128
  below = le_of_mul-le-mul_right {k = L} (omega arith) law.some

  is128 : D + (128 - D) ≡ 128
  is128 = omega (arith, below)

  room : (l q : ℕ) → (q ≤ most_waiting D) × (q < D + full L l * (128 - D)) → Room D (128 - D) L l q
  room l q h = record { most = h.0; soon = omega arith }

  -- a move of n bits leaves the room
  Moved : (s : R.State) (all : List A) (n : ℕ) → Type 0
  Moved s all n = Room D (128 - D) L (R.left (after R s (take n all))) (length (drop n all))

  module _ (s : R.State) (all : List A) (q : ℕ) (n : length all ≡ q + D) where
    moved_scan : 128 ≤ length all → R.left s ≡ 0 → Room D (128 - D) L 0 q → Moved s all 128
    unfolding Moved
    moved_scan h z r =
        let t = length-take-le 128 all h in
        rw (length-drop, n)
        (room _ _
        (room_full D (128 - D) L some law.some is128 rate L _ q (full_scan L _ (left_scan R L law s (take 128 all) z (omega arith))) r.most r.soon
        (omega arith)))

    moved_block : (l : ℕ) → 128 ≤ length all → R.left s ≡ l + 128 → Room D (128 - D) L (l + 128) q → Moved s all 128
    unfolding Moved
    moved_block l h z r =
        let t = length-take-le 128 all h in
        let w : width (l + 128) ≡ 128 = width_block (l + 128) (inr (omega arith)) in
        rw (length-drop, n, left_down R L law s (take 128 all) l (omega arith))
        (room _ _
        (room_full D (128 - D) L some law.some is128 rate (full L (l + 128)) _ q (full_block L l) r.most (rw w at r.soon) (omega arith)))

    moved_rest : (l : ℕ) → l ≤ length all → R.left s ≡ l → 0 < l → l < 128 → Room D (128 - D) L l q → Moved s all l
    unfolding Moved
    moved_rest l h z some' lt r =
        let t = length-take-le l all h in
        let w = width_rest l some' (omega arith) in
        let none : full L l ≡ 0 = omega (arith, full_blackout L l some') in
        rw (length-drop, n, left_down R L law s (take l all) 0 (omega arith))
        (room _ _
        (room_part D (128 - D) L some law.some is128 rate l q (omega arith) (omega (arith, rw (none, w) at r.soon)) (omega arith)))

    moved : (l : ℕ) → R.left s ≡ l → width l ≤ length all → Room D (128 - D) L l q → Moved s all (width l)
    moved zero z h r = moved_scan h z r
    moved (suc k) z h r = go (dec_le 128 (suc k))
      where
        go : Dec (128 ≤ suc k) → Moved s all (width (suc k))
        go (yes le) =
            let d : suc k ≡ suc k - 128 + 128 = omega arith in
            let w = width_block (suc k) (inr le) in
            rw w (moved_block (suc k - 128) (omega arith) (z ∙ d) (subst (λ (x : ℕ). Room D (128 - D) L x q) d r))
        go (no lt) =
            let w = width_rest (suc k) (omega arith) (omega arith) in
            rw w (moved_rest (suc k) (omega arith) z (omega arith) (omega arith) r)

    -- a tick's move keeps the room
    pub room_moved : Room D (128 - D) L (R.left s) q
        → Room D (128 - D) L (R.left (after R s (take (moves (width (R.left s)) (length all)) all))) (length (drop (moves (width (R.left s)) (length all)) all))
    unfolding Moved
    room_moved r =
        ⊎_elim
        (λ yes'. subst (Moved s all) (sym yes'.1) (moved (R.left s) refl yes'.0 r))
        (λ no'. subst (Moved s all) (sym no'.1) (rw n (room_none D (128 - D) L some law.some is128 rate (R.left s) q (omega arith))))
        (moves_cases (width (R.left s)) (length all))

  pub room_opened : Room D (128 - D) L 0 0
  room_opened = record { most = omega arith; soon = omega arith }
