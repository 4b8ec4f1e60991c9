-- Demand 1 for the paced line: opening, ticks and closing try 01's tests in 01's order; a refused call keeps what it was given, with counts of 0.
use Rattle.std.specs.Prelude.{Ok, Err}
use mathlib.Core.Path.{◌≡◌, refl, ap, ◌∙◌}
use mathlib.Core.Bool.{Bool, true, false, cond}
use mathlib.Core.List.{List, [], ◌∷◌, ◌++◌}
use Prim.Native.Nat.{ℕ, ◌+◌, ◌/◌}
use lib.Dec.{ltb}
use lib.ListN.{length}
use Rattle.refusal.specs.declared.Refusal.{Refusal}
use Rattle.refusal.specs.Numbers.{Answer, number_of, outcome}
use Rattle.bits.specs.Bits.{laid}
use Rattle.pace.specs.Tick.{closed}
use Rattle.line.specs.View.{rule_of}
use Rattle.line.specs.Tests.{faulty as line_faulty}
use Rattle.paced.specs.declared.record.Paced.{Paced}
use Rattle.paced.specs.View.{viewed, keeping, shut}
use Rattle.paced.specs.Answers.{Ticked, counted, bits_in, waiting_in}
use Rattle.paced.specs.Tests.{too_fast, faulty}
use Rattle.paced.specs.Opening.{paced_answer, zero_paced}
use Rattle.paced.specs.Ticking.{leaving_from, held_after, tick_answer, ticking, tick_writes}
use Rattle.paced.specs.Closing.{last_from, close_answer, closing, close_writes}
use Rattle.promises.specs.Calls.{Test, tried}
use Rattle.promises.proofs.Refusals.{open_tests, open_tries}

-- ---- the order of the tests

-- one more test after those that all failed to hold
tried_last : (ts : List Test) (t : Test) → outcome (tried ts) (cond t.holds (Err t.refusal) (tried ts)) (tried ts) ≡ tried (ts ++ (t ∷ []))
tried_last [] t = refl
tried_last (u ∷ us) t = go u.holds (tried_last us t)
  where
    go : (b : Bool) → outcome (tried us) (cond t.holds (Err t.refusal) (tried us)) (tried us) ≡ tried (us ++ (t ∷ []))
        → outcome (cond b (Err u.refusal) (tried us)) (cond t.holds (Err t.refusal) (cond b (Err u.refusal) (tried us)))
        (cond b (Err u.refusal) (tried us)) ≡ cond b (Err u.refusal) (tried (us ++ (t ∷ [])))
    go true e = refl
    go false e = e

pub paced_open_tries : (key iv : List ℕ) (l d : ℕ) → paced_answer key iv l d ≡ tried (open_tests key iv l ++ (record { holds = too_fast d l; refusal = Refusal.Rate } ∷ []))
unfolding paced_answer
paced_open_tries key iv l d =
    ap (λ (a : Answer). outcome a (cond (too_fast d l) (Err (Refusal.Rate)) a) a) (open_tries key iv l)
    ∙ tried_last (open_tests key iv l) (record { holds = too_fast d l; refusal = Refusal.Rate })

-- what a tick or a closing answers where the tests are tried, and m where none holds
abbrev pub told : Answer → Ticked → Ticked
told (Ok tt) m = m
told (Err r) m = Err r

told_cond : (b : Bool) (r : Refusal) (a : Answer) (m x : Ticked) → x ≡ told a m → cond b (Err r) x ≡ told (cond b (Err r) a) m
told_cond true r a m x e = refl
told_cond false r a m x e = e

abbrev pub tick_tests : Paced → List ℕ → List ℕ → List Test
tick_tests p input output =
    record { holds = faulty p; refusal = Refusal.State }
    ∷ record { holds = p.closed; refusal = Refusal.Closed }
    ∷ record { holds = ltb (length input) ((p.d + 7) / 8); refusal = Refusal.Input }
    ∷ record { holds = ltb (length output) ((p.d + 7) / 8); refusal = Refusal.Output } ∷ []

pub tick_tries : (p : Paced) (input output : List ℕ)
    → tick_answer p input output ≡ told (tried (tick_tests p input output)) (counted (length (leaving_from p)) (length (held_after p input).waiting))
unfolding tick_answer
tick_tries p input output =
    told_cond (faulty p) _ _ _ _ (told_cond p.closed _ _ _ _
    (told_cond (ltb (length input) ((p.d + 7) / 8)) _ _ _ _ (told_cond (ltb (length output) ((p.d + 7) / 8)) _ _ _ _ refl)))

abbrev pub close_tests : Paced → List ℕ → List Test
close_tests p output =
    record { holds = faulty p; refusal = Refusal.State }
    ∷ record { holds = p.closed; refusal = Refusal.Closed }
    ∷ record { holds = ltb (length output) ((p.waiting + p.ready + 7) / 8); refusal = Refusal.Output } ∷ []

pub close_tries : (p : Paced) (output : List ℕ) → close_answer p output ≡ told (tried (close_tests p output)) (counted (length (last_from p)) 0)
unfolding close_answer
close_tries p output =
    told_cond (faulty p) _ _ _ _ (told_cond p.closed _ _ _ _ (told_cond (ltb (length output) ((p.waiting + p.ready + 7) / 8)) _ _ _ _ refl))

-- ---- what a refusal leaves: the record as it came, no buffer touched, counts of 0

pub refused_tick_keeps : (p : Paced) (input output : List ℕ) (r : Refusal) → tick_answer p input output ≡ Err r
    → ((ticking p input output).line ≡ p) × (tick_writes p input output ≡ output) × (bits_in (tick_answer p input output) ≡ 0) × (waiting_in (tick_answer p input output) ≡ 0)
refused_tick_keeps p input output r e = (
  ap (λ (a : Ticked). outcome a (keeping p (held_after p input)) p) e,
  ap (λ (a : Ticked). outcome a (laid output 0 (leaving_from p)) output) e,
  ap bits_in e,
  ap waiting_in e,
)

pub refused_closing_keeps : (p : Paced) (output : List ℕ) (r : Refusal) → close_answer p output ≡ Err r
    → ((closing p output).line ≡ p) × (close_writes p output ≡ output) × (bits_in (close_answer p output) ≡ 0) × (waiting_in (close_answer p output) ≡ 0)
refused_closing_keeps p output r e = (
  ap (λ (a : Ticked). outcome a (shut (keeping p (closed (rule_of p.line) (viewed p)))) p) e,
  ap (λ (a : Ticked). outcome a (laid output 0 (last_from p)) output) e,
  ap bits_in e,
  ap waiting_in e,
)

-- a record of zeros is refused 9 by every tick and closing
pub zeros_refused : (input output : List ℕ) → (number_of (tick_answer zero_paced input output) ≡ 9) × (number_of (close_answer zero_paced output) ≡ 9)
unfolding tick_answer close_answer faulty line_faulty
zeros_refused input output = (refl, refl)
