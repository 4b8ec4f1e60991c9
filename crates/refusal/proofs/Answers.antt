-- A call that was refused was not done.
use mathlib.Core.Path.{◌≡◌, refl, ap}
use mathlib.Core.Bool.{true, false, true≢false}
use Rattle.std.specs.Prelude.{Result, Ok, Err}
use Rattle.std.specs.Result.{result_unwrap_or}
use Rattle.refusal.specs.declared.Refusal.{Refusal}
use Rattle.refusal.specs.Numbers.{Answer, outcome, given}

pub refused_not_done : {T : Type 0} (r : Refusal) (x : T) → Err r ≡ Ok x → ⊥
refused_not_done {T} r x e = true≢false (ap (λ (a : Result T Refusal). outcome a false true) e)

-- what was given was given by a call that was done
pub given_done : {A : Type 0} (a : Answer) (x y : A) → given a x ≡ Ok y → (a ≡ Ok tt) × (x ≡ y)
given_done (Ok u) x y e = (refl, ap (λ r. result_unwrap_or r x) e)
given_done {A} (Err r) x y e = absurd (refused_not_done {T = A} r y e)
