-- One tick more: after some ticks, with their inputs in a list, and then another one.
use mathlib.Core.Path.{◌≡◌, refl, sym, ap, ◌∙◌}
use mathlib.Core.List.{List, [], ◌∷◌, ◌++◌, append_assoc, append-nil}
use Prim.Native.Nat.{ℕ}
use lib.ListN.{length}
use Rattle.mode.specs.Rule.{Rule}
use Rattle.pace.specs.Tick.{Held, written, ticked}
use Rattle.pace.specs.Ticks.{joined, Each, ticks, sent}

pub joined_more : {A : Type 0} (is : List (List A)) (i : List A) → joined (is ++ (i ∷ [])) ≡ joined is ++ i
joined_more [] i = append-nil i
joined_more (j ∷ is) i = ap (λ (l : List _). j ++ l) (joined_more is i) ∙ sym (append_assoc j (joined is) i)

pub each_more : {A : Type 0} (D : ℕ) (is : List (List A)) (i : List A) → Each D is → length i ≡ D → Each D (is ++ (i ∷ []))
each_more D [] i h e = (e, tt)
each_more D (j ∷ is) i h e = (h.0, each_more D is i h.1 e)

module _ {A B : Type 0} (R : Rule A B) (D : ℕ) where
  pub ticks_more : (p : Held R) (is : List (List A)) (i : List A) → ticks R D p (is ++ (i ∷ [])) ≡ ticked R D (ticks R D p is) i
  ticks_more p [] i = refl
  ticks_more p (j ∷ is) i = ticks_more (ticked R D p j) is i

  pub sent_more : (p : Held R) (is : List (List A)) (i : List A) → sent R D p (is ++ (i ∷ [])) ≡ sent R D p is ++ written R D (ticks R D p is)
  sent_more p [] i = append-nil (written R D p)
  sent_more p (j ∷ is) i =
      ap (λ (l : List B). written R D p ++ l) (sent_more (ticked R D p j) is i)
      ∙ sym (append_assoc (written R D p) (sent R D (ticked R D p j) is) (written R D (ticks R D (ticked R D p j) is)))
