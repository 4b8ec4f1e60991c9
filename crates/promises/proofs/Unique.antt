-- Any two results that a contract allows are equal: every public contract is an equation with a definition, so this is one law for all of them.
use mathlib.Core.Path.{◌≡◌, sym, ◌∙◌}

pub one_result : {A : Type 0} (promised r r' : A) → r ≡ promised → r' ≡ promised → r ≡ r'
one_result promised r r' e e' = e ∙ sym e'
