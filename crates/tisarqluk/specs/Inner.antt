-- What the functions on records tell each other. Nobody need believe this file: the public contracts cite nothing of it.
use Rattle.std.specs.Prelude.{Result, Err, Bool, cond}
use Rattle.refusal.specs.declared.Refusal.{Refusal}

-- what is answered where a buffer may hold no record
abbrev pub where_held : {T : Type 0} → Bool → Result T Refusal → Result T Refusal
where_held b a = cond b a (Err (Refusal.State))
