-- A position as the machine holds it: its value, and that a value which stands for a position has the struct's type.
use mathlib.Core.List.{[], ◌∷◌}
use lib.Dec.{T as Holds}
use seplogic.Ra.Ura.{Ura}
use mir.Val.{Val, WT, has_ty}
use types.Logic.{Logic}
use denote.Laws.{Is}
use denote.Struct.Laws as LL
use Rattle.counter.specs.declared.Position.{Position}
use Rattle.counter.specs.contracts.Position as T
use Rattle.counter.proofs.Position.TheLaws as T'

abbrev pub machine : Position → Val
machine p = LL.tuple_val T.the_type T'.the_laws ((T.the_type).to p)

abbrev pub typed : {M : Type 1} {𝓤 : Ura M} (𝓛 : Logic 𝓤) (p : Position) (v : Val) → Is T.the_row p (v ∷ []) → Holds (has_ty T'.mir v) × WT v
typed 𝓛 p v is = ((LL.lawful T.the_type T'.the_laws 𝓛).typed p _ is).0
