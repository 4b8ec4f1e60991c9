-- `bits::is_blank` meets its contract: the rest of the byte that holds bit `from`, and then whole bytes.
use mathlib.Core.Path.{◌≡◌, sym, ap, ◌∙◌}
use mathlib.Core.Bool.{Bool, false, ◌&&◌}
use Prim.Native.Nat.{◌+◌, ◌/◌}
use lib.ListN.{get_or, drop}
use borrow.Author.Rules.{rules}
use borrow.Author.Tests.{ne_eqb}
use Rattle.std.proofs.Common.{nat_eq}
use Rattle.std.specs.List.{list_all}
use Rattle.bits.proofs.Blank.{blank_is}
use Rattle.bits.proofs.is_blank.Goals as goal

pub returns-then-first-eq0 : goal.returns-then-first-eq0
returns-then-first-eq0 c =
    let a = c.args in
    c.all_zero.ensures
    ∙ (λ i. nat_eq (sym c.if-first-eq0.true i) 0 && list_all (λ x. nat_eq x 0) (c.rest.ensures i))
    ∙ sym (blank_is a.s.now _ a.from (search rules) c.read-first.ensures)

pub returns-else-first-eq0 : goal.returns-else-first-eq0
returns-else-first-eq0 c =
    let a = c.args in
    let no : nat_eq (get_or c.read-first.result 0 0) 0 ≡ false = ne_eqb _ _ c.if-first-eq0.false in
    no ∙ ap (λ (t : Bool). t && list_all (λ x. nat_eq x 0) (drop (a.from / 8 + 1) a.s.now)) (sym no)
    ∙ sym (blank_is a.s.now _ a.from (search rules) c.read-first.ensures)
