use Rattle.std.specs.Prelude.{IfOk}
use Rattle.std.proofs.Common.{◌≡◌, Bool, true, sym, subst}
use Rattle.op_seeks.specs.Seeking.{ApartOver, FootprintOf}
use Rattle.op_seeks.specs.declared.known.Known.{Known}
use Rattle.sought_ids.proofs.seen.is_enough_by.Goals as goal

pub returns-in-Keys-clause-foot : goal.returns-in-Keys-clause-foot
returns-in-Keys-clause-foot g c =
    let over = c.args.over.now in
    let near = c.args.sides.now.near.tables in
    let ids = c.args.ids.now in
    subst (λ (known : Known). IfOk c.is_enough_by_keys.result (λ (is : Bool). is ≡ true → FootprintOf (g.O.Operator.meaning over.operator.now) (g.O.Seeks.seeks over.operator.now) over.backward known near ids))
    (sym c.in-Keys.is) c.is_enough_by_keys.ensures.foot

pub returns-in-Keys-clause-apart : goal.returns-in-Keys-clause-apart
returns-in-Keys-clause-apart g c =
    let over = c.args.over.now in
    let sides = c.args.sides.now in
    let ids = c.args.ids.now in
    subst (λ (known : Known). IfOk c.is_enough_by_keys.result (λ (is : Bool). is ≡ true → ApartOver (g.O.Operator.meaning over.operator.now) (g.O.Seeks.seeks over.operator.now) over.backward known sides.near.tables sides.changes.tables ids))
    (sym c.in-Keys.is) c.is_enough_by_keys.ensures.apart

pub returns-in-Entries-clause-foot : goal.returns-in-Entries-clause-foot
returns-in-Entries-clause-foot g c =
    let over = c.args.over.now in
    let near = c.args.sides.now.near.tables in
    let ids = c.args.ids.now in
    subst (λ (known : Known). IfOk c.is_enough_by_entries.result (λ (is : Bool). is ≡ true → FootprintOf (g.O.Operator.meaning over.operator.now) (g.O.Seeks.seeks over.operator.now) over.backward known near ids))
    (sym c.in-Entries.is) c.is_enough_by_entries.ensures.foot

pub returns-in-Entries-clause-apart : goal.returns-in-Entries-clause-apart
returns-in-Entries-clause-apart g c =
    let over = c.args.over.now in
    let sides = c.args.sides.now in
    let ids = c.args.ids.now in
    subst (λ (known : Known). IfOk c.is_enough_by_entries.result (λ (is : Bool). is ≡ true → ApartOver (g.O.Operator.meaning over.operator.now) (g.O.Seeks.seeks over.operator.now) over.backward known sides.near.tables sides.changes.tables ids))
    (sym c.in-Entries.is) c.is_enough_by_entries.ensures.apart
