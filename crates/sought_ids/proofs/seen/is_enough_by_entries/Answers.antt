use Rattle.std.proofs.Common.{ℕ, List, sym, ◌∙◌, subst}
use Rattle.op_seeks.specs.Seeking.{ApartOver, FootprintOf}
use Rattle.op_seeks.specs.declared.known.Known.TheVariants.{Entries}
use Rattle.sought_ids.proofs.seen.is_enough_by_entries.Goals as goal

pub returns-clause-foot : goal.returns-clause-foot
returns-clause-foot g c is =
    let over = c.args.over.now in
    subst (λ (l : List ℕ). FootprintOf (g.O.Operator.meaning over.operator.now) (g.O.Seeks.seeks over.operator.now) over.backward (Entries c.args.it.now) c.args.sides.now.near.tables l)
    (sym c.as_slice.ensures ∙ c.are_same.ensures is) c.in_ok-seen.ensures.foot

pub returns-clause-apart : goal.returns-clause-apart
returns-clause-apart g c is =
    let over = c.args.over.now in
    let sides = c.args.sides.now in
    subst (λ (l : List ℕ). ApartOver (g.O.Operator.meaning over.operator.now) (g.O.Seeks.seeks over.operator.now) over.backward (Entries c.args.it.now) sides.near.tables sides.changes.tables l)
    (sym c.as_slice.ensures ∙ c.are_same.ensures is) c.in_ok-seen.ensures.apart
