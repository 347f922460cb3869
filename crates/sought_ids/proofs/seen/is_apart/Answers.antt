use Rattle.std.proofs.Common.{ℕ, List, sym, ◌∙◌, subst}
use Rattle.op_seeks.specs.Seeking.{ApartOver}
use Rattle.op_seeks.specs.declared.known.Known.TheVariants.{Keys}
use Rattle.sought_ids.proofs.seen.is_apart.Goals as goal

pub returns : goal.returns
returns g c is =
    let over = c.args.over.now in
    let sides = c.args.sides.now in
    subst (λ (l : List ℕ). ApartOver (g.O.Operator.meaning over.operator.now) (g.O.Seeks.seeks over.operator.now) over.backward (Keys c.args.keys.now) sides.near.tables sides.changes.tables l)
    (sym c.as_slice.ensures ∙ c.are_same.ensures is) c.in_ok-apart.ensures.apart
