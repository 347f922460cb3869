use Rattle.std.proofs.Common.{Bool, sym, subst}
use Rattle.write_plans.specs.Trees.{SpreadsOver}
use Rattle.write_plans.proofs.SpreadLemmas.{spreads_both}
use Rattle.version_model.specs.Calls.{crossing_of}
use Rattle.write_plans.proofs.tree.spread_over.Goals as goal

pub returns : goal.returns
returns g c =
    let p = crossing_of c.args.over.now in
    subst (λ (b : Bool). SpreadsOver p c.args.tables.now c.add_tables-2.new.tables b) (sym c.either.ensures)
    (spreads_both p c.args.tables.now c.add_tables.new.tables c.add_tables-2.new.tables c.in_ok-near.near c.in_ok-far.far c.in_ok-near.ensures c.in_ok-far.ensures)
