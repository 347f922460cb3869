use Rattle.std.proofs.Common.{rules, ◌≡◌, List, subst}
use Rattle.par_base.specs.declared.value.Value.{Value}
use Rattle.op_cond_join.specs.Joinings.{joining}
use Rattle.outer_closing.specs.Assigned.{FindsPlaced}
use Rattle.outer_closing.proofs.placed.add_for_change.Goals as goal

pub returns-in_ok-add_placed-clause-found : goal.returns-in_ok-add_placed-clause-found
returns-in_ok-add_placed-clause-found c s t row known new =
    let it = c.args.it.now in
    let same : c.in-Some.row ≡ row = search rules in
    subst (λ (r : List Value). FindsPlaced (joining it.values.now.join.now) it.values.now.memory.now.entries it.replaced.now s t c.add_placed.new.ids c.args.change.now r) same (c.in_ok-add_placed.ensures.found s t known)
