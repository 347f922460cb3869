use Rattle.std.proofs.Common.{rules, ◌≡◌, List, subst}
use Rattle.par_base.specs.declared.value.Value.{Value}
use Rattle.op_cond_join.specs.Joinings.{joining}
use Rattle.cond_closing.specs.Assigned.{FindsBoth}
use Rattle.cond_closing.proofs.assigned.add_for_change.Goals as goal

pub returns-in_ok-add_found-clause-found : goal.returns-in_ok-add_found-clause-found
returns-in_ok-add_found-clause-found c s t row known new =
    let it = c.args.it.now in
    let same : c.in-Some.row ≡ row = search rules in
    subst (λ (r : List Value). FindsBoth (joining it.join.now) it.memory.now.entries s t c.add_found.new.ids c.args.change.now r) same (c.in_ok-add_found.ensures.found s t known)
