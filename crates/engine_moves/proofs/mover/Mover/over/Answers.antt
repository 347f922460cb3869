use Rattle.std.proofs.Common.{ℕ, List, sym, subst}
use Rattle.migration.specs.Pending.{IsPending}
use Rattle.engine_moves.proofs.MoverLemmas.{none_leads}
use Rattle.engine_moves.proofs.mover.Mover.over.Goals as goal

pub invariant_of-result : goal.invariant_of-result
invariant_of-result c =
    let k = c.args.engine in
    subst (λ (l : List ℕ). IsPending k.graph.edges k.layout.operators l) (sym c.new.ensures) (none_leads k c.versions_always_agree.ensures.stored)
