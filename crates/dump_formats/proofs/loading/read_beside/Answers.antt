use Rattle.std.proofs.Common.{ℕ, List, [], ap, sym, subst, ◌∙◌}
use Rattle.version_graph.specs.Edges.{Drawn}
use Rattle.layout_rules.specs.declared.layout.Layout.{Layout}
use Rattle.migration.specs.Pending.{IsPending}
use Rattle.migration.proofs.PendingLaws.{none_pending}
use Rattle.op_any.specs.Operators.{AnyView}
use Rattle.dump_formats.proofs.loading.read_beside.Goals as goal

pub read_pending-requires : goal.read_pending-requires
read_pending-requires c =
    let p = c.args.database.now in
    let kept = c.graph.ensures.kept in
    subst (λ (k : Drawn AnyView × List ℕ). IsPending k.0.edges k.1 []) (λ i. (sym c.graph-2.ensures.graph i, sym (c.as_slice-layout.ensures ∙ ap (λ (l : Layout). l.operators) c.layout.ensures) i))
    (none_pending p.graph.edges kept.graph.edges p.layout.operators kept.ascending kept.valid)
