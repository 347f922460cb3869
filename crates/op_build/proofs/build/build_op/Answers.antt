use Rattle.std.proofs.Common.{◌≡◌, refl, subst, sym}
use Rattle.std.specs.Prelude.{Ok}
use Rattle.statements.specs.Views.{OpView}
use Rattle.op_any.specs.Build.{planned_edge}
use Rattle.op_any.specs.Edges.{edge_view}
use Rattle.op_build.proofs.build.build_op.Goals as goal

pub with_text-requires : goal.with_text-requires
with_text-requires c =
    let e = edge_view c.in_ok-edge.edge in
    (c.args.set.now, c.args.next, e, subst (λ (t : OpView). planned_edge c.args.set.now c.args.next t ≡ Ok e) (sym c.in-Ok.ensures) c.in_ok-edge.ensures, refl)
