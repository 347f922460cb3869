use Rattle.std.proofs.Common.{sym, subst}
use Rattle.op_law.specs.Calls.{seen, IsMapped}
use Rattle.op_law.specs.Premises.{SomeMap}
use Rattle.pair_rows.specs.Shown.{Joining}
use Rattle.outer_law.specs.OuterOn.{outer_on, outer_forward}
use Rattle.op_outer_cond.proofs.mapping.forward.Goals as goal

pub forward_with-requires : goal.forward_with-requires
forward_with-requires g c = subst (λ (j : Joining). SomeMap (outer_on j) c.args.near.now (seen c.args.old.now) c.args.ids.now.next) (sym c.outer_of-join.ensures) c.requires

pub returns : goal.returns
returns g c =
    subst (λ (j : Joining). IsMapped (outer_forward j c.args.near.now (seen c.args.old.now) c.args.ids.now.next) c.args.ids.now c.forward_with.new.ids c.forward_with.result) c.outer_of-join.ensures c.forward_with.ensures
