use Rattle.std.proofs.Common.{sym, subst}
use Rattle.op_law.specs.Calls.{seen, IsMapped}
use Rattle.op_law.specs.Meaning.{flip, exchanged}
use Rattle.op_law.specs.Premises.{SomeMap}
use Rattle.pair_rows.specs.Shown.{Joining}
use Rattle.outer_law.specs.OuterOn.{outer_on, outer_backward}
use Rattle.op_outer_cond.proofs.mapping.backward.Goals as goal

pub backward_with-requires : goal.backward_with-requires
backward_with-requires g c = subst (λ (j : Joining). SomeMap (flip (outer_on j)) c.args.near.now (exchanged (seen c.args.old.now)) c.args.ids.now.next) (sym c.outer_of-join.ensures) c.requires

pub returns : goal.returns
returns g c =
    subst (λ (j : Joining). IsMapped (outer_backward j c.args.near.now (seen c.args.old.now) c.args.ids.now.next) c.args.ids.now c.backward_with.new.ids c.backward_with.result) c.outer_of-join.ensures c.backward_with.ensures
