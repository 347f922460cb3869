use Rattle.std.specs.Prelude.{true}
use Rattle.std.proofs.Common.{sym, subst}
use Rattle.row_store.specs.Changes.{ChangesRise}
use Rattle.op_law.specs.Identifiers.{has_id}
use Rattle.row_changes.specs.Touched.{AllPass}
use Rattle.write_plans.specs.Making.{IsMaking, MayPlan}
use Rattle.write_plans.specs.declared.plans.RowWrite.{RowWrite}
use Rattle.write_propagation.proofs.parting.make_seen.Goals as goal

pub make_write-requires-clause-may : goal.make_write-requires-clause-may
make_write-requires-clause-may g c = subst (λ (w : RowWrite). MayPlan g.O.Operator.meaning c.args.db.now c.args.writing.tree.now w) (sym c.in_ok-copy.ensures) c.requires.may

pub make_write-requires-clause-sees : goal.make_write-requires-clause-sees
make_write-requires-clause-sees g c = (c.requires.ids, c.requires.split)

pub make_write-requires-clause-named : goal.make_write-requires-clause-named
make_write-requires-clause-named g c = subst (λ (w : RowWrite). AllPass (has_id c.args.ids.now) w.changes) (sym c.in_ok-copy.ensures) c.requires.named

pub make_write-requires-clause-rise : goal.make_write-requires-clause-rise
make_write-requires-clause-rise g c = subst (λ (w : RowWrite). ChangesRise 0 w.changes) (sym c.in_ok-copy.ensures) c.requires.rise

pub returns-in-Ok : goal.returns-in-Ok
returns-in-Ok g c = subst (λ (w : RowWrite). IsMaking g.O.Operator.meaning c.args.db.now c.args.writing.tree.now w (has_id c.args.ids.now) (λ id. true) c.in-Ok.making) c.in_ok-copy.ensures c.in-Ok.ensures.makes
