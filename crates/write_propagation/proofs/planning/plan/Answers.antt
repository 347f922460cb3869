use Rattle.std.proofs.Common.{Ok, length, subst, sym}
use Rattle.version_graph.specs.Edges.{Drawn}
use Rattle.version_model.specs.Kept.{Database}
use Rattle.kept_keys.specs.Kept.{AreKeysOf}
use Rattle.write_plans.specs.Plans.{rows_written}
use Rattle.write_plans.specs.Trees.{IsTree}
use Rattle.write_plans.proofs.WholeLemmas.{fewer_operators, path_few, tree_local}
use Rattle.write_plans.proofs.LeadLemmas.{changes_same, keys_same, plans_same, same_database, same_self}
use Rattle.write_plans.proofs.HoldLaws.{holds_self}
use Rattle.write_propagation.proofs.planning.plan.Goals as goal

pub returns-in_err-tree-clause-same : goal.returns-in_err-tree-clause-same
returns-in_err-tree-clause-same g c = same_self c.args.db.now

pub returns-in_err-plan-clause-same : goal.returns-in_err-plan-clause-same
returns-in_err-plan-clause-same g c = same_self c.args.db.now

pub returns-in_err-make_room-clause-data : goal.returns-in_err-make_room-clause-data
returns-in_err-make_room-clause-data g c = (same_database g.O.Operator.meaning g.met.O.Operator.laws c.args.db.now c.graph.ensures.kept c.make_room.new.db c.make_room.ensures.same).1

pub returns-clause-data : goal.returns-clause-data
returns-clause-data g c = (same_database g.O.Operator.meaning g.met.O.Operator.laws c.args.db.now c.graph.ensures.kept c.make_room.new.db c.make_room.ensures.same).1

pub returns-clause-plans : goal.returns-clause-plans
returns-clause-plans g c =
    let d = c.args.db.now in
    let w = c.args.written in
    plans_same g.O.Operator.meaning g.met.O.Operator.laws d c.graph.ensures.kept c.make_room.new.db c.make_room.ensures.same w.set w.table (rows_written g.O.Operator.meaning d w) w.ids.next (Ok c.in_ok-plan.plan) c.in_ok-plan.ensures.plans

pub returns-clause-ready : goal.returns-clause-ready
returns-clause-ready g c = (changes_same c.args.db.now c.make_room.new.db c.in_ok-plan.plan c.make_room.ensures.same c.in_ok-plan.ensures.old, c.in_ok-make_room.ensures.room)

pub returns-in_err-plan-clause-steps : goal.returns-in_err-plan-clause-steps
returns-in_err-plan-clause-steps g c local =
    let d = c.args.db.now in
    let tree = c.in_ok-tree.tree in
    let is = subst (λ (x : Drawn _). IsTree x.edges c.args.written.set c.args.written.table tree) c.graph.ensures.graph c.in_ok-tree.ensures in
    let at = tree_local d.graph.edges c.args.written.set c.args.written.table tree is c.graph.ensures.kept.graph.edges g.O.Operator.meaning local in
    fewer_operators (length c.args.written.changes) _ _ _ _ (path_few d.graph.edges c.args.written.set c.args.written.table tree is) (c.in_err-plan.ensures.steps at)

pub returns-in_err-make_room-clause-steps : goal.returns-in_err-make_room-clause-steps
returns-in_err-make_room-clause-steps g c local =
    let d = c.args.db.now in
    let tree = c.in_ok-tree.tree in
    let is = subst (λ (x : Drawn _). IsTree x.edges c.args.written.set c.args.written.table tree) c.graph.ensures.graph c.in_ok-tree.ensures in
    let at = tree_local d.graph.edges c.args.written.set c.args.written.table tree is c.graph.ensures.kept.graph.edges g.O.Operator.meaning local in
    fewer_operators (length c.args.written.changes) _ _ _ _ (path_few d.graph.edges c.args.written.set c.args.written.table tree is) (c.in_ok-plan.ensures.steps at)

pub returns-clause-steps : goal.returns-clause-steps
returns-clause-steps g c local =
    let d = c.args.db.now in
    let tree = c.in_ok-tree.tree in
    let is = subst (λ (x : Drawn _). IsTree x.edges c.args.written.set c.args.written.table tree) c.graph.ensures.graph c.in_ok-tree.ensures in
    let at = tree_local d.graph.edges c.args.written.set c.args.written.table tree is c.graph.ensures.kept.graph.edges g.O.Operator.meaning local in
    fewer_operators (length c.args.written.changes) _ _ _ _ (path_few d.graph.edges c.args.written.set c.args.written.table tree is) (c.in_ok-plan.ensures.steps at)

pub returns-in_err-tree-clause-capacity : goal.returns-in_err-tree-clause-capacity
returns-in_err-tree-clause-capacity g c = holds_self c.args.db.now

pub returns-in_err-plan-clause-capacity : goal.returns-in_err-plan-clause-capacity
returns-in_err-plan-clause-capacity g c = holds_self c.args.db.now

pub returns-in_err-make_room-clause-right : goal.returns-in_err-make_room-clause-right
returns-in_err-make_room-clause-right g c =
    let m = g.O.Operator.meaning in
    let same = (same_database m g.met.O.Operator.laws c.args.db.now c.graph.ensures.kept c.make_room.new.db c.make_room.ensures.same).1 in
    subst (λ (x : Database _). AreKeysOf x.state.tables c.plan_tree.new.keys.items) (sym same) c.in_ok-plan.ensures.right

pub returns-clause-right : goal.returns-clause-right
returns-clause-right g c =
    let m = g.O.Operator.meaning in
    let same = (same_database m g.met.O.Operator.laws c.args.db.now c.graph.ensures.kept c.make_room.new.db c.make_room.ensures.same).1 in
    subst (λ (x : Database _). AreKeysOf x.state.tables c.plan_tree.new.keys.items) (sym same) c.in_ok-plan.ensures.right

pub returns-clause-keys : goal.returns-clause-keys
returns-clause-keys g c =
    keys_same g.O.Operator.meaning c.args.db.now c.make_room.new.db c.plan_tree.new.keys.items c.in_ok-plan.plan c.make_room.ensures.same c.in_ok-plan.ensures.keys
