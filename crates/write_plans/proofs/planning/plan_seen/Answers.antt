use Rattle.std.proofs.Common.{List, ℕ, Err, Ok, length, subst, arith}
use Rattle.std.proofs.lemmas.Result.{err_from_is_err_and}
use Rattle.row_store.specs.declared.change.Change.{Change}
use Rattle.version_graph.specs.Sets.{Each}
use Rattle.version_model.specs.declared.numbered.Numbered.{Numbered}
use Rattle.kept_keys.specs.Changed.{IsPrepared}
use Rattle.kept_keys.proofs.KeptLaws.{both_same, same_right}
use Rattle.db_state.specs.Fields.{state_for}
use Rattle.db_state.specs.Parts.{passes}
use Rattle.db_state.proofs.BoundLaws.{seen_less, seen_sum}
use Rattle.write_plans.proofs.AuxLemmas.{sees_read, sees_rise}
use Rattle.write_plans.proofs.SeenLemmas.{may_change_auxes}
use Rattle.write_plans.proofs.ShownLemmas.{seen_makes, shown}
use Rattle.write_plans.proofs.PlanLemmas.{has_old, keys_lead, planned, refused, tells_carried, tells_changed}
use Rattle.write_plans.proofs.planning.plan_seen.Goals as goal

pub returns-in_err-making-clause-plans : goal.returns-in_err-making-clause-plans
returns-in_err-making-clause-plans g c =
    let m = g.O.Operator.meaning in
    let laws = g.met.O.Operator.laws in
    let d = c.args.db.now in
    let may = c.requires.may in
    let shows = shown m laws d may.kept c.args.tree.now c.args.written may c.args.sight c.requires.sees c.requires.named in
    let p = err_from_is_err_and c.from_residual.result c.from_residual.ensures.1 in
    rw (p.1, p.2) (refused m laws d may.kept c.args.tree.now c.args.written may (passes c.args.sight) shows c.in_err-making.field-0.0
    (seen_makes m d c.args.tree.now c.args.written c.args.sight c.requires.sees (Err c.in_err-making.field-0.0) c.in_err-making.ensures.makes))

pub make_write-requires-clause-sees : goal.make_write-requires-clause-sees
make_write-requires-clause-sees g c =
    let m = g.O.Operator.meaning in
    let d = c.args.db.now in
    sees_read m d.graph.edges (state_for m d) c.args.tree.now.operators c.args.sight c.requires.sees

pub plan_of-requires-clause-ascends : goal.plan_of-requires-clause-ascends
plan_of-requires-clause-ascends g c =
    let m = g.O.Operator.meaning in
    let d = c.args.db.now in
    let ns = c.args.tree.now.operators in
    sees_rise m d.graph.edges (state_for m d) ns c.args.sight (sees_read m d.graph.edges (state_for m d) ns c.args.sight c.requires.sees)

pub plan_of-requires-clause-sees : goal.plan_of-requires-clause-sees
plan_of-requires-clause-sees g c =
    let m = g.O.Operator.meaning in
    let d = c.args.db.now in
    sees_read m d.graph.edges (state_for m d) c.args.tree.now.operators c.args.sight c.requires.sees

pub plan_of-requires-clause-may : goal.plan_of-requires-clause-may
plan_of-requires-clause-may g c =
    let m = g.O.Operator.meaning in
    let d = c.args.db.now in
    let sees = sees_read m d.graph.edges (state_for m d) c.args.tree.now.operators c.args.sight c.requires.sees in
    may_change_auxes m g.met.O.Operator.laws d c.requires.may.kept c.args.tree.now c.args.written c.requires.may c.args.sight sees c.requires.named c.in_ok-making.making c.in_ok-making.ensures.makes

pub returns-clause-plans : goal.returns-clause-plans
returns-clause-plans g c =
    let m = g.O.Operator.meaning in
    let laws = g.met.O.Operator.laws in
    let d = c.args.db.now in
    let may = c.requires.may in
    let shows = shown m laws d may.kept c.args.tree.now c.args.written may c.args.sight c.requires.sees c.requires.named in
    let makes = seen_makes m d c.args.tree.now c.args.written c.args.sight c.requires.sees (Ok c.in_ok-making.making) c.in_ok-making.ensures.makes in
    planned m laws d may.kept c.args.tree.now c.args.written may (passes c.args.sight) shows c.in_ok-making.making makes c.in_ok-plan.plan c.in_ok-plan.ensures.plans

pub returns-clause-tells : goal.returns-clause-tells
returns-clause-tells g c =
    let m = g.O.Operator.meaning in
    let laws = g.met.O.Operator.laws in
    let d = c.args.db.now in
    let may = c.requires.may in
    let shows = shown m laws d may.kept c.args.tree.now c.args.written may c.args.sight c.requires.sees c.requires.named in
    let makes = seen_makes m d c.args.tree.now c.args.written c.args.sight c.requires.sees (Ok c.in_ok-making.making) c.in_ok-making.ensures.makes in
    tells_changed m laws d may.kept c.args.tree.now c.args.written may (passes c.args.sight) shows c.in_ok-making.making makes c.in_ok-plan.plan c.in_ok-plan.ensures.plans

pub returns-clause-carried : goal.returns-clause-carried
returns-clause-carried g c =
    let m = g.O.Operator.meaning in
    let laws = g.met.O.Operator.laws in
    let d = c.args.db.now in
    let may = c.requires.may in
    let shows = shown m laws d may.kept c.args.tree.now c.args.written may c.args.sight c.requires.sees c.requires.named in
    let makes = seen_makes m d c.args.tree.now c.args.written c.args.sight c.requires.sees (Ok c.in_ok-making.making) c.in_ok-making.ensures.makes in
    tells_carried m laws d may.kept c.args.tree.now c.args.written may (passes c.args.sight) shows c.in_ok-making.making makes c.in_ok-plan.plan c.in_ok-plan.ensures.plans

pub returns-clause-old : goal.returns-clause-old
returns-clause-old g c =
    let m = g.O.Operator.meaning in
    let laws = g.met.O.Operator.laws in
    let d = c.args.db.now in
    let may = c.requires.may in
    let shows = shown m laws d may.kept c.args.tree.now c.args.written may c.args.sight c.requires.sees c.requires.named in
    let makes = seen_makes m d c.args.tree.now c.args.written c.args.sight c.requires.sees (Ok c.in_ok-making.making) c.in_ok-making.ensures.makes in
    has_old m laws d may.kept c.args.tree.now c.args.written may (passes c.args.sight) shows c.in_ok-making.making makes c.in_ok-plan.plan c.in_ok-plan.ensures.plans

pub returns-in_err-making-clause-steps : goal.returns-in_err-making-clause-steps
returns-in_err-making-clause-steps g c = seen_less 8 16 c.args.sight (length c.args.tree.now.operators) c.args.steps.now c.make_write.new.steps (omega arith) c.in_err-making.ensures.steps

pub returns-in_err-plan-clause-steps : goal.returns-in_err-plan-clause-steps
returns-in_err-plan-clause-steps g c = seen_sum 8 8 c.args.sight (length c.args.tree.now.operators) c.args.steps.now c.make_write.new.steps c.plan_of.new.steps c.in_ok-making.ensures.steps c.in_err-plan.ensures.steps

pub returns-clause-steps : goal.returns-clause-steps
returns-clause-steps g c = seen_sum 8 8 c.args.sight (length c.args.tree.now.operators) c.args.steps.now c.make_write.new.steps c.plan_of.new.steps c.in_ok-making.ensures.steps c.in_ok-plan.ensures.steps

pub returns-in_err-making-clause-kept : goal.returns-in_err-making-clause-kept
returns-in_err-making-clause-kept g c = both_same c.args.keys.now.items

pub returns-clause-keys : goal.returns-clause-keys
returns-clause-keys g c =
    let m = g.O.Operator.meaning in
    let laws = g.met.O.Operator.laws in
    let d = c.args.db.now in
    let may = c.requires.may in
    let tree = c.args.tree.now in
    let making = c.in_ok-making.making in
    let shows = shown m laws d may.kept tree c.args.written may c.args.sight c.requires.sees c.requires.named in
    let ready = subst (λ (l : List ℕ). Each (IsPrepared l c.as_slice.result.now) c.prepare.new.keys.items) c.as_slice-tables.ensures c.in_ok-prepare.ensures.ok in
    let prepared = subst (λ (l : List (Numbered (List Change))). Each (IsPrepared tree.tables l) c.prepare.new.keys.items) c.as_slice.ensures ready in
    let makes = seen_makes m d tree c.args.written c.args.sight c.requires.sees (Ok making) c.in_ok-making.ensures.makes in
    keys_lead m laws d may.kept tree c.args.written may (passes c.args.sight) shows making makes c.in_ok-plan.plan c.in_ok-plan.ensures.plans c.prepare.new.keys.items
    (same_right (state_for m d).tables c.args.keys.now.items c.prepare.new.keys.items c.requires.right c.in_ok-prepare.ensures.same) prepared
