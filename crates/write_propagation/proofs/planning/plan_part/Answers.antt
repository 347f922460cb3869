use Rattle.std.specs.Prelude.{true}
use Rattle.std.proofs.Common.{ℕ, List, sym, subst}
use Rattle.row_store.specs.declared.change.Change.{Change}
use Rattle.version_graph.specs.Sets.{Each}
use Rattle.op_law.specs.Identifiers.{IdsRise, has_id}
use Rattle.row_changes.specs.Touched.{AllPass}
use Rattle.version_model.specs.declared.numbered.Numbered.{Numbered}
use Rattle.kept_keys.specs.Changed.{IsPrepared}
use Rattle.kept_keys.proofs.KeptLaws.{same_right}
use Rattle.db_state.specs.Fields.{state_for}
use Rattle.db_state.specs.Parts.{SplitsAt}
use Rattle.db_state.specs.declared.sight.Sight.TheVariants.{Part}
use Rattle.write_plans.specs.Making.{IsMaking, IsPlanOf}
use Rattle.write_propagation.proofs.PartFoundLemmas.{made_test, named_ids, part_found, plan_test, split_ids, test}
use Rattle.write_plans.proofs.PlanLemmas.{has_old, keys_lead, planned, tells_carried, tells_changed}
use Rattle.write_plans.proofs.SeenLemmas.{may_change_auxes}
use Rattle.write_propagation.proofs.planning.plan_part.Goals as goal

pub plan_of-requires-clause-ascends : goal.plan_of-requires-clause-ascends
plan_of-requires-clause-ascends g c = subst (λ (l : List ℕ). IdsRise 0 l) (sym c.as_slice-2.ensures) c.requires.part.closed.rise

pub plan_of-requires-clause-sees : goal.plan_of-requires-clause-sees
plan_of-requires-clause-sees g c =
    let m = g.O.Operator.meaning in
    let seeks = g.O.Seeks.seeks in
    let d = c.args.db.now in
    let tree = c.args.writing.tree.now in
    let split = split_ids m seeks g.met.O.Operator.laws g.met.O.Seeks.seeking d c.requires.may.kept tree c.args.writing.written.now c.requires.may c.args.keys.now.items c.requires.right c.args.part.ids c.requires.part.closed in
    subst (λ (l : List ℕ). IdsRise 0 l × SplitsAt m d.graph.edges (state_for m d) tree.operators (has_id l)) (sym c.as_slice-2.ensures) (c.requires.part.closed.rise, split)

pub plan_of-requires-clause-may : goal.plan_of-requires-clause-may
plan_of-requires-clause-may g c =
    let m = g.O.Operator.meaning in
    let seeks = g.O.Seeks.seeks in
    let laws = g.met.O.Operator.laws in
    let d = c.args.db.now in
    let may = c.requires.may in
    let tree = c.args.writing.tree.now in
    let w = c.args.writing.written.now in
    let part = c.args.part in
    let items = c.args.keys.now.items in
    let split = split_ids m seeks laws g.met.O.Seeks.seeking d may.kept tree w may items c.requires.right part.ids c.requires.part.closed in
    let named = named_ids m seeks laws g.met.O.Seeks.seeking d may.kept tree w may items c.requires.right part.ids c.requires.part.closed in
    let sees = subst (λ (l : List ℕ). IdsRise 0 l × SplitsAt m d.graph.edges (state_for m d) tree.operators (has_id l)) (sym c.as_slice-2.ensures) (c.requires.part.closed.rise, split) in
    may_change_auxes m laws d may.kept tree w may (Part c.as_slice-2.result) sees (subst (λ (l : List ℕ). AllPass (has_id l) w.changes) (sym c.as_slice-2.ensures) named) part.making
    (subst (λ (l : List ℕ). IsMaking m d tree w (has_id l) (λ id. true) part.making) (sym c.as_slice-2.ensures) c.requires.part.making)

pub returns-clause-plans : goal.returns-clause-plans
returns-clause-plans g c =
    let m = g.O.Operator.meaning in
    let seeks = g.O.Seeks.seeks in
    let laws = g.met.O.Operator.laws in
    let seeking = g.met.O.Seeks.seeking in
    let d = c.args.db.now in
    let may = c.requires.may in
    let good = may.kept in
    let tree = c.args.writing.tree.now in
    let w = c.args.writing.written.now in
    let part = c.args.part in
    let it = c.requires.part in
    let items = c.args.keys.now.items in
    let right = c.requires.right in
    let P = test m seeks laws seeking d good tree w may items right part.ids it.closed in
    let shows = part_found m seeks laws seeking d good tree w may items right part.ids it.closed part.making it.making it.names it.enough in
    let makes = made_test m seeks laws seeking d good tree w may items right part.ids it.closed part.making it.making it.names in
    let for = plan_test m seeks laws seeking d good tree w may items right part.ids it.closed part.making it.making it.names c.in_ok-plan.plan
    (subst (λ (l : List ℕ). IsPlanOf m d tree (has_id l) part.making c.in_ok-plan.plan) c.as_slice-2.ensures c.in_ok-plan.ensures.plans) in
    planned m laws d good tree w may P shows part.making makes c.in_ok-plan.plan for

pub returns-clause-tells : goal.returns-clause-tells
returns-clause-tells g c =
    let m = g.O.Operator.meaning in
    let seeks = g.O.Seeks.seeks in
    let laws = g.met.O.Operator.laws in
    let seeking = g.met.O.Seeks.seeking in
    let d = c.args.db.now in
    let may = c.requires.may in
    let good = may.kept in
    let tree = c.args.writing.tree.now in
    let w = c.args.writing.written.now in
    let part = c.args.part in
    let it = c.requires.part in
    let items = c.args.keys.now.items in
    let right = c.requires.right in
    let P = test m seeks laws seeking d good tree w may items right part.ids it.closed in
    let shows = part_found m seeks laws seeking d good tree w may items right part.ids it.closed part.making it.making it.names it.enough in
    let makes = made_test m seeks laws seeking d good tree w may items right part.ids it.closed part.making it.making it.names in
    let for = plan_test m seeks laws seeking d good tree w may items right part.ids it.closed part.making it.making it.names c.in_ok-plan.plan
    (subst (λ (l : List ℕ). IsPlanOf m d tree (has_id l) part.making c.in_ok-plan.plan) c.as_slice-2.ensures c.in_ok-plan.ensures.plans) in
    tells_changed m laws d good tree w may P shows part.making makes c.in_ok-plan.plan for

pub returns-clause-carried : goal.returns-clause-carried
returns-clause-carried g c =
    let m = g.O.Operator.meaning in
    let seeks = g.O.Seeks.seeks in
    let laws = g.met.O.Operator.laws in
    let seeking = g.met.O.Seeks.seeking in
    let d = c.args.db.now in
    let may = c.requires.may in
    let good = may.kept in
    let tree = c.args.writing.tree.now in
    let w = c.args.writing.written.now in
    let part = c.args.part in
    let it = c.requires.part in
    let items = c.args.keys.now.items in
    let right = c.requires.right in
    let P = test m seeks laws seeking d good tree w may items right part.ids it.closed in
    let shows = part_found m seeks laws seeking d good tree w may items right part.ids it.closed part.making it.making it.names it.enough in
    let makes = made_test m seeks laws seeking d good tree w may items right part.ids it.closed part.making it.making it.names in
    let for = plan_test m seeks laws seeking d good tree w may items right part.ids it.closed part.making it.making it.names c.in_ok-plan.plan
    (subst (λ (l : List ℕ). IsPlanOf m d tree (has_id l) part.making c.in_ok-plan.plan) c.as_slice-2.ensures c.in_ok-plan.ensures.plans) in
    tells_carried m laws d good tree w may P shows part.making makes c.in_ok-plan.plan for

pub returns-clause-old : goal.returns-clause-old
returns-clause-old g c =
    let m = g.O.Operator.meaning in
    let seeks = g.O.Seeks.seeks in
    let laws = g.met.O.Operator.laws in
    let seeking = g.met.O.Seeks.seeking in
    let d = c.args.db.now in
    let may = c.requires.may in
    let good = may.kept in
    let tree = c.args.writing.tree.now in
    let w = c.args.writing.written.now in
    let part = c.args.part in
    let it = c.requires.part in
    let items = c.args.keys.now.items in
    let right = c.requires.right in
    let P = test m seeks laws seeking d good tree w may items right part.ids it.closed in
    let shows = part_found m seeks laws seeking d good tree w may items right part.ids it.closed part.making it.making it.names it.enough in
    let makes = made_test m seeks laws seeking d good tree w may items right part.ids it.closed part.making it.making it.names in
    let for = plan_test m seeks laws seeking d good tree w may items right part.ids it.closed part.making it.making it.names c.in_ok-plan.plan
    (subst (λ (l : List ℕ). IsPlanOf m d tree (has_id l) part.making c.in_ok-plan.plan) c.as_slice-2.ensures c.in_ok-plan.ensures.plans) in
    has_old m laws d good tree w may P shows part.making makes c.in_ok-plan.plan for

pub returns-clause-keys : goal.returns-clause-keys
returns-clause-keys g c =
    let m = g.O.Operator.meaning in
    let seeks = g.O.Seeks.seeks in
    let laws = g.met.O.Operator.laws in
    let seeking = g.met.O.Seeks.seeking in
    let d = c.args.db.now in
    let may = c.requires.may in
    let good = may.kept in
    let tree = c.args.writing.tree.now in
    let w = c.args.writing.written.now in
    let part = c.args.part in
    let it = c.requires.part in
    let items = c.args.keys.now.items in
    let right = c.requires.right in
    let P = test m seeks laws seeking d good tree w may items right part.ids it.closed in
    let shows = part_found m seeks laws seeking d good tree w may items right part.ids it.closed part.making it.making it.names it.enough in
    let makes = made_test m seeks laws seeking d good tree w may items right part.ids it.closed part.making it.making it.names in
    let for = plan_test m seeks laws seeking d good tree w may items right part.ids it.closed part.making it.making it.names c.in_ok-plan.plan
    (subst (λ (l : List ℕ). IsPlanOf m d tree (has_id l) part.making c.in_ok-plan.plan) c.as_slice-2.ensures c.in_ok-plan.ensures.plans) in
    let ready = subst (λ (l : List ℕ). Each (IsPrepared l c.as_slice.result.now) c.prepare.new.keys.items) c.as_slice-tables.ensures c.in_ok-prepare.ensures.ok in
    let prepared = subst (λ (l : List (Numbered (List Change))). Each (IsPrepared tree.tables l) c.prepare.new.keys.items) c.as_slice.ensures ready in
    keys_lead m laws d good tree w may P shows part.making makes c.in_ok-plan.plan for c.prepare.new.keys.items
    (same_right (state_for m d).tables items c.prepare.new.keys.items right c.in_ok-prepare.ensures.same) prepared
