use Rattle.std.proofs.Common.{◌≡◌, ℕ, ◌<◌, map, sym, ap, subst, ◌∙◌}
use Rattle.std.specs.Option.{option_copied}
use Rattle.std.proofs.lemmas.List.{length-map}
use Rattle.std.proofs.lemmas.Result.{err_from_is_err_and}
use Rattle.statements.specs.Views.{op_view}
use Rattle.id_memory.specs.States.{CounterState}
use Rattle.op_any.specs.Operators.{any_meaning}
use Rattle.db_state.specs.Fields.{database_for}
use Rattle.engine_versions.specs.Plans.{IsPlanned}
use Rattle.engine_versions.proofs.CreateLemmas.{edges_fail}
use Rattle.engine_versions.proofs.KeptTextLaws.{planned_built}
use Rattle.engine_versions.proofs.LayoutLemmas.{layout_grown, layout_stays}
use Rattle.engine_versions.proofs.create.create_version.Goals as goal

pub evolve_db-requires-clause-some : goal.evolve_db-requires-clause-some
evolve_db-requires-clause-some g c =
    let k = c.args.database.now in
    let next : k.ids.next ≡ c.next.result = ap (λ (i : CounterState). i.next) (sym c.ids.ensures) ∙ sym c.next.ensures.value in
    let planned : IsPlanned (database_for any_meaning k) c.args.name (option_copied c.args.from) (map op_view c.args.texts.now) c.in_ok-edges.edges = c.in_ok-edges.ensures (database_for any_meaning k) (sym c.graph-graph.ensures.graph) next in
    planned.some

pub evolve_db-requires-clause-may : goal.evolve_db-requires-clause-may
evolve_db-requires-clause-may g c =
    let k = c.args.database.now in
    let next : k.ids.next ≡ c.next.result = ap (λ (i : CounterState). i.next) (sym c.ids.ensures) ∙ sym c.next.ensures.value in
    let planned : IsPlanned (database_for any_meaning k) c.args.name (option_copied c.args.from) (map op_view c.args.texts.now) c.in_ok-edges.edges = c.in_ok-edges.ensures (database_for any_meaning k) (sym c.graph-graph.ensures.graph) next in
    planned.may

pub returns-clause-gives : goal.returns-clause-gives
returns-clause-gives g c =
    let k = c.args.database.now in
    let next : k.ids.next ≡ c.next.result = ap (λ (i : CounterState). i.next) (sym c.ids.ensures) ∙ sym c.next.ensures.value in
    let planned : IsPlanned (database_for any_meaning k) c.args.name (option_copied c.args.from) (map op_view c.args.texts.now) c.in_ok-edges.edges = c.in_ok-edges.ensures (database_for any_meaning k) (sym c.graph-graph.ensures.graph) next in
    planned.gives c.evolve_db.result (database_for any_meaning c.evolve_db.new.db) c.evolve_db.ensures.evolves

pub returns-clause-layout : goal.returns-clause-layout
returns-clause-layout g c =
    layout_grown c.args.database.now c.graph-graph.ensures.kept c.evolve_db.new.db c.args.name (option_copied c.args.from) c.in_ok-edges.edges c.evolve_db.result c.evolve_db.ensures.evolves c.evolve_db.ensures.layout c.evolve_db.ensures.same

pub returns-clause-built : goal.returns-clause-built
returns-clause-built g c =
    let k = c.args.database.now in
    let next : k.ids.next ≡ c.next.result = ap (λ (i : CounterState). i.next) (sym c.ids.ensures) ∙ sym c.next.ensures.value in
    let texts = map op_view c.args.texts.now in
    let planned : IsPlanned (database_for any_meaning k) c.args.name (option_copied c.args.from) texts c.in_ok-edges.edges = c.in_ok-edges.ensures (database_for any_meaning k) (sym c.graph-graph.ensures.graph) next in
    let kept = c.graph-graph.ensures.kept in
    let some = subst (λ (n : ℕ). 0 < n) (sym (length-map c.args.texts.now op_view)) c.requires.some in
    planned_built (database_for any_meaning k) c.args.name (option_copied c.args.from) texts c.in_ok-edges.edges (database_for any_meaning c.evolve_db.new.db) c.evolve_db.result kept.graph kept.sound some c.requires.fit planned c.evolve_db.ensures.evolves

pub returns-in_err-edges-clause-gives : goal.returns-in_err-edges-clause-gives
returns-in_err-edges-clause-gives g c =
    let k = c.args.database.now in
    let next : k.ids.next ≡ c.next.result = ap (λ (i : CounterState). i.next) (sym c.ids.ensures) ∙ sym c.next.ensures.value in
    let p = err_from_is_err_and c.from_residual.result c.from_residual.ensures.1 in
    rw (p.1, p.2) (edges_fail c.graph-graph.result.now c.next.result c.args.name (option_copied c.args.from) (map op_view c.args.texts.now) c.in_err-edges.field-0.0 c.in_err-edges.ensures (database_for any_meaning k) (database_for any_meaning k) (sym c.graph-graph.ensures.graph) next)

pub returns-in_err-edges-clause-layout : goal.returns-in_err-edges-clause-layout
returns-in_err-edges-clause-layout g c = layout_stays c.args.database.now c.graph-graph.ensures.kept
