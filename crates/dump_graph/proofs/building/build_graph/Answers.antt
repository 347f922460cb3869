use Rattle.std.specs.Prelude.{Err}
use Rattle.std.proofs.Common.{◌∙◌, ap, subst, sym}
use Rattle.std.proofs.lemmas.Result.{err_from_is_err_and}
use Rattle.dump_graph.specs.Graphs.{BuildsGraph}
use Rattle.dump_graph.specs.inner.Placing.{ArePlaced, PlacesLines}
use Rattle.dump_graph.specs.inner.Naming.{AreNamed, NamesLines}
use Rattle.dump_graph.proofs.BuildingLemmas.{is_built, new_is, unended, unnamed, unplaced}
use Rattle.dump_graph.proofs.building.build_graph.Goals as goal

pub returns-in_err-place_lines : goal.returns-in_err-place_lines
returns-in_err-place_lines c =
    let graph = c.new-graph.ensures in
    let fault = c.in_err-place_lines.field-0.0 in
    let empty = new_is c.new-graph.result graph.edges graph.versions graph.numbers in
    let error = err_from_is_err_and c.from_residual.result c.from_residual.ensures.1 in
    let places : PlacesLines c.args.next c.new-graph.result c.args.lines.now.operators (Err fault) c.place_lines.new.graph =
    subst (λ ls. PlacesLines c.args.next c.new-graph.result ls (Err fault) c.place_lines.new.graph) c.as_slice.ensures c.in_err-place_lines.ensures in
    subst (BuildsGraph c.args.next c.args.lines.now) (sym (error.1 ∙ ap (λ f. Err f) error.2)) (unplaced c.args.next c.args.lines.now c.new-graph.result c.place_lines.new.graph fault empty places)

pub returns-in_err-name_lines : goal.returns-in_err-name_lines
returns-in_err-name_lines c =
    let graph = c.new-graph.ensures in
    let fault = c.in_err-name_lines.field-0.0 in
    let empty = new_is c.new-graph.result graph.edges graph.versions graph.numbers in
    let error = err_from_is_err_and c.from_residual-in_err-name_lines.result c.from_residual-in_err-name_lines.ensures.1 in
    let placed : ArePlaced c.args.next c.new-graph.result c.args.lines.now.operators c.place_lines.new.graph =
    subst (λ ls. ArePlaced c.args.next c.new-graph.result ls c.place_lines.new.graph) c.as_slice.ensures c.in_ok-place_lines.ensures in
    let names : NamesLines c.place_lines.new.graph c.args.lines.now.versions (Err fault) c.name_lines.new.graph =
    subst (λ ls. NamesLines c.place_lines.new.graph ls (Err fault) c.name_lines.new.graph) c.as_slice-2.ensures c.in_err-name_lines.ensures in
    subst (BuildsGraph c.args.next c.args.lines.now) (sym (error.1 ∙ ap (λ f. Err f) error.2))
    (unnamed c.args.next c.args.lines.now c.new-graph.result c.place_lines.new.graph empty placed c.operators_are_said.ensures c.operator_is_one.ensures c.name_lines.new.graph fault names)

pub returns-in-Ok : goal.returns-in-Ok
returns-in-Ok c =
    let graph = c.new-graph.ensures in
    let empty = new_is c.new-graph.result graph.edges graph.versions graph.numbers in
    let placed : ArePlaced c.args.next c.new-graph.result c.args.lines.now.operators c.place_lines.new.graph =
    subst (λ ls. ArePlaced c.args.next c.new-graph.result ls c.place_lines.new.graph) c.as_slice.ensures c.in_ok-place_lines.ensures in
    let named : AreNamed c.place_lines.new.graph c.args.lines.now.versions c.name_lines.new.graph =
    subst (λ ls. AreNamed c.place_lines.new.graph ls c.name_lines.new.graph) c.as_slice-2.ensures c.in_ok-name_lines.ensures in (
      c.live_operators-live.ensures.graph,
      is_built c.args.next c.args.lines.now c.new-graph.result c.place_lines.new.graph empty placed c.name_lines.new.graph c.end_placing.new.self named c.in-Ok.ensures.answers.1 c.in-Ok.ensures.finished,
    )

pub returns-in-Err : goal.returns-in-Err
returns-in-Err c =
    let graph = c.new-graph.ensures in
    let empty = new_is c.new-graph.result graph.edges graph.versions graph.numbers in
    let placed : ArePlaced c.args.next c.new-graph.result c.args.lines.now.operators c.place_lines.new.graph =
    subst (λ ls. ArePlaced c.args.next c.new-graph.result ls c.place_lines.new.graph) c.as_slice.ensures c.in_ok-place_lines.ensures in
    let named : AreNamed c.place_lines.new.graph c.args.lines.now.versions c.name_lines.new.graph =
    subst (λ ls. AreNamed c.place_lines.new.graph ls c.name_lines.new.graph) c.as_slice-2.ensures c.in_ok-name_lines.ensures in
    unended c.args.next c.args.lines.now c.new-graph.result c.place_lines.new.graph empty placed c.operators_are_said.ensures c.operator_is_one.ensures c.name_lines.new.graph named c.in-Err.ensures.answers.0
