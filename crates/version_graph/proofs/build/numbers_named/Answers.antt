use Rattle.std.proofs.Common.{ℕ, List, ◌++◌, ap, sym, ◌∙◌}
use Rattle.std.specs.Prelude.{option_to_list}
use Rattle.std.proofs.lemmas.List.{take_all}
use Rattle.version_graph.specs.Edges.{number_named}
use Rattle.version_graph.specs.Kept.{edges_of, numbers_named}
use Rattle.version_graph.proofs.TakenLaws.{numbers_named_more}
use Rattle.version_graph.proofs.build.numbers_named.Goals as goal

pub loop-name-preserved : goal.loop-name-preserved
loop-name-preserved g c =
    let es = edges_of c.args.nodes.now in
    let name = c.name-item.result in
    c.in_ok-push_found.ensures
    ∙ ap (λ (o : Rattle.std.specs.Prelude.Option ℕ). c.loop-name.made ++ option_to_list o) c.number_named.ensures
    ∙ ap (λ (l : List ℕ). l ++ option_to_list (number_named es c.args.tables.now name)) c.loop-name.invariant
    ∙ sym (numbers_named_more es c.args.tables.now c.args.names.now c.loop-name.name-index name c.loop-name-test.true c.name-item.is)

pub returns : goal.returns
returns g c =
    let names = c.args.names.now in
    c.loop-name.invariant ∙ ap (numbers_named (edges_of c.args.nodes.now) c.args.tables.now) (take_all c.loop-name.name-index names c.loop-name-test.false)
