use Rattle.std.proofs.Common.{ℕ, List, ◌++◌, ap, ◌∙◌}
use Rattle.version_graph.specs.Kept.{edges_of, numbers_named}
use Rattle.version_graph.specs.Forest.{minus}
use Rattle.version_graph.proofs.TakenLaws.{set_right, sources_right}
use Rattle.version_graph.proofs.build.tables_on.Goals as goal

pub returns-clause-sources : goal.returns-clause-sources
returns-clause-sources g c =
    let before = c.tables_of_set-before.result.now in
    let es = edges_of c.args.nodes.now in
    sources_right es c.args.placed.now before c.in_ok-sources.sources c.requires.edges c.tables_of_set-before.ensures (c.in_ok-sources.ensures ∙ ap (numbers_named es before) c.as_slice.ensures)

pub returns-clause-set : goal.returns-clause-set
returns-clause-set g c =
    let before = c.tables_of_set-before.result.now in
    let es = edges_of c.args.nodes.now in
    set_right es c.args.placed.now before c.in_ok-sources.sources c.in_ok-set.set c.requires.edges c.requires.counted c.tables_of_set-before.ensures (c.in_ok-sources.ensures ∙ ap (numbers_named es before) c.as_slice.ensures)
    (c.in_ok-set.ensures ∙ ap (λ (l : List ℕ). minus before l ++ c.as_slice-3.result.now) c.as_slice-2.ensures ∙ ap (λ (l : List ℕ). minus before c.in_ok-sources.sources ++ l) c.as_slice-3.ensures)
