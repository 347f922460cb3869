use Rattle.std.proofs.Common.{◌≡◌, ℕ, List, ap, filter, ◌∙◌}
use Rattle.std.specs.Prelude.{◌↔◌}
use Rattle.version_graph.specs.Sets.{In}
use Rattle.version_graph.specs.Edges.{Rises}
use Rattle.version_graph.specs.Forest.{forest}
use Rattle.layout_rules.specs.Layouts.{IsStored}
use Rattle.layout_rules.specs.Lookups.{is_stored, tables_up}
use Rattle.layout_rules.proofs.PassLaws.{if_ok_more, stored_listed, stored_rise}
use Rattle.layout_rules.proofs.storing.stored_tables.Goals as goal

pub returns-clause-stored : goal.returns-clause-stored
returns-clause-stored g c =
    let es = c.args.graph.now.edges in
    let layout = c.args.layout.now.operators in
    if_ok_more (λ made. made ≡ filter (is_stored es c.as_slice.result.now) (tables_up es)) (λ made. (t : ℕ) → In t made ↔ IsStored (forest es) layout t)
    (λ made is. stored_listed es c.all_stored.ensures.edges layout made (is ∙ ap (λ (l : List ℕ). filter (is_stored es l) (tables_up es)) c.as_slice.ensures)) _ c.all_stored.ensures.value

pub returns-clause-ascending : goal.returns-clause-ascending
returns-clause-ascending g c =
    let es = c.args.graph.now.edges in
    if_ok_more (λ made. made ≡ filter (is_stored es c.as_slice.result.now) (tables_up es)) (Rises 0)
    (λ made is. stored_rise es c.all_stored.ensures.edges c.as_slice.result.now made is) _ c.all_stored.ensures.value
