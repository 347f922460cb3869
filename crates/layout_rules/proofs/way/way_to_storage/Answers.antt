use Rattle.std.proofs.Common.{◌≡◌, ℕ, List, subst, sym}
use Rattle.std.specs.Prelude.{◌↔◌}
use mathlib.Core.List.{reverse}
use Rattle.version_graph.specs.Sets.{In}
use Rattle.version_graph.specs.Edges.{Rises}
use Rattle.version_graph.specs.Forest.{forest}
use Rattle.layout_rules.specs.inner.Reached.{way_along}
use Rattle.layout_rules.specs.Ways.{IsOnWay}
use Rattle.layout_rules.proofs.PassLaws.{if_ok_more}
use Rattle.layout_rules.proofs.WayPassLemmas.{way_is, way_listed, way_rise}
use Rattle.layout_rules.proofs.way.way_to_storage.Goals as goal

pub returns-clause-way : goal.returns-clause-way
returns-clause-way g c =
    let es = c.args.graph.now.edges in
    let layout = c.args.layout.now.operators in
    let ops = c.as_slice-operators.result.now in
    if_ok_more (λ made. made ≡ way_along es ops c.as_slice.result.now (reverse es)) (λ made. (n : ℕ) → In n made ↔ IsOnWay (forest es) layout c.args.table n)
    (λ made is n. subst (λ (l : List ℕ). In n l ↔ IsOnWay (forest es) layout c.args.table n)
    (sym (way_is es layout ops c.in_ok-tables.tables.items c.reach_up.new.tables.items c.reach_down.new.tables.items c.as_slice.result.now made is c.as_slice.ensures.value c.in_ok-reach_down.ensures c.in_ok-reach_up.ensures.value c.args.table c.in_ok-tables.ensures c.as_slice-operators.ensures))
    (way_listed es c.in_ok-reach_up.ensures.edges layout c.requires c.args.table n)) _ c.list_way.ensures

pub returns-clause-ascending : goal.returns-clause-ascending
returns-clause-ascending g c =
    let es = c.args.graph.now.edges in
    let ops = c.as_slice-operators.result.now in
    if_ok_more (λ made. made ≡ way_along es ops c.as_slice.result.now (reverse es)) (Rises 0)
    (λ made is. subst (λ (l : List ℕ). Rises 0 l) (sym is) (way_rise es c.in_ok-reach_up.ensures.edges ops c.as_slice.result.now)) _ c.list_way.ensures
