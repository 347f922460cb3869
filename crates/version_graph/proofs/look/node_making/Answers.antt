use Rattle.std.proofs.Common.{sym, ◌∙◌}
use Rattle.version_graph.proofs.MarkLemmas.{maker_here, none_first}
use Rattle.version_graph.proofs.ShedLemmas.{contains_is}
use Rattle.version_graph.proofs.look.node_making.Goals as goal

pub returns-then-place-eq0 : goal.returns-then-place-eq0
returns-then-place-eq0 g c = sym (none_first c.args.nodes.now c.requires.0 c.args.table c.place_behind-place.result c.requires.1 c.place_behind-place.ensures c.if-place-eq0.true)

pub returns-then-contains : goal.returns-then-contains
returns-then-contains g c =
    let k = c.index-nodes-place.result in
    let test = contains_is k.placed.tables c.as_slice.result.now c.args.table c.contains.result c.as_slice.ensures c.contains.ensures.value ∙ c.if-contains.true in
    sym (maker_here c.args.nodes.now c.requires.0 c.args.table c.place_behind-place.result k _ c.requires.1 c.place_behind-place.ensures c.if-place-eq0.false c.index-nodes-place.is test)

pub returns-else-contains : goal.returns-else-contains
returns-else-contains g c =
    let k = c.index-nodes-place.result in
    let test = contains_is k.placed.tables c.as_slice.result.now c.args.table c.contains.result c.as_slice.ensures c.contains.ensures.value ∙ c.if-contains.false in
    sym (maker_here c.args.nodes.now c.requires.0 c.args.table c.place_behind-place.result k _ c.requires.1 c.place_behind-place.ensures c.if-place-eq0.false c.index-nodes-place.is test)
