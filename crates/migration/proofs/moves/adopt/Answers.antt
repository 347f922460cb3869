use Rattle.std.proofs.Common.{sym, subst}
use Rattle.db_state.specs.declared.parts.Parts.{Parts}
use Rattle.migration.specs.Moved.{Adopts}
use Rattle.migration.proofs.AdoptLemmas.{adopted, renews}
use Rattle.migration.proofs.moves.adopt.Goals as goal

pub put_parts-requires : goal.put_parts-requires
put_parts-requires g c =
    let took = c.take_parts-graph.result in
    let held = renews c.into_vec-tables.result.items c.args.moved.stored took.stored c.replace_all.new.items.items c.from_vec.result c.into_vec-tables.ensures c.from_vec.ensures c.replace_all.ensures.values c.replace_all.ensures.numbers in
    let lent = renews c.into_vec-operators.result.items took.aux c.args.moved.auxes c.replace_all-2.new.items.items c.from_vec-2.result c.into_vec-operators.ensures c.from_vec-2.ensures c.replace_all-2.ensures.values c.replace_all-2.ensures.numbers in
    let new : Parts _ = record { graph = took.graph; layout = c.args.moved.layout; stored = c.from_vec.result; aux = c.from_vec-2.result; memories = took.memories; ids = took.ids } in
    (c.requires new (adopted c.args.db.now took c.args.moved c.from_vec.result c.from_vec-2.result c.take_parts-graph.ensures.parts held lent)).0

pub returns : goal.returns
returns g c =
    let took = c.take_parts-graph.result in
    let held = renews c.into_vec-tables.result.items c.args.moved.stored took.stored c.replace_all.new.items.items c.from_vec.result c.into_vec-tables.ensures c.from_vec.ensures c.replace_all.ensures.values c.replace_all.ensures.numbers in
    let lent = renews c.into_vec-operators.result.items took.aux c.args.moved.auxes c.replace_all-2.new.items.items c.from_vec-2.result c.into_vec-operators.ensures c.from_vec-2.ensures c.replace_all-2.ensures.values c.replace_all-2.ensures.numbers in
    subst (λ (p : Parts _). Adopts c.args.db.now c.args.moved p) (sym c.put_parts.ensures)
    (adopted c.args.db.now took c.args.moved c.from_vec.result c.from_vec-2.result c.take_parts-graph.ensures.parts held lent)
