use Rattle.std.proofs.Common.{ℕ, List, sym, ap, subst}
use Rattle.id_memory.specs.States.{MemoryState}
use Rattle.version_model.specs.declared.numbered.Numbered.{Numbered}
use Rattle.version_graph.specs.Edges.{AreEdges, Drawn}
use Rattle.op_law.specs.Identifiers.{IdsRise, has_id}
use Rattle.row_changes.specs.Touched.{AllPass}
use Rattle.db_state.specs.Fields.{state_for}
use Rattle.db_state.specs.Parts.{SplitsAt}
use Rattle.write_propagation.proofs.PartFoundLemmas.{named_ids, split_ids}
use Rattle.write_propagation.proofs.PartTriedLemmas.{closes_tree}
use Rattle.write_propagation.proofs.parting.try_part.Goals as goal

pub closed_over-requires-clause-edges : goal.closed_over-requires-clause-edges
closed_over-requires-clause-edges g c = subst (λ (x : Drawn _). AreEdges x.edges) (sym c.graph.ensures.graph) c.requires.may.kept.graph.edges

pub closed_over-requires-clause-some : goal.closed_over-requires-clause-some
closed_over-requires-clause-some g c = ((state_for g.O.Operator.meaning c.args.db.now).tables, c.requires.right)

pub make_seen-requires-clause-ids : goal.make_seen-requires-clause-ids
make_seen-requires-clause-ids g c =
    let d = c.args.db.now in
    let tree = c.args.writing.tree.now in
    let w = c.args.writing.written.now in
    let is = closes_tree g.O.Operator.meaning g.O.Seeks.seeks d c.args.keys.now tree w (record { keys = c.args.keys.now; memories = c.memories.result.now }) c.graph.result.now c.as_slice-operators.result.now c.args.ids c.in-Some.closed c.in_ok-closed.field-0 (ap (λ (ms : List (Numbered MemoryState)). record { keys = c.args.keys.now; memories = ms }) c.memories.ensures) c.graph.ensures.graph c.as_slice-operators.ensures
    c.requires.begins c.in-Some.is c.in_ok-closed.ensures in
    subst (λ (l : List ℕ). IdsRise 0 l) (sym c.as_slice.ensures) is.rise

pub make_seen-requires-clause-split : goal.make_seen-requires-clause-split
make_seen-requires-clause-split g c =
    let m = g.O.Operator.meaning in
    let seeks = g.O.Seeks.seeks in
    let d = c.args.db.now in
    let tree = c.args.writing.tree.now in
    let w = c.args.writing.written.now in
    let may = c.requires.may in
    let is = closes_tree m seeks d c.args.keys.now tree w (record { keys = c.args.keys.now; memories = c.memories.result.now }) c.graph.result.now c.as_slice-operators.result.now c.args.ids c.in-Some.closed c.in_ok-closed.field-0 (ap (λ (ms : List (Numbered MemoryState)). record { keys = c.args.keys.now; memories = ms }) c.memories.ensures) c.graph.ensures.graph c.as_slice-operators.ensures c.requires.begins c.in-Some.is
    c.in_ok-closed.ensures in
    subst (λ (l : List ℕ). SplitsAt m d.graph.edges (state_for m d) tree.operators (has_id l)) (sym c.as_slice.ensures)
    (split_ids m seeks g.met.O.Operator.laws g.met.O.Seeks.seeking d may.kept tree w may c.args.keys.now c.requires.right c.in-Some.closed is)

pub make_seen-requires-clause-named : goal.make_seen-requires-clause-named
make_seen-requires-clause-named g c =
    let m = g.O.Operator.meaning in
    let seeks = g.O.Seeks.seeks in
    let d = c.args.db.now in
    let tree = c.args.writing.tree.now in
    let w = c.args.writing.written.now in
    let may = c.requires.may in
    let is = closes_tree m seeks d c.args.keys.now tree w (record { keys = c.args.keys.now; memories = c.memories.result.now }) c.graph.result.now c.as_slice-operators.result.now c.args.ids c.in-Some.closed c.in_ok-closed.field-0 (ap (λ (ms : List (Numbered MemoryState)). record { keys = c.args.keys.now; memories = ms }) c.memories.ensures) c.graph.ensures.graph c.as_slice-operators.ensures c.requires.begins c.in-Some.is
    c.in_ok-closed.ensures in
    subst (λ (l : List ℕ). AllPass (has_id l) w.changes) (sym c.as_slice.ensures) (named_ids m seeks g.met.O.Operator.laws g.met.O.Seeks.seeking d may.kept tree w may c.args.keys.now c.requires.right c.in-Some.closed is)

pub judge-requires-clause-closed : goal.judge-requires-clause-closed
judge-requires-clause-closed g c =
    closes_tree g.O.Operator.meaning g.O.Seeks.seeks c.args.db.now c.args.keys.now c.args.writing.tree.now c.args.writing.written.now (record { keys = c.args.keys.now; memories = c.memories.result.now }) c.graph.result.now c.as_slice-operators.result.now c.args.ids c.in-Some.closed c.in_ok-closed.field-0
    (ap (λ (ms : List (Numbered MemoryState)). record { keys = c.args.keys.now; memories = ms }) c.memories.ensures) c.graph.ensures.graph c.as_slice-operators.ensures c.requires.begins c.in-Some.is c.in_ok-closed.ensures
