use Rattle.std.proofs.Common.{List, ℕ, refl, sym, subst}
use Rattle.version_graph.specs.Edges.{Drawn}
use Rattle.op_law.specs.Identifiers.{has_id}
use Rattle.db_state.specs.Fields.{state_for}
use Rattle.db_state.specs.Parts.{SplitsAt}
use Rattle.sought_ids.specs.Sought.{ClosesAt, KeptState}
use Rattle.sought_ids.proofs.SplitLaws.{split_ids}
use Rattle.key_reads.proofs.asked.row_over.Goals as goal

pub row_in_part-requires-clause-splits : goal.row_in_part-requires-clause-splits
row_in_part-requires-clause-splits g c =
    let es = c.args.db.now.graph.edges in
    let s = state_for g.O.Operator.meaning c.args.db.now in
    let kept : KeptState = record { keys = c.args.keys.now; memories = c.args.db.now.memories } in
    let found = rw (c.in-Some.is, c.memories.ensures) at c.in_ok-ids.ensures in
    let closed = subst (λ (d : Drawn _). ClosesAt g.O.Operator.meaning g.O.Seeks.seeks d.edges kept c.args.operators.now c.in-Some.ids) c.graph.ensures.graph found.closed in
    subst (λ (ids : List ℕ). SplitsAt g.O.Operator.meaning es s c.args.operators.now (has_id ids)) (sym c.as_slice.ensures)
    (split_ids g.O.Operator.meaning g.O.Seeks.seeks g.met.O.Operator.laws g.met.O.Seeks.seeking es s kept (record { keys = c.requires.right; memories = λ n. refl }) c.args.operators.now c.in-Some.ids closed)
