use mathlib.Core.List.{reverse}
use Rattle.dump_values.specs.Lines.{operator_json}
use Rattle.dump_graph.specs.Told.{operator_line}
use Rattle.dump_file.proofs.ListLemmas.{written_next}
use Rattle.dump_file.proofs.writing.write_operators.Goals as goal

pub loop-place-preserved : goal.loop-place-preserved
loop-place-preserved c =
    let l = c.loop-place in
    written_next operator_json operator_line (reverse c.args.graph.now.edges) l.place _ _ _ c.edge_at.ensures l.invariant c.in_ok-push_operator.ensures
