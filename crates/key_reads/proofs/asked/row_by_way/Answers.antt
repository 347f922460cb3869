use Rattle.std.proofs.Common.{ap}
use Rattle.version_graph.specs.Edges.{Drawn}
use Rattle.db_state.proofs.WayLemmas.{way_listed}
use Rattle.key_reads.proofs.asked.row_by_way.Goals as goal

pub row_over-requires-clause-way : goal.row_over-requires-clause-way
row_over-requires-clause-way g c =
    let d = c.args.db.now in
    record {
      lives = c.requires.lives;
      unstored = c.requires.unstored;
      way = way_listed d.graph.edges _ d.layout.operators _ c.args.asked.table c.in_ok-operators.operators c.as_slice-operators.result.now (ap (λ (x : Drawn _). x.edges) c.graph.ensures.graph) (ap (λ l. l.operators) c.layout.ensures) c.as_slice-operators.ensures c.in_ok-operators.ensures.way;
    }
