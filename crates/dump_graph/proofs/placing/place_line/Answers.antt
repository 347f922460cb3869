use Rattle.std.proofs.Common.{rules, Some}
use Rattle.dump_graph.specs.inner.Placing.{BuildsText}
use Rattle.dump_graph.proofs.PlacingLemmas.{fits_parent, with_numbers}
use Rattle.dump_graph.proofs.placing.place_line.Goals as goal

pub place_edge-requires : goal.place_edge-requires
place_edge-requires c =
    let builds : BuildsText c.args.next c.args.graph.now.edges c.args.line.now.parent c.args.line.now.text (Some c.in-Some.edge) = search rules in
    record { fits = fits_parent c.args.next c.args.graph.now c.args.line.now.text (with_numbers c.args.line.now c.in-Some.edge) c.live_operators-live.ensures.graph builds }
