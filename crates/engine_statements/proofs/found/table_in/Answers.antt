use Rattle.std.proofs.Common.{Some, None, sym}
use Rattle.version_graph.specs.Edges.{heading_of}
use Rattle.engine_statements.proofs.FoundLemmas.{lent_at, lent_heading, named_table, not_none}
use Rattle.engine_statements.proofs.StandLemmas.{stands_at}
use Rattle.engine_statements.proofs.found.table_in.Goals as goal

pub returns-in_err-heading-clause-found : goal.returns-in_err-heading-clause-found
returns-in_err-heading-clause-found c =
    let g = c.graph-graph.result.now in
    let h = c.args.database.now.graph in
    let at = lent_at g h c.args.set c.args.name.now c.in_ok-number.number c.graph-graph.ensures.graph c.graph-graph.ensures.kept.graph.edges c.in_ok-number.ensures in
    let none = lent_heading g h c.in_ok-number.number None c.graph-graph.ensures.graph c.in_err-heading.ensures in
    absurd (not_none (heading_of h.edges c.in_ok-number.number) at.table.heading (sym none) at.heading)

pub returns-clause-found : goal.returns-clause-found
returns-clause-found c =
    let g = c.graph-graph.result.now in
    let h = c.args.database.now.graph in
    let at = lent_at g h c.args.set c.args.name.now c.in_ok-number.number c.graph-graph.ensures.graph c.graph-graph.ensures.kept.graph.edges c.in_ok-number.ensures in
    let heading = lent_heading g h c.in_ok-number.number (Some c.in_ok-heading.heading.now) c.graph-graph.ensures.graph c.in_ok-heading.ensures in
    named_table h.edges c.args.set c.args.name.now c.in_ok-number.number c.in_ok-heading.heading.now at heading

pub returns-clause-there : goal.returns-clause-there
returns-clause-there c =
    let g = c.graph-graph.result.now in
    let k = c.args.database.now in
    let n = c.in_ok-number.number in
    let at = lent_at g k.graph c.args.set c.args.name.now n c.graph-graph.ensures.graph c.graph-graph.ensures.kept.graph.edges c.in_ok-number.ensures in
    let heading = lent_heading g k.graph n (Some c.in_ok-heading.heading.now) c.graph-graph.ensures.graph c.in_ok-heading.ensures in
    record { lives = c.requires; held = at.held; made = at.made; heading = heading; stands = stands_at k n c.in_ok-heading.heading.now c.graph-graph.ensures.kept heading }
