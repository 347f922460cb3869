use Rattle.std.proofs.Common.{◌∙◌}
use Rattle.version_graph.specs.Edges.{tables_at}
use Rattle.engine_statements.proofs.FoundLemmas.{number_is, not_none, set_tables}
use Rattle.engine_statements.proofs.found.number_in.Goals as goal

pub returns-in_err-tables : goal.returns-in_err-tables
returns-in_err-tables c =
    let es = c.args.graph.now.edges in
    absurd (not_none (tables_at es c.args.set) _ c.in_err-tables.ensures (set_tables es c.args.set c.requires.edges c.requires.lives))

pub returns : goal.returns
returns c = c.number_named.ensures ∙ number_is c.args.graph.now.edges c.args.set c.args.name.now c.in_ok-tables.tables.now c.requires.edges c.requires.lives c.in_ok-tables.ensures
