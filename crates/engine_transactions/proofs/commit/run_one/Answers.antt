-- The write was run from where nothing is unsettled.
use Rattle.std.proofs.Common.{subst}
use Rattle.op_any.specs.Operators.{AnyView}
use Rattle.db_state.specs.declared.parts.Parts.{Parts}
use Rattle.version_graph.specs.Edges.{AreEdges}
use Rattle.statements.specs.Views.{statement_view}
use Rattle.engine_transactions.proofs.RunLemmas.{OneRun, one_run}
use Rattle.engine_transactions.proofs.commit.run_one.Goals as goal

ran : (g : _) (c : goal.After-run g) → OneRun (statement_view c.args.write.now) c.args.at.now c.run.new.self c.run.result
ran g c =
    let edges = subst (λ (p : Parts AnyView). AreEdges p.graph.edges) c.engine.ensures c.versions_always_agree.ensures.graph.edges in
    one_run c.args.at.now c.run.new.self c.requires edges c.args.write.now c.run.result c.run.ensures

pub returns-clause-runs : goal.returns-clause-runs
returns-clause-runs g c = (ran g c).runs

pub returns-clause-same : goal.returns-clause-same
returns-clause-same g c = (ran g c).same

pub returns-clause-idle : goal.returns-clause-idle
returns-clause-idle g c = (ran g c).idle
