-- The writes were run from where nothing is unsettled.
use Rattle.std.proofs.Common.{subst}
use Rattle.op_any.specs.Operators.{AnyView}
use Rattle.db_state.specs.declared.parts.Parts.{Parts}
use Rattle.version_graph.specs.Edges.{AreEdges}
use Rattle.engine_transactions.specs.Calls.{executed}
use Rattle.tx_history.specs.Opens.{transaction_view}
use Rattle.engine_transactions.proofs.CommitLemmas.{shows_executed}
use Rattle.engine_transactions.proofs.RunLemmas.{AllRun, all_run}
use Rattle.engine_transactions.proofs.commit.run_all.Goals as goal

pub run_commit-requires : goal.run_commit-requires
run_commit-requires g c = (executed c.args.at.now, shows_executed c.args.at.now c.requires)

ran : (g : _) (c : goal.After-run_commit g) → AllRun (transaction_view c.args.transaction.now) c.args.at.now c.run_commit.new.at c.run_commit.result
ran g c =
    let edges = subst (λ (p : Parts AnyView). AreEdges p.graph.edges) c.engine.ensures c.versions_always_agree.ensures.graph.edges in
    all_run c.args.at.now c.run_commit.new.at c.requires edges c.args.transaction.now c.run_commit.result c.run_commit.ensures

pub returns-clause-runs : goal.returns-clause-runs
returns-clause-runs g c = (ran g c).runs

pub returns-clause-same : goal.returns-clause-same
returns-clause-same g c = (ran g c).same

pub returns-clause-idle : goal.returns-clause-idle
returns-clause-idle g c = (ran g c).idle
