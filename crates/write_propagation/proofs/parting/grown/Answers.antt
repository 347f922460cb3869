use Rattle.std.proofs.Common.{sym, subst}
use Rattle.version_graph.specs.Sets.{In}
use Rattle.version_graph.specs.Edges.{Drawn, numbers}
use Rattle.db_state.specs.Fields.{state_for}
use Rattle.write_propagation.proofs.parting.grown.Goals as goal

pub more_ids-requires-clause-lives : goal.more_ids-requires-clause-lives
more_ids-requires-clause-lives g c = subst (λ (x : Drawn _). In c.args.writing.written.now.set (numbers x.edges)) (sym c.graph.ensures.graph) c.requires.may.lives

pub more_ids-requires-clause-some : goal.more_ids-requires-clause-some
more_ids-requires-clause-some g c = ((state_for g.O.Operator.meaning c.args.db.now).tables, c.requires.right)
