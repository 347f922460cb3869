use Rattle.std.proofs.Common.{sym, subst}
use Rattle.version_graph.specs.Sets.{In}
use Rattle.version_graph.specs.Edges.{AreEdges, Drawn, numbers}
use Rattle.db_state.specs.Fields.{state_for}
use Rattle.write_propagation.proofs.parting.sees_all.Goals as goal

pub is_enough-requires-clause-edges : goal.is_enough-requires-clause-edges
is_enough-requires-clause-edges g c = subst (λ (x : Drawn _). AreEdges x.edges) (sym c.graph.ensures.graph) c.requires.may.kept.graph.edges

pub is_enough-requires-clause-lives : goal.is_enough-requires-clause-lives
is_enough-requires-clause-lives g c = subst (λ (x : Drawn _). In c.args.writing.written.now.set (numbers x.edges)) (sym c.graph.ensures.graph) c.requires.may.lives

pub is_enough-requires-clause-some : goal.is_enough-requires-clause-some
is_enough-requires-clause-some g c = ((state_for g.O.Operator.meaning c.args.db.now).tables, c.requires.right)
