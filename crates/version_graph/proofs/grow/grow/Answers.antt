use Rattle.version_graph.proofs.grow.grow.Goals as goal

pub add_edges-requires-clause-right : goal.add_edges-requires-clause-right
add_edges-requires-clause-right g c = c.requires.right

pub add_edges-requires-clause-can : goal.add_edges-requires-clause-can
add_edges-requires-clause-can g c = c.requires.can

pub add_edges-requires-clause-marked : goal.add_edges-requires-clause-marked
add_edges-requires-clause-marked g c = c.requires.marked

pub returns-in-Ok-clause-grown : goal.returns-in-Ok-clause-grown
returns-in-Ok-clause-grown g c = c.in-Ok.ensures.grown

pub returns-in-Ok-clause-right : goal.returns-in-Ok-clause-right
returns-in-Ok-clause-right g c = c.in-Ok.ensures.right

pub returns-in-Ok-clause-marked : goal.returns-in-Ok-clause-marked
returns-in-Ok-clause-marked g c = c.in-Ok.ensures.marked

pub returns-in-Ok-clause-front : goal.returns-in-Ok-clause-front
returns-in-Ok-clause-front g c = c.in-Ok.ensures.front
