use Rattle.version_graph.proofs.grow.grow_and_name.Goals as goal

pub grow-requires-clause-right : goal.grow-requires-clause-right
grow-requires-clause-right g c = c.requires.right

pub grow-requires-clause-can : goal.grow-requires-clause-can
grow-requires-clause-can g c = c.requires.can

pub grow-requires-clause-marked : goal.grow-requires-clause-marked
grow-requires-clause-marked g c = c.requires.marked

pub name_set-requires : goal.name_set-requires
name_set-requires g c = c.requires.new

pub returns-in-Ok-clause-grown : goal.returns-in-Ok-clause-grown
returns-in-Ok-clause-grown g c = c.in_ok-grow.ensures.grown

pub returns-in-Ok-clause-right : goal.returns-in-Ok-clause-right
returns-in-Ok-clause-right g c = c.in_ok-grow.ensures.right

pub returns-in-Ok-clause-marked : goal.returns-in-Ok-clause-marked
returns-in-Ok-clause-marked g c = c.in_ok-grow.ensures.marked

pub returns-in-Ok-clause-named : goal.returns-in-Ok-clause-named
returns-in-Ok-clause-named g c = c.in-Ok.ensures.ok
