use Rattle.layout_rules.proofs.AfterLaws.{follows_from, follows_to, layout_dropped, layout_evolved}
use Rattle.layout_rules.proofs.laws.layout_follows.Goals as goal

pub returns-clause-follows : goal.returns-clause-follows
returns-clause-follows g c layout old new edges n = (λ i. follows_from layout old new edges n i, λ h. follows_to layout old new edges n h)

pub returns-clause-evolves : goal.returns-clause-evolves
returns-clause-evolves g c d graph layout valid name w edges = layout_evolved d graph layout name w edges valid

pub returns-clause-drops : goal.returns-clause-drops
returns-clause-drops g c d graph layout name = layout_dropped d graph layout name
