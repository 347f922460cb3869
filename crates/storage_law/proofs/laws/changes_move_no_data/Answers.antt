use Rattle.std.proofs.Common.{ℕ, arith, subst, sym}
use Rattle.version_graph.specs.Sets.{In}
use Rattle.version_graph.specs.Edges.{numbers}
use Rattle.layout_rules.proofs.ChangeLaws.{link_number}
use Rattle.storage_law.proofs.GrowLemmas.{grown_stand}
use Rattle.storage_law.proofs.DropLaws.{drop_stands, leaving_valid}
use Rattle.storage_law.proofs.laws.changes_move_no_data.Goals as goal

pub returns-clause-evolved : goal.returns-clause-evolved
returns-clause-evolved g c es parent operator table edges s all sound built storage valid st =
    grown_stand g.O.Operator.meaning g.met.O.Operator.laws es parent operator table edges s s.next (record { all = all; sound = sound; built = built; drawn = omega arith }) storage
    (λ n i. let l = valid.live n i in subst (λ (k : ℕ). In k (numbers es)) (sym l.2) (link_number es l.0 l.1)) st

pub returns-clause-dropped : goal.returns-clause-dropped
returns-clause-dropped g c es needed s edges sound storage go st = drop_stands g.O.Operator.meaning es needed s edges sound storage go st

pub returns-clause-leaving : goal.returns-clause-leaving
returns-clause-leaving g c es needed edges layout new valid leaves = leaving_valid es needed edges layout new valid leaves
