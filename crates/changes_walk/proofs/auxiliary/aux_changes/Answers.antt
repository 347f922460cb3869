use Rattle.std.proofs.Common.{sym, ◌∙◌, subst}
use Rattle.row_changes.specs.Changed.{TableChanges}
use Rattle.op_law.specs.Calls.{tables_of}
use Rattle.version_model.specs.Calls.{crossing_of}
use Rattle.changes_walk.specs.Auxiliary.{AreAuxChanges}
use Rattle.changes_walk.proofs.AuxiliaryLemmas.{none_change}
use Rattle.changes_walk.proofs.auxiliary.aux_changes.Goals as goal

pub returns-then-is_bare-clause-answer : goal.returns-then-is_bare-clause-answer
returns-then-is_bare-clause-answer g c =
    let meaning = g.O.Operator.meaning in
    let old = g.D.StateRead.state c.args.rows.now in
    let p = crossing_of c.args.over.now in
    let none = none_change meaning old c.args.made.now p c.requires.may (g.met.O.Operator.laws p.operator) (tables_of c.args.aux.now) c.requires.aux (c.is_bare.ensures c.if-is_bare.true) in
    subst (λ (cs : TableChanges). AreAuxChanges meaning old c.args.made.now p (tables_of c.args.aux.now) cs) (sym c.new.ensures) none
