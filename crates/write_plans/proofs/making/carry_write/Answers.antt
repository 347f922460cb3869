use Rattle.std.proofs.Common.{Ok, sym, subst}
use Rattle.changes_walk.specs.Bounds.{NamesOnly}
use Rattle.changes_walk.specs.Calls.{CarriesBy}
use Rattle.changes_walk.specs.declared.progress.Changing.{Changing}
use Rattle.changes_walk.proofs.StartLaws.{first_names}
use Rattle.write_plans.specs.Making.{copied_state}
use Rattle.write_plans.proofs.making.carry_write.Goals as goal

pub returns-clause-carries : goal.returns-clause-carries
returns-clause-carries g c =
    let w = c.args.written in
    let first = c.in_ok-made.ensures in
    let old = copied_state c.args.rows.copies.now c.args.rows.next in (
      subst (λ (x : Changing). CarriesBy g.O.Operator.meaning c.args.graph.now.edges old w.set x c.carry_changes.new.made (Ok tt)) first c.in_ok-carry_changes.ensures.carries,
      λ ids local named. c.in_ok-carry_changes.ensures.only ids local (subst (λ (x : Changing). NamesOnly ids x.tables) (sym first) (first_names old w.table w.changes ids named)),
    )
