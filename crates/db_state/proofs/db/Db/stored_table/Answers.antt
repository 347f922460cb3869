use Rattle.std.proofs.Common.{List, ap, ◌∙◌, subst}
use Rattle.version_model.specs.Kept.{value_of}
use Rattle.version_model.specs.declared.numbered.Numbered.{Numbered}
use Rattle.db_state.specs.Fields.{IsDatabase}
use Rattle.db_state.specs.declared.parts.Parts.{Parts}
use Rattle.db_state.proofs.StoredLemmas.{lent_right}
use Rattle.db_state.proofs.db.Db.stored_table.Goals as goal

pub returns-clause-rows : goal.returns-clause-rows
returns-clause-rows g c =
    let p = c.args.self.now in
    let kept = subst (λ (x : Parts _). IsDatabase g.O.Operator.meaning x) c.self.view_is c.self.invariant in
    let stored = c.as_slice.ensures ∙ ap (λ (x : Parts _). x.stored) c.self.view_is in
    lent_right g.O.Operator.meaning p kept c.args.table c.value_of.result (c.value_of.ensures ∙ ap (λ (l : List (Numbered _)). value_of l c.args.table) stored)
