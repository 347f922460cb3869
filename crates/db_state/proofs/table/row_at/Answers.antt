use Rattle.std.specs.Prelude.{IfOk}
use Rattle.std.proofs.Common.{◌≡◌, ◌==◌, List, [], ◌∷◌, true, Option, refl, sym, ap, ◌∙◌, subst}
use Rattle.std.proofs.lemmas.Bool.{cond-true, eq-eqb}
use Rattle.par_base.specs.declared.value.Value.{Value}
use Rattle.row_store.specs.Rows.{Rows, row_of}
use Rattle.op_law.specs.Identifiers.{has_id}
use Rattle.db_state.specs.Fields.{state_for}
use Rattle.db_state.proofs.PartLaws.{row_seen}
use Rattle.db_state.proofs.table.row_at.Goals as goal

pub returns-in_ok-read-in-None-clause-row : goal.returns-in_ok-read-in-None-clause-row
returns-in_ok-read-in-None-clause-row g c =
    let id = c.args.id in
    let read = c.in_ok-read-in-None.read.rows in
    let table = (state_for g.O.Operator.meaning c.args.db.now).tables c.args.table in
    let seen : has_id (id ∷ []) id ≡ true = cond-true (id == id) true _ (eq-eqb id id refl) in
    let same = sym (row_seen (has_id (id ∷ [])) read id seen) ∙ ap (λ (rows : Rows). row_of rows id) c.in_ok-read-in-None.ensures.seen ∙ row_seen (has_id (id ∷ [])) table id seen in
    subst (λ (wanted : Option (List Value)). IfOk c.copy_of-in-None.result (λ row. row ≡ wanted)) same c.copy_of-in-None.ensures
