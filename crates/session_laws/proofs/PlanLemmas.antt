-- What an INSERT, an UPDATE or a DELETE plans may be written.
use Rattle.std.proofs.Common.{◌≡◌, ◌≤◌, ◌+◌, List, [], ◌++◌, Option, Ok, length, sym, ap, subst, ◌∙◌, arith}
use Rattle.std.specs.List.{All}
use Rattle.par_base.specs.declared.value.Value.{Value}
use Rattle.statements.specs.Views.{Tree, AssignmentView}
use Rattle.statements.specs.declared.statement.TableName.{TableName}
use Rattle.op_checks.specs.NameChecks.{known_id, repeated, unrepeated}
use Rattle.op_any.specs.Texts.{TermFits, ValueFits}
use Rattle.ordinary_table.specs.Laws.{IsTable}
use Rattle.ordinary_table.specs.Written.{deleted, inserted, updated}
use Rattle.ordinary_table.proofs.KeptLaws.{delete_keeps, insert_keeps, update_keeps}
use Rattle.version_model.specs.Writes.{MayWrite}
use Rattle.engine_state.specs.AnyDatabase.{AnyDatabase}
use Rattle.engine_sessions.specs.Found.{Found, condition_list, found, known_condition, known_references, unknown_in, unknown_in_rows}
use Rattle.engine_sessions.specs.Statements.{Planned, columns_of, known_sets, planned_delete, planned_insert, planned_update, right_counts, rows_of, set_columns, set_values}
use Rattle.engine_sessions.proofs.ChainLaws.{both_give, ok_is}
use Rattle.session_laws.specs.Kept.{IsKept}
use Rattle.session_laws.proofs.FoundLemmas.{FoundIn, found_in, may_get, stands_at}
use Rattle.session_laws.proofs.NewRowLemmas.{first_none, known_none, rows_new}
use Rattle.session_laws.proofs.SetLemmas.{sets_sound, unknown_in-append}

-- a plan that a database takes, of a table that the statement names
pub record Takes (d : AnyDatabase) (name : TableName) (p : Planned) : Type 0 where
  pub found : FoundIn d name p.found
  pub may : MayWrite d.graph.edges d.state p.found.set p.found.table.number p.rows p.next

module _ (d : AnyDatabase) (kept : IsKept d) (name : TableName) where
  -- a plan of a found table whose rows may stand
  taken : (f : Found) (p : Planned) → found d name ≡ Ok f → p.found ≡ f → IsTable (length (columns_of f)) p.next p.rows → d.state.next ≤ p.next → Takes d name p
  taken f p is same stands more =
      let there : FoundIn d name f = found_in d name f is in
      record {
        found = subst (FoundIn d name) (sym same) there;
        may = subst (λ (g : Found). MayWrite d.graph.edges d.state g.set g.table.number p.rows p.next) (sym same) (may_get d kept f.set f.table there.held p.rows p.next stands more);
      }

  old_stands : (f : Found) → found d name ≡ Ok f → IsTable (length (columns_of f)) d.state.next (rows_of d f)
  old_stands f is = let there : FoundIn d name f = found_in d name f is in stands_at d kept f.set f.table there.held

  pub insert_taken : (rows : List (List Value)) (p : Planned) → All (All ValueFits) rows → planned_insert d name rows ≡ Ok p → Takes d name p
  insert_taken rows p fits h =
      let a = both_give (found d name) _ p h in
      let b = both_give (right_counts (length (columns_of a.0)) rows) _ p a.2 in
      let c = both_give (known_id d.state.next (unknown_in_rows d.state.next rows)) _ p b.2 in
      let same = ok_is _ p c.2 in
      let width = length (columns_of a.0) in
      let new = rows_new width d.state.next rows b.0 b.1 (known_none d.state.next (unknown_in_rows d.state.next rows) c.0 c.1) fits in
      let whole : IsTable width (d.state.next + length rows) (inserted (rows_of d a.0) rows d.state.next) = insert_keeps width d.state.next (rows_of d a.0) rows kept.sound.drawn (old_stands a.0 a.1) new in
      let next : d.state.next + length rows ≡ p.next = ap (λ (q : Planned). q.next) same in
      taken a.0 p a.1 (sym (ap (λ (q : Planned). q.found) same)) (subst (λ (q : Planned). IsTable width q.next q.rows) same whole) (omega (arith, next))

  pub update_taken : (assignments : List AssignmentView) (filter : Option Tree) (p : Planned) → All (λ (a : AssignmentView). TermFits a.value) assignments → planned_update d name assignments filter ≡ Ok p → Takes d name p
  update_taken assignments filter p fits h =
      let a = both_give (found d name) _ p h in
      let b = both_give (known_sets (columns_of a.0) assignments) _ p a.2 in
      let c = both_give (known_condition (columns_of a.0) filter) _ p b.2 in
      let e = both_give (unrepeated (repeated [] (set_columns assignments))) _ p c.2 in
      let f = both_give (known_references d.state.next (set_values assignments ++ condition_list filter)) _ p e.2 in
      let same = ok_is _ p f.2 in
      let width = length (columns_of a.0) in
      let all = known_none d.state.next (unknown_in d.state.next (set_values assignments ++ condition_list filter)) f.0 f.1 in
      let both = first_none (unknown_in d.state.next (set_values assignments)) (unknown_in d.state.next (condition_list filter)) (sym (unknown_in-append d.state.next (set_values assignments) (condition_list filter)) ∙ all) in
      let whole : IsTable width d.state.next (updated (rows_of d a.0) b.0 c.0) =
      update_keeps width d.state.next (rows_of d a.0) b.0 c.0 (old_stands a.0 a.1) (sets_sound d.state.next (columns_of a.0) assignments b.0 both.0 fits b.1) in
      let next : d.state.next ≡ p.next = ap (λ (q : Planned). q.next) same in
      taken a.0 p a.1 (sym (ap (λ (q : Planned). q.found) same)) (subst (λ (q : Planned). IsTable width q.next q.rows) same whole) (omega (arith, next))

  pub delete_taken : (filter : Option Tree) (p : Planned) → planned_delete d name filter ≡ Ok p → Takes d name p
  delete_taken filter p h =
      let a = both_give (found d name) _ p h in
      let b = both_give (known_condition (columns_of a.0) filter) _ p a.2 in
      let c = both_give (known_references d.state.next (condition_list filter)) _ p b.2 in
      let same = ok_is _ p c.2 in
      let width = length (columns_of a.0) in
      let whole : IsTable width d.state.next (deleted (rows_of d a.0) b.0) = delete_keeps width d.state.next (rows_of d a.0) b.0 (old_stands a.0 a.1) in
      let next : d.state.next ≡ p.next = ap (λ (q : Planned). q.next) same in
      taken a.0 p a.1 (sym (ap (λ (q : Planned). q.found) same)) (subst (λ (q : Planned). IsTable width q.next q.rows) same whole) (omega (arith, next))
