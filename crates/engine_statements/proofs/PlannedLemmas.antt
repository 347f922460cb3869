-- What an INSERT, a DELETE and an UPDATE plan, by what each of their checks gave.
use Rattle.std.proofs.Common.{◌≡◌, ℕ, ◌+◌, List, ◌++◌, Option, Ok, length, refl, sym, ap, ◌∙◌}
use Rattle.std.specs.Prelude.{[], unwrap_or}
use Rattle.par_base.specs.Checked.{Checked, ◌then◌}
use Rattle.expr_lang.specs.Terms.{Term}
use Rattle.par_base.specs.declared.value.Value.{Value}
use Rattle.row_store.specs.Rows.{Rows}
use Rattle.statements.specs.Views.{Tree, AssignmentView}
use Rattle.statements.specs.declared.statement.TableName.{TableName}
use Rattle.version_graph.specs.declared.parts.Heading.{Heading}
use Rattle.op_any.specs.Operators.{AnyView, any_meaning}
use Rattle.op_checks.specs.NameChecks.{known_id, repeated, unrepeated}
use Rattle.ordinary_table.specs.Written.{SetTerm, inserted, numbered, updated, deleted, chosen_count}
use Rattle.db_state.specs.Fields.{database_for}
use Rattle.db_state.specs.declared.parts.Parts.{Parts}
use Rattle.engine_state.specs.declared.reply.Reply.{Reply}
use Rattle.engine_state.specs.declared.reply.Reply.TheVariants.{Inserted, Updated, Deleted}
use Rattle.engine_statements.specs.Found.{found, known_condition, known_references, condition_list, unknown_in_rows}
use Rattle.engine_statements.specs.Statements.{Planned, ids_of, known_sets, right_counts, set_columns, set_values, planned_delete, planned_insert, planned_update}
use Rattle.engine_statements.specs.Calls.{IsTableOf, found_view, heading_at, rows_in}
use Rattle.engine_statements.specs.declared.found.FoundTable.{FoundTable}

-- what comes behind a check that gave a value
then_ok : {A B : Type 0} (c : Checked A) (a : A) (f : A → Checked B) → c ≡ Ok a → (c then f) ≡ f a
then_ok {A} {B} c a f e = ap (λ (x : Checked A). x then f) e

-- what is planned of a table that was found
abbrev planned_of : Parts AnyView → FoundTable → Rows → ℕ → Reply → Planned
planned_of k f rows next reply = record {
  found = record { set = f.set; table = record { number = f.number; heading = heading_at k.graph.edges f.number } };
  rows = rows;
  next = next;
  reply = reply;
}

-- its heading is that of the graph
heading_same : (k : Parts AnyView) (f : FoundTable) → IsTableOf k f → f.heading.now ≡ heading_at k.graph.edges f.number
heading_same k f table = sym (ap (λ (o : Option Heading). unwrap_or o (record { name = []; columns = [] })) table.heading)

-- the rows and the reply are said of the rows of the state
said_of : (k : Parts AnyView) (f : FoundTable) (next : ℕ) (make : Rows → Rows) (tell : Rows → Reply) (rows : Rows) (reply : Reply) → IsTableOf k f → next ≡ k.ids.next
    → rows ≡ make (rows_in k f.number) → reply ≡ tell (rows_in k f.number)
    → record { found = found_view f; rows = make ((database_for any_meaning k).state.tables f.number); next = k.ids.next; reply = tell ((database_for any_meaning k).state.tables f.number) }
    ≡ planned_of k f rows next reply
said_of k f next make tell rows reply table same is told =
    let head = heading_same k f table in
    let all : make ((database_for any_meaning k).state.tables f.number) ≡ rows = sym is in
    let tells : tell ((database_for any_meaning k).state.tables f.number) ≡ reply = sym told in
    rw (head, all, tells, sym same) refl

pub insert_planned : (k : Parts AnyView) (name : TableName) (new : List (List Value)) (f : FoundTable) (rows : Rows) (next end : ℕ) (ids : List ℕ)
    → found (database_for any_meaning k) name ≡ Ok (found_view f) → IsTableOf k f → next ≡ k.ids.next → right_counts (length f.heading.now.columns) new ≡ Ok tt
    → known_id next (unknown_in_rows next new) ≡ Ok tt → rows ≡ inserted (rows_in k f.number) new next → end ≡ next + length new → ids ≡ ids_of (numbered next new)
    → planned_insert (database_for any_meaning k) name new ≡ Ok (planned_of k f rows end (Inserted ids))
insert_planned k name new f rows next end ids finds table same counts knows is more drawn =
    let head = heading_same k f table in
    let known : known_id k.ids.next (unknown_in_rows k.ids.next new) ≡ Ok tt = ap (λ (n : ℕ). known_id n (unknown_in_rows n new)) (sym same) ∙ knows in
    let all : inserted ((database_for any_meaning k).state.tables f.number) new k.ids.next ≡ rows = ap (inserted (rows_in k f.number) new) (sym same) ∙ sym is in
    let behind : k.ids.next + length new ≡ end = ap (λ (n : ℕ). n + length new) (sym same) ∙ sym more in
    let tells : ids_of (numbered k.ids.next new) ≡ ids = ap (λ (n : ℕ). ids_of (numbered n new)) (sym same) ∙ sym drawn in
    then_ok (found (database_for any_meaning k) name) (found_view f) _ finds
    ∙ then_ok (right_counts (length f.heading.now.columns) new) tt _ counts
    ∙ then_ok (known_id k.ids.next (unknown_in_rows k.ids.next new)) tt _ known
    ∙ rw (head, all, behind, tells) refl

pub delete_planned : (k : Parts AnyView) (name : TableName) (filter : Option Tree) (f : FoundTable) (condition : Option (Term ℕ)) (rows : Rows) (next many : ℕ) (u : Unit {0})
    → found (database_for any_meaning k) name ≡ Ok (found_view f) → IsTableOf k f → next ≡ k.ids.next → known_condition f.heading.now.columns filter ≡ Ok condition
    → known_references next (condition_list filter) ≡ Ok u → rows ≡ deleted (rows_in k f.number) condition → many ≡ chosen_count (rows_in k f.number) condition
    → planned_delete (database_for any_meaning k) name filter ≡ Ok (planned_of k f rows next (Deleted many))
delete_planned k name filter f condition rows next many u finds table same knows refers is counts =
    let refer : known_references k.ids.next (condition_list filter) ≡ Ok u = ap (λ (n : ℕ). known_references n (condition_list filter)) (sym same) ∙ refers in
    then_ok (found (database_for any_meaning k) name) (found_view f) _ finds
    ∙ then_ok (known_condition f.heading.now.columns filter) condition _ knows
    ∙ then_ok (known_references k.ids.next (condition_list filter)) u _ refer
    ∙ ap (λ (p : Planned). Ok p) (said_of k f next (λ rs. deleted rs condition) (λ rs. Deleted (chosen_count rs condition)) rows (Deleted many) table same is (ap Deleted counts))

pub update_planned : (k : Parts AnyView) (name : TableName) (assignments : List AssignmentView) (filter : Option Tree) (f : FoundTable) (sets : List SetTerm) (condition : Option (Term ℕ)) (rows : Rows)
    (next many : ℕ) (once u : Unit {0})
    → found (database_for any_meaning k) name ≡ Ok (found_view f) → IsTableOf k f → next ≡ k.ids.next → known_sets f.heading.now.columns assignments ≡ Ok sets
    → known_condition f.heading.now.columns filter ≡ Ok condition → unrepeated (repeated [] (set_columns assignments)) ≡ Ok once
    → known_references next (set_values assignments ++ condition_list filter) ≡ Ok u → rows ≡ updated (rows_in k f.number) sets condition → many ≡ chosen_count (rows_in k f.number) condition
    → planned_update (database_for any_meaning k) name assignments filter ≡ Ok (planned_of k f rows next (Updated many))
update_planned k name assignments filter f sets condition rows next many once u finds table same reads knows single refers is counts =
    let refer : known_references k.ids.next (set_values assignments ++ condition_list filter) ≡ Ok u =
    ap (λ (n : ℕ). known_references n (set_values assignments ++ condition_list filter)) (sym same) ∙ refers in
    then_ok (found (database_for any_meaning k) name) (found_view f) _ finds
    ∙ then_ok (known_sets f.heading.now.columns assignments) sets _ reads
    ∙ then_ok (known_condition f.heading.now.columns filter) condition _ knows
    ∙ then_ok (unrepeated (repeated [] (set_columns assignments))) once _ single
    ∙ then_ok (known_references k.ids.next (set_values assignments ++ condition_list filter)) u _ refer
    ∙ ap (λ (p : Planned). Ok p) (said_of k f next (λ rs. updated rs sets condition) (λ rs. Updated (chosen_count rs condition)) rows (Updated many) table same is (ap Updated counts))
