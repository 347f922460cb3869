-- INSERT, UPDATE, DELETE and SELECT: the checks in their order, and what each makes of its version's table.
use Rattle.std.specs.Prelude.{ℕ, ◌+◌, ◌==◌, List, [], ◌∷◌, ◌++◌, map, length, Option, Some, None, Ok, Err, if◌then◌else◌}
use Rattle.par_base.specs.declared.value.Value.{Value}
use Rattle.par_base.specs.declared.refusal.Refusal.TheVariants.{WrongCount}
use Rattle.expr_lang.specs.Resolved.{place_of}
use Rattle.row_store.specs.Rows.{Rows}
use Rattle.statements.specs.Views.{Tree, AssignmentView}
use Rattle.statements.specs.declared.statement.TableName.{TableName}
use Rattle.par_base.specs.Checked.{Checked, ◌then◌}
use Rattle.op_any.specs.Operators.{any_meaning}
use Rattle.op_checks.specs.NameChecks.{known_column, repeated, unrepeated, known_id}
use Rattle.ordinary_table.specs.Written.{SetTerm, numbered, inserted, updated, deleted, chosen_count}
use Rattle.ordinary_table.specs.Selected.{selected}
use Rattle.version_model.specs.Writes.{write}
use Rattle.engine_state.specs.AnyDatabase.{AnyDatabase}
use Rattle.engine_state.specs.SharedChecks.{enough_ids}
use Rattle.engine_state.specs.declared.reply.Reply.{Reply}
use Rattle.engine_state.specs.declared.reply.Reply.TheVariants.{Inserted, Updated, Deleted, Rows as Shown}
use Rattle.engine_statements.specs.Found.{Found, found, known_expression, known_condition, known_references, condition_list, shown_names, unknown_in_rows}

-- ---- writes

-- what a statement makes of its version's table: the rows that the table is to have, the next identifier after those that they took, and the reply
pub record Planned : Type 0 where
  pub found : Found
  pub rows : Rows
  pub next : ℕ
  pub reply : Reply

-- the state after a write
abbrev pub state_with : AnyDatabase → Planned → AnyDatabase
state_with s p = record s { state = write any_meaning s.graph.edges s.state p.found.set p.found.table.number p.rows p.next }

-- a write, and its reply
abbrev pub wrote : AnyDatabase → Planned → Checked (Reply × AnyDatabase)
wrote s p =
    enough_ids s (state_with s p).state.next then λ _.
    Ok (p.reply, state_with s p)

-- the rows of the table
abbrev pub rows_of : AnyDatabase → Found → Rows
rows_of s f = s.state.tables f.table.number

abbrev pub columns_of : Found → List (List ℕ)
columns_of f = f.table.heading.columns

-- ---- INSERT INTO t VALUES ..

-- each row has one value for each column
unfoldable pub right_counts : ℕ → List (List Value) → Checked (Unit {0})
right_counts wanted [] = Ok tt
right_counts wanted (row ∷ rows) = if length row == wanted then right_counts wanted rows else Err (WrongCount (length row) wanted)

abbrev pub ids_of : Rows → List ℕ
ids_of rows = map (λ r. r.0) rows

abbrev pub planned_insert : AnyDatabase → TableName → List (List Value) → Checked Planned
planned_insert s name rows =
    found s name then λ f.
    right_counts (length (columns_of f)) rows then λ _.
    known_id s.state.next (unknown_in_rows s.state.next rows) then λ _.
    Ok (record {
      found = f;
      rows = inserted (rows_of s f) rows s.state.next;
      next = s.state.next + length rows;
      reply = Inserted (ids_of (numbered s.state.next rows));
    })

-- ---- UPDATE t SET ..

-- a SET: its column, and then its expression
abbrev pub known_set : List (List ℕ) → AssignmentView → Checked SetTerm
known_set columns a =
    known_column a.column (place_of columns a.column) then λ place.
    known_expression columns a.value then λ value.
    Ok (record { place = place; value = value })

-- all SETs in order
unfoldable pub known_sets : List (List ℕ) → List AssignmentView → Checked (List SetTerm)
known_sets columns [] = Ok []
known_sets columns (a ∷ assignments) =
    known_set columns a then λ set.
    known_sets columns assignments then λ sets.
    Ok (set ∷ sets)

abbrev pub set_columns : List AssignmentView → List (List ℕ)
set_columns assignments = map (λ (a : AssignmentView). a.column) assignments

abbrev pub set_values : List AssignmentView → List Tree
set_values assignments = map (λ (a : AssignmentView). a.value) assignments

abbrev pub planned_update : AnyDatabase → TableName → List AssignmentView → Option Tree → Checked Planned
planned_update s name assignments filter =
    found s name then λ f.
    known_sets (columns_of f) assignments then λ sets.
    known_condition (columns_of f) filter then λ condition.
    unrepeated (repeated [] (set_columns assignments)) then λ _.
    known_references s.state.next (set_values assignments ++ condition_list filter) then λ _.
    Ok (record {
      found = f;
      rows = updated (rows_of s f) sets condition;
      next = s.state.next;
      reply = Updated (chosen_count (rows_of s f) condition);
    })

-- ---- DELETE FROM t ..

abbrev pub planned_delete : AnyDatabase → TableName → Option Tree → Checked Planned
planned_delete s name filter =
    found s name then λ f.
    known_condition (columns_of f) filter then λ condition.
    known_references s.state.next (condition_list filter) then λ _.
    Ok (record {
      found = f;
      rows = deleted (rows_of s f) condition;
      next = s.state.next;
      reply = Deleted (chosen_count (rows_of s f) condition);
    })

-- ---- SELECT .. FROM t ..

-- the places from one on
unfoldable pub places_from : ℕ → List (List ℕ) → List ℕ
places_from place [] = []
places_from place (name ∷ names) = place ∷ places_from (place + 1) names

-- the places of listed names among those that a row shows
unfoldable pub known_items : List (List ℕ) → List (List ℕ) → Checked (List ℕ)
known_items shown [] = Ok []
known_items shown (name ∷ names) =
    known_column name (place_of shown name) then λ place.
    known_items shown names then λ places.
    Ok (place ∷ places)

-- `*` lists all that a row shows
abbrev pub listed_names : List (List ℕ) → Option (List (List ℕ)) → List (List ℕ)
listed_names columns None = shown_names columns
listed_names columns (Some names) = names

abbrev pub listed_places : List (List ℕ) → Option (List (List ℕ)) → Checked (List ℕ)
listed_places columns None = Ok (places_from 0 (shown_names columns))
listed_places columns (Some names) = known_items (shown_names columns) names

abbrev pub acted_select : AnyDatabase → TableName → Option (List (List ℕ)) → Option Tree → Checked (Reply × AnyDatabase)
acted_select s name items filter =
    found s name then λ f.
    listed_places (columns_of f) items then λ places.
    known_condition (columns_of f) filter then λ condition.
    known_references s.state.next (condition_list filter) then λ _.
    Ok (Shown (listed_names (columns_of f) items) (selected (rows_of s f) places condition), s)
