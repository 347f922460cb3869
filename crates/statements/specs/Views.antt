-- Statements without where they lie in memory: what contracts compare.
use Rattle.std.specs.Prelude.{ℕ, Bool, List, map, Option, Some, None}
use Rattle.par_base.specs.declared.value.Value.{Value}
use Rattle.par_base.specs.declared.limits.Target.{Target}
use Rattle.expr_lang.specs.declared.tree.ExprText.{ExprText}
use Rattle.expr_lang.specs.Terms.{Term, text_term}
use Rattle.statements.specs.declared.statement.TableName.{TableName}
use Rattle.statements.specs.declared.statement.Assignment.{Assignment}
use Rattle.statements.specs.declared.statement.KeyText.{KeyText}
use Rattle.statements.specs.declared.statement.KeyText.TheVariants as key
use Rattle.statements.specs.declared.statement.Branch.{Branch}
use Rattle.statements.specs.declared.statement.OpText.{OpText}
use Rattle.statements.specs.declared.statement.OpText.TheVariants as op
use Rattle.statements.specs.declared.statement.Statement.{Statement}
use Rattle.statements.specs.declared.statement.Statement.TheVariants as statement

-- an expression with the bytes of its names
abbrev pub Tree : Type 0
Tree = Term (List ℕ)

-- a column and what it is set to
pub record AssignmentView : Type 0 where
  pub column : List ℕ
  pub value : Tree

abbrev pub assignment_view : Assignment → AssignmentView
assignment_view a = record { column = a.column; value = text_term a.value }

-- by what two tables belong together
pub data KeyView : Type 0 where
  Primary : KeyView
  Foreign : List ℕ → KeyView
  Condition : Tree → KeyView

abbrev pub key_view : KeyText → KeyView
key_view key.Primary = Primary
key_view (key.Foreign column) = Foreign column
key_view (key.Condition condition) = Condition (text_term condition)

-- a table and the condition of its rows
pub record BranchView : Type 0 where
  pub table : List ℕ
  pub condition : Tree

abbrev pub branch_view : Branch → BranchView
branch_view b = record { table = b.table; condition = text_term b.condition }

abbrev pub second_view : Option Branch → Option BranchView
second_view None = None
second_view (Some b) = Some (branch_view b)

-- an operator: its names, lists and expressions in order
pub data OpView : Type 0 where
  CreateTable : List ℕ → List (List ℕ) → OpView
  DropTable : List ℕ → OpView
  RenameTable : List ℕ → List ℕ → OpView
  RenameColumn : List ℕ → List ℕ → List ℕ → OpView
  AddColumn : List ℕ → Tree → List ℕ → Bool → OpView
  DropColumn : List ℕ → List ℕ → Tree → OpView
  DecomposeSingle : List ℕ → List ℕ → List (List ℕ) → OpView
  Decompose : List ℕ → List ℕ → List (List ℕ) → List ℕ → List (List ℕ) → KeyView → OpView
  Join : Bool → List ℕ → List ℕ → List ℕ → KeyView → OpView
  Split : List ℕ → BranchView → Option BranchView → OpView
  Merge : BranchView → BranchView → List ℕ → OpView

abbrev pub op_view : OpText → OpView
op_view (op.CreateTable table columns) = CreateTable table columns
op_view (op.DropTable table) = DropTable table
op_view (op.RenameTable table new) = RenameTable table new
op_view (op.RenameColumn column table new) = RenameColumn column table new
op_view (op.AddColumn column value table tracked) = AddColumn column (text_term value) table tracked
op_view (op.DropColumn column table value) = DropColumn column table (text_term value)
op_view (op.DecomposeSingle table target columns) = DecomposeSingle table target columns
op_view (op.Decompose table first first_columns second second_columns key) = Decompose table first first_columns second second_columns (key_view key)
op_view (op.Join outer first second target key) = Join outer first second target (key_view key)
op_view (op.Split table first second) = Split table (branch_view first) (second_view second)
op_view (op.Merge first second target) = Merge (branch_view first) (branch_view second) target

-- a filter
abbrev pub filter_view : Option ExprText → Option Tree
filter_view None = None
filter_view (Some filter) = Some (text_term filter)

-- a statement: its parts in order
pub data StatementView : Type 0 where
  CreateVersion : List ℕ → Option (List ℕ) → List OpView → StatementView
  DropVersion : List ℕ → StatementView
  Insert : TableName → List (List Value) → StatementView
  Import : TableName → List ℕ → StatementView
  Update : TableName → List AssignmentView → Option Tree → StatementView
  Delete : TableName → Option Tree → StatementView
  Select : TableName → Option (List (List ℕ)) → Option Tree → Bool → StatementView
  Materialize : List Target → Bool → StatementView
  Step : StatementView
  ShowLayout : StatementView
  Use : List ℕ → StatementView
  Session : ℕ → StatementView
  Advise : List ℕ → StatementView
  Watch : List ℕ → StatementView
  Unwatch : ℕ → StatementView
  Begin : StatementView
  Commit : StatementView
  Rollback : StatementView

abbrev pub statement_view : Statement → StatementView
statement_view (statement.CreateVersion name origin operators) = CreateVersion name origin (map op_view operators)
statement_view (statement.DropVersion name) = DropVersion name
statement_view (statement.Insert table rows) = Insert table rows
statement_view (statement.Import table text) = Import table text
statement_view (statement.Update table assignments filter) = Update table (map assignment_view assignments) (filter_view filter)
statement_view (statement.Delete table filter) = Delete table (filter_view filter)
statement_view (statement.Select table items filter csv) = Select table items (filter_view filter) csv
statement_view (statement.Materialize named in_steps) = Materialize named in_steps
statement_view statement.Step = Step
statement_view statement.ShowLayout = ShowLayout
statement_view (statement.Use name) = Use name
statement_view (statement.Session number) = Session number
statement_view (statement.Advise name) = Advise name
statement_view (statement.Watch name) = Watch name
statement_view (statement.Unwatch number) = Unwatch number
statement_view statement.Begin = Begin
statement_view statement.Commit = Commit
statement_view statement.Rollback = Rollback
