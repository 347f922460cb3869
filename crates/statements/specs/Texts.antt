-- The values that statements spell: the literals of rows and expressions, and the text of an IMPORT.
use Rattle.std.specs.Prelude.{◌≤◌, ℕ, List, length, IfSome, ⊤, IsUtf8, FitsSigned}
use Rattle.std.specs.Int.{w64}
use Rattle.std.specs.List.{All}
use Rattle.par_base.specs.declared.value.Value.{Value}
use Rattle.par_base.specs.declared.value.Value.TheVariants.{Null, Int, Text, Reference}
use Rattle.expr_lang.specs.Terms.{Term, Literal, Column, Unary, Binary}
use Rattle.statements.specs.Views.{KeyView, Primary, Foreign, Condition, BranchView, OpView, AddColumn, DropColumn, Decompose, Join, Split, Merge, AssignmentView, StatementView, CreateVersion, Insert, Import, Update, Delete, Select}

-- ---- each integer has 64 bits, and P holds of each text ..

-- of a value
abbrev pub ValueTexts : (List ℕ → Type 0) → Value → Type 0
ValueTexts P Null = ⊤
ValueTexts P (Int number) = FitsSigned w64 number
ValueTexts P (Text bytes) = P bytes
ValueTexts P (Reference id) = ⊤

-- of a row
abbrev pub RowTexts : (List ℕ → Type 0) → List Value → Type 0
RowTexts P row = All (ValueTexts P) row

-- of an expression
abbrev pub TermTexts : {C : Type 0} → (List ℕ → Type 0) → Term C → Type 0
TermTexts P (Literal v) = ValueTexts P v
TermTexts P (Column c) = ⊤
TermTexts P (Unary op t) = TermTexts P t
TermTexts P (Binary op t u) = TermTexts P t × TermTexts P u

-- of the condition by which two tables belong together
abbrev pub KeyTexts : (List ℕ → Type 0) → KeyView → Type 0
KeyTexts P Primary = ⊤
KeyTexts P (Foreign column) = ⊤
KeyTexts P (Condition condition) = TermTexts P condition

-- of the condition of a table's rows
abbrev pub BranchTexts : (List ℕ → Type 0) → BranchView → Type 0
BranchTexts P branch = TermTexts P branch.condition

-- of an operator
abbrev pub OpTexts : (List ℕ → Type 0) → OpView → Type 0
OpTexts P (AddColumn column value table tracked) = TermTexts P value
OpTexts P (DropColumn column table value) = TermTexts P value
OpTexts P (Decompose table first first_columns second second_columns key) = KeyTexts P key
OpTexts P (Join outer first second target key) = KeyTexts P key
OpTexts P (Split table first second) = BranchTexts P first × IfSome second (BranchTexts P)
OpTexts P (Merge first second target) = BranchTexts P first × BranchTexts P second
OpTexts P _ = ⊤

-- of what a column is set to
abbrev pub AssignmentTexts : (List ℕ → Type 0) → AssignmentView → Type 0
AssignmentTexts P assignment = TermTexts P assignment.value

-- of a statement
abbrev pub StatementTexts : (List ℕ → Type 0) → StatementView → Type 0
StatementTexts P (CreateVersion name origin operators) = All (OpTexts P) operators
StatementTexts P (Insert table rows) = All (RowTexts P) rows
StatementTexts P (Import table bytes) = P bytes
StatementTexts P (Update table assignments filter) = All (AssignmentTexts P) assignments × IfSome filter (TermTexts P)
StatementTexts P (Delete table filter) = IfSome filter (TermTexts P)
StatementTexts P (Select table items filter csv) = IfSome filter (TermTexts P)
StatementTexts P _ = ⊤

-- ---- how long they are

-- a text in UTF-8 of at most n bytes
abbrev pub IsTextWithin : ℕ → List ℕ → Type 0
IsTextWithin n bytes = (length bytes ≤ n) × IsUtf8 bytes

-- each integer of a statement has 64 bits, and each text is UTF-8 of at most n bytes
abbrev pub TextsWithin : ℕ → StatementView → Type 0
TextsWithin n statement = StatementTexts (IsTextWithin n) statement
