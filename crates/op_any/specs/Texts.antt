-- Expressions whose text literals aren't too long.
use Rattle.std.specs.Prelude.{◌≤◌, List, [], ◌∷◌, length, Option, Some, None, IsUtf8, FitsSigned}
use Rattle.std.specs.Int.{w64}
use Rattle.par_base.specs.declared.value.Value.{Value}
use Rattle.par_base.specs.declared.value.Value.TheVariants.{Null, Int, Text, Reference}
use Rattle.expr_lang.specs.Operations.{text_limit}
use Rattle.expr_lang.specs.Terms.{Term, Literal, Column, Unary, Binary}
use Rattle.statements.specs.Views.{Tree, KeyView, BranchView, OpView, Primary, Foreign, Condition, CreateTable, DropTable, RenameTable, RenameColumn, AddColumn, DropColumn, DecomposeSingle, Decompose, Join, Split, Merge}
use Rattle.version_graph.specs.Sets.{Each}

-- an integer has 64 bits, and a text is UTF-8 of at most `text_limit` bytes
abbrev pub ValueFits : Value → Type 0
ValueFits Null = Unit {0}
ValueFits (Int number) = FitsSigned w64 number
ValueFits (Text bytes) = (length bytes ≤ text_limit) × IsUtf8 bytes
ValueFits (Reference id) = Unit {0}

-- so have the literals of an expression
abbrev pub TermFits : {C : Type 0} → Term C → Type 0
TermFits (Literal v) = ValueFits v
TermFits (Column c) = Unit {0}
TermFits (Unary op t) = TermFits t
TermFits (Binary op t u) = TermFits t × TermFits u

-- the condition by which two tables belong together, where there is one
abbrev pub key_expressions : KeyView → List Tree
key_expressions Primary = []
key_expressions (Foreign column) = []
key_expressions (Condition condition) = condition ∷ []

-- the condition of a second branch, where there is one
abbrev pub second_condition : Option BranchView → List Tree
second_condition None = []
second_condition (Some branch) = branch.condition ∷ []

-- the expressions of an operator, in the order of its text
abbrev pub expressions_in : OpView → List Tree
expressions_in (CreateTable table columns) = []
expressions_in (DropTable table) = []
expressions_in (RenameTable table new) = []
expressions_in (RenameColumn column table new) = []
expressions_in (AddColumn column value table tracked) = value ∷ []
expressions_in (DropColumn column table value) = value ∷ []
expressions_in (DecomposeSingle table target columns) = []
expressions_in (Decompose table first first_columns second second_columns key) = key_expressions key
expressions_in (Join outer first second target key) = key_expressions key
expressions_in (Split table first second) = first.condition ∷ second_condition second
expressions_in (Merge first second target) = first.condition ∷ second.condition ∷ []

-- no text literal of an operator is too long
abbrev pub TextsFit : OpView → Type 0
TextsFit o = Each TermFits (expressions_in o)
