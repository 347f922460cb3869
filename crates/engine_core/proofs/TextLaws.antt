-- The texts of a statement that aren't too long fit rows, SETs and operators; and what holds of operators' texts stays so.
use Rattle.std.proofs.Common.{ℕ, List, [], ◌∷◌, Some, None}
use Rattle.std.specs.List.{All}
use Rattle.std.proofs.lemmas.List.Elements.{All-head, All-tail, All-weaker}
use Rattle.par_base.specs.declared.value.Value.{Value}
use Rattle.par_base.specs.declared.value.Value.TheVariants.{Null, Int, Text, Reference}
use Rattle.expr_lang.specs.Operations.{text_limit}
use Rattle.expr_lang.specs.Terms.{Term, Literal, Column, Unary, Binary}
use Rattle.statements.specs.Views.{AssignmentView, OpView, CreateTable, DropTable, RenameTable, RenameColumn, AddColumn, DropColumn, DecomposeSingle, Decompose, Join, Split, Merge, KeyView, Primary, Foreign, Condition}
use Rattle.statements.specs.Texts.{AssignmentTexts, IsTextWithin, KeyTexts, OpTexts, RowTexts, TermTexts, ValueTexts}
use Rattle.version_graph.specs.Sets.{Each}
use Rattle.op_any.specs.Texts.{ValueFits, TermFits, TextsFit, key_expressions}
use Rattle.engine_statements.specs.Calls.{AssignmentFits, RowFits}

abbrev Short : List ℕ → Type 0
Short = IsTextWithin text_limit

value_fits : (v : Value) → ValueTexts Short v → ValueFits v
value_fits Null short = tt
value_fits (Int number) short = short
value_fits (Text bytes) short = short
value_fits (Reference id) short = tt

term_fits : {C : Type 0} (t : Term C) → TermTexts Short t → TermFits t
term_fits (Literal v) short = value_fits v short
term_fits (Column c) short = tt
term_fits (Unary op t) short = term_fits t short
term_fits (Binary op t u) short = (term_fits t short.0, term_fits u short.1)

key_fits : (key : KeyView) → KeyTexts Short key → Each TermFits (key_expressions key)
key_fits Primary short = tt
key_fits (Foreign column) short = tt
key_fits (Condition condition) short = (term_fits condition short, tt)

operator_fits : (o : OpView) → OpTexts Short o → TextsFit o
operator_fits (CreateTable table columns) short = tt
operator_fits (DropTable table) short = tt
operator_fits (RenameTable table new) short = tt
operator_fits (RenameColumn column table new) short = tt
operator_fits (AddColumn column value table tracked) short = (term_fits value short, tt)
operator_fits (DropColumn column table value) short = (term_fits value short, tt)
operator_fits (DecomposeSingle table target columns) short = tt
operator_fits (Decompose table first first_columns second second_columns key) short = key_fits key short
operator_fits (Join outer first second target key) short = key_fits key short
operator_fits (Split table first None) short = (term_fits first.condition short.0, tt)
operator_fits (Split table first (Some second)) short = (term_fits first.condition short.0, (term_fits second.condition short.1, tt))
operator_fits (Merge first second target) short = (term_fits first.condition short.0, (term_fits second.condition short.1, tt))

pub operators_fit : (operators : List OpView) → All (OpTexts Short) operators → Each TextsFit operators
operators_fit [] short = tt
operators_fit (o ∷ operators) short =
    (operator_fits o (All-head (OpTexts Short) o operators short), operators_fit operators (All-tail (OpTexts Short) o operators short))

pub rows_fit : (rows : List (List Value)) → All (RowTexts Short) rows → All RowFits rows
rows_fit rows short = All-weaker (RowTexts Short) RowFits (λ row texts. All-weaker (ValueTexts Short) ValueFits value_fits row texts) rows short

pub assignments_fit : (assignments : List AssignmentView) → All (AssignmentTexts Short) assignments → All AssignmentFits assignments
assignments_fit assignments short = All-weaker (AssignmentTexts Short) AssignmentFits (λ a texts. term_fits a.value texts) assignments short
