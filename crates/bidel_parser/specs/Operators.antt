-- Operators: which tokens spell which, and reading them.
use Rattle.std.specs.Prelude.{◌∷◌, [], ℕ, List, Bool, true, false, Option, Some, None, codes}
use Rattle.phrases.specs.Phrases.{Nothing, Seq, Either, Many, Behind, Optional}
use Rattle.phrases.specs.Reading.{is, begins_item, starts}
use Rattle.bidel_expr.specs.Lexemes.{Lexeme}
use Rattle.bidel_expr.specs.Literals.{comma_of, Names}
use Rattle.bidel_expr.specs.Expressions.{Expression}
use Rattle.bidel_parser.specs.declared.first_words.OperatorWord.{OperatorWord}
use Rattle.bidel_parser.specs.declared.first_words.OperatorWord.TheVariants as first
use Rattle.bidel_parser.specs.declared.first_words.Kind.{Kind}
use Rattle.bidel_parser.specs.declared.first_words.Kind.TheVariants as kind
use Rattle.bidel_parser.specs.declared.first_words.KeyWord.{KeyWord}
use Rattle.bidel_parser.specs.declared.first_words.KeyWord.TheVariants as by
use Rattle.bidel_parser.specs.Words.{Word, Sign, Name, choice_of, Choice, Flag, is_word}
use Rattle.bidel_parser.specs.declared.decompose.Second.{Second}
use Rattle.statements.specs.Views.{Tree, key_view, KeyView, Primary, Foreign, Condition, BranchView, OpView, CreateTable, DropTable, RenameTable, RenameColumn, AddColumn, DropColumn, DecomposeSingle, Decompose, Join, Split, Merge}

-- ---- the words that tell them apart

-- the first words of operators
abbrev pub operator_words : List (List ℕ × OperatorWord)
operator_words = (codes "create", first.Create) ∷ (codes "drop", first.Drop) ∷ (codes "rename", first.Rename) ∷ (codes "add", first.Add) ∷ (codes "decompose", first.Decompose)
    ∷ (codes "outer", first.Outer) ∷ (codes "join", first.Join) ∷ (codes "split", first.Split) ∷ (codes "merge", first.Merge) ∷ []

-- what is dropped or renamed
abbrev pub kinds : List (List ℕ × Kind)
kinds = (codes "table", kind.Table) ∷ (codes "column", kind.Column) ∷ []

-- the first words of keys that are no conditions
abbrev pub key_words : List (List ℕ × KeyWord)
key_words = (codes "pk", by.Pk) ∷ (codes "primary", by.Primary) ∷ (codes "fk", by.Fk) ∷ (codes "foreign", by.Foreign) ∷ []

-- ---- the grammar of keys

-- PK | PRIMARY KEY | FK name | FOREIGN KEY name, behind the first word
abbrev pub KeyRest : KeyWord → List Lexeme → KeyView → Type 0
KeyRest by.Pk = Nothing Primary
KeyRest by.Primary = Seq (Word "key") λ _. Nothing Primary
KeyRest by.Fk = Seq Name λ column. Nothing (Foreign column)
KeyRest by.Foreign = Seq (Word "key") λ _. Seq Name λ column. Nothing (Foreign column)

-- key = PK | PRIMARY KEY | FK name | FOREIGN KEY name | expr
abbrev pub Key : List Lexeme → KeyView → Type 0
Key = Either (Choice key_words KeyRest) (Seq Expression λ condition. Nothing (Condition condition))

-- ---- the grammar of operators, behind the first word

-- CREATE TABLE name names
abbrev pub CreateRest : List Lexeme → OpView → Type 0
CreateRest = Seq (Word "table") λ _. Seq Name λ table. Seq Names λ columns. Nothing (CreateTable table columns)

-- DROP TABLE name
-- DROP COLUMN name FROM name DEFAULT expr
abbrev pub DropRest : Kind → List Lexeme → OpView → Type 0
DropRest kind.Table = Seq Name λ table. Nothing (DropTable table)
DropRest kind.Column = Seq Name λ column. Seq (Word "from") λ _. Seq Name λ table. Seq (Word "default") λ _. Seq Expression λ value. Nothing (DropColumn column table value)

-- RENAME TABLE name INTO name
-- RENAME COLUMN name IN name TO name
abbrev pub RenameRest : Kind → List Lexeme → OpView → Type 0
RenameRest kind.Table = Seq Name λ table. Seq (Word "into") λ _. Seq Name λ new. Nothing (RenameTable table new)
RenameRest kind.Column = Seq Name λ column. Seq (Word "in") λ _. Seq Name λ table. Seq (Word "to") λ _. Seq Name λ new. Nothing (RenameColumn column table new)

-- ADD COLUMN name AS expr INTO name [ TRACKED ]
abbrev pub AddRest : List Lexeme → OpView → Type 0
AddRest = Seq (Word "column") λ _. Seq Name λ column. Seq (Word "as") λ _. Seq Expression λ value. Seq (Word "into") λ _. Seq Name λ table.
    Seq (Flag (Word "tracked")) λ tracked. Nothing (AddColumn column value table tracked)

-- the second table of a DECOMPOSE
pub record Part : Type 0 where
  pub table : List ℕ
  pub columns : List (List ℕ)
  pub key : KeyView

-- a DECOMPOSE, with or without a second table
abbrev pub decomposed : List ℕ → List ℕ → List (List ℕ) → Option Part → OpView
decomposed table target columns None = DecomposeSingle table target columns
decomposed table target columns (Some part) = Decompose table target columns part.table part.columns part.key

-- a second table of these parts
abbrev pub part_of : List ℕ → List (List ℕ) → KeyView → Part
part_of table columns key = record { table = table; columns = columns; key = key }

-- the second table that was read
abbrev pub part_view : Second → Part
part_view second = part_of second.table second.columns (key_view second.key)

-- the same, where there is one
abbrev pub optional_view : Option Second → Option Part
optional_view None = None
optional_view (Some second) = Some (part_view second)

-- name names ON key
abbrev pub SecondPart : List Lexeme → Part → Type 0
SecondPart = Seq Name λ table. Seq Names λ columns. Seq (Word "on") λ _. Seq Key λ key. Nothing (part_of table columns key)

-- DECOMPOSE TABLE name INTO name names [ "," name names ON key ]
abbrev pub DecomposeRest : List Lexeme → OpView → Type 0
DecomposeRest = Seq (Word "table") λ _. Seq Name λ table. Seq (Word "into") λ _. Seq Name λ target. Seq Names λ columns.
    Seq (Optional (Behind comma_of SecondPart)) λ second. Nothing (decomposed table target columns second)

-- [ OUTER ] JOIN TABLE name "," name INTO name ON key, behind JOIN
abbrev pub JoinRest : Bool → List Lexeme → OpView → Type 0
JoinRest outer = Seq (Word "table") λ _. Seq Name λ first. Seq (Sign ",") λ _. Seq Name λ second. Seq (Word "into") λ _. Seq Name λ target.
    Seq (Word "on") λ _. Seq Key λ key. Nothing (Join outer first second target key)

-- a table with the condition of its rows
abbrev pub branch_of : List ℕ → Tree → BranchView
branch_of table condition = record { table = table; condition = condition }

-- name WITH expr
abbrev pub SplitBranch : List Lexeme → BranchView → Type 0
SplitBranch = Seq Name λ table. Seq (Word "with") λ _. Seq Expression λ condition. Nothing (branch_of table condition)

-- SPLIT TABLE name INTO name WITH expr [ "," name WITH expr ]
abbrev pub SplitRest : List Lexeme → OpView → Type 0
SplitRest = Seq (Word "table") λ _. Seq Name λ table. Seq (Word "into") λ _. Seq SplitBranch λ first. Seq (Optional (Behind comma_of SplitBranch)) λ second. Nothing (Split table first second)

-- name "(" expr ")"
abbrev pub MergeBranch : List Lexeme → BranchView → Type 0
MergeBranch = Seq Name λ table. Seq (Sign "(") λ _. Seq Expression λ condition. Seq (Sign ")") λ _. Nothing (branch_of table condition)

-- MERGE TABLE name "(" expr ")" "," name "(" expr ")" INTO name
abbrev pub MergeRest : List Lexeme → OpView → Type 0
MergeRest = Seq (Word "table") λ _. Seq MergeBranch λ first. Seq (Sign ",") λ _. Seq MergeBranch λ second. Seq (Word "into") λ _. Seq Name λ target. Nothing (Merge first second target)

-- what may stand behind the first word
abbrev pub OperatorRest : OperatorWord → List Lexeme → OpView → Type 0
OperatorRest first.Create = CreateRest
OperatorRest first.Drop = Choice kinds DropRest
OperatorRest first.Rename = Choice kinds RenameRest
OperatorRest first.Add = AddRest
OperatorRest first.Decompose = DecomposeRest
OperatorRest first.Outer = Seq (Word "join") λ _. JoinRest true
OperatorRest first.Join = JoinRest false
OperatorRest first.Split = SplitRest
OperatorRest first.Merge = MergeRest

-- an operator, by its first word
abbrev pub Operator : List Lexeme → OpView → Type 0
Operator = Choice operator_words OperatorRest

-- operator ";"
abbrev pub ClosedOperator : List Lexeme → OpView → Type 0
ClosedOperator = Seq Operator λ o. Seq (Sign ";") λ _. Nothing o

-- operator ";" { operator ";" }
abbrev pub ListedOperators : List Lexeme → List OpView → Type 0
ListedOperators = Seq ClosedOperator λ o. Seq (Many ClosedOperator) λ os. Nothing (o ∷ os)

-- ---- where they begin

-- the words that alone show that an operator begins
abbrev pub lone_words : List (List ℕ × OperatorWord)
lone_words = (codes "rename", first.Rename) ∷ (codes "add", first.Add) ∷ (codes "decompose", first.Decompose)
    ∷ (codes "outer", first.Outer) ∷ (codes "join", first.Join) ∷ (codes "split", first.Split) ∷ (codes "merge", first.Merge) ∷ []

-- the words that begin statements too
abbrev pub shared_words : List (List ℕ × OperatorWord)
shared_words = (codes "create", first.Create) ∷ (codes "drop", first.Drop) ∷ []

-- what stands behind such a word where an operator begins
abbrev pub goes_on_with : Option OperatorWord → Lexeme → Bool
goes_on_with (Some first.Create) = is_word "table"
goes_on_with (Some first.Drop) = is (choice_of kinds)
goes_on_with _ = λ _. false

-- whether a word comes that begins statements too, and the one behind it shows an operator
abbrev pub shows_operator : List Lexeme → Bool
shows_operator [] = false
shows_operator (t ∷ ts) = starts (goes_on_with (choice_of shared_words t)) ts

-- whether an operator begins, or may begin as the input goes on: CREATE and DROP show it with the word behind them
abbrev pub begins_operator : Bool → List Lexeme → Bool
begins_operator = begins_item (is (choice_of lone_words)) (is (choice_of shared_words)) (λ t. goes_on_with (choice_of shared_words t))

-- ---- reading, rule by rule
