-- The canonical text of operators. Texts are put together from the right, part by part.
use Rattle.std.specs.Prelude.{ℕ, List, [], ◌∷◌, ◌++◌, Bool, true, false, Option, Some, None, codes, flat_map}
use Rattle.statements.specs.Views.{KeyView, Primary, Foreign, Condition, BranchView, OpView, CreateTable, DropTable, RenameTable, RenameColumn, AddColumn, DropColumn, DecomposeSingle, Decompose, Join, Split, Merge}
use Rattle.bidel_text.specs.ExpressionText.{expression_text}

-- further items of a list, each behind a comma
abbrev pub further_text : {A : Type 0} → (A → List ℕ) → List A → List ℕ
further_text show items = flat_map (λ item. codes ", " ++ show item) items

-- items with commas between them
abbrev pub listed_text : {A : Type 0} → (A → List ℕ) → List A → List ℕ
listed_text show [] = []
listed_text show (item ∷ items) = show item ++ further_text show items

-- names with commas between them, in parentheses
abbrev pub names_text : List (List ℕ) → List ℕ
names_text names = codes "(" ++ (listed_text (λ name. name) names ++ codes ")")

-- by what two tables belong together
abbrev pub key_text : KeyView → List ℕ
key_text Primary = codes "PK"
key_text (Foreign column) = codes "FK " ++ column
key_text (Condition condition) = expression_text condition

-- a table of SPLIT
abbrev pub split_text : BranchView → List ℕ
split_text branch = branch.table ++ (codes " WITH " ++ expression_text branch.condition)

-- the second one, where there is one
abbrev pub second_text : Option BranchView → List ℕ
second_text None = []
second_text (Some branch) = codes ", " ++ split_text branch

-- a table of MERGE
abbrev pub merge_text : BranchView → List ℕ
merge_text branch = branch.table ++ (codes " (" ++ (expression_text branch.condition ++ codes ")"))

-- OUTER, where it stands
abbrev pub outer_text : Bool → List ℕ
outer_text false = []
outer_text true = codes "OUTER "

-- words that stand where this is so
abbrev pub flag_text : List ℕ → Bool → List ℕ
flag_text words false = []
flag_text words true = words

-- an operator, without `;`
abbrev pub operator_text : OpView → List ℕ
operator_text (CreateTable table columns) = codes "CREATE TABLE " ++ (table ++ names_text columns)
operator_text (DropTable table) = codes "DROP TABLE " ++ table
operator_text (RenameTable table new) = codes "RENAME TABLE " ++ (table ++ (codes " INTO " ++ new))
operator_text (RenameColumn column table new) =
    codes "RENAME COLUMN " ++ (column ++ (codes " IN " ++ (table ++ (codes " TO " ++ new))))
operator_text (AddColumn column value table tracked) =
    codes "ADD COLUMN " ++ (column ++ (codes " AS " ++ (expression_text value
    ++ (codes " INTO " ++ (table ++ flag_text (codes " TRACKED") tracked)))))
operator_text (DropColumn column table value) =
    codes "DROP COLUMN " ++ (column ++ (codes " FROM " ++ (table
    ++ (codes " DEFAULT " ++ expression_text value))))
operator_text (DecomposeSingle table target columns) =
    codes "DECOMPOSE TABLE " ++ (table ++ (codes " INTO " ++ (target ++ names_text columns)))
operator_text (Decompose table first first_columns second second_columns key) =
    codes "DECOMPOSE TABLE " ++ (table ++ (codes " INTO " ++ (first ++ (names_text first_columns
    ++ (codes ", " ++ (second ++ (names_text second_columns ++ (codes " ON " ++ key_text key))))))))
operator_text (Join outer first second target key) =
    outer_text outer ++ (codes "JOIN TABLE " ++ (first ++ (codes ", " ++ (second
    ++ (codes " INTO " ++ (target ++ (codes " ON " ++ key_text key)))))))
operator_text (Split table first second) =
    codes "SPLIT TABLE " ++ (table ++ (codes " INTO " ++ (split_text first ++ second_text second)))
operator_text (Merge first second target) =
    codes "MERGE TABLE " ++ (merge_text first ++ (codes ", " ++ (merge_text second
    ++ (codes " INTO " ++ target))))
