-- Reading operators, rule by rule.
use Rattle.std.specs.Prelude.{◌+◌, ◌∷◌, [], List, Bool, true, false, Option, length}
use Rattle.phrases.specs.Reading.{Read, and_then, done, either, is, many_at, behind_at, optional_at, with_front}
use Rattle.bidel_expr.specs.Lexemes.{Lexeme}
use Rattle.bidel_expr.specs.Literals.{comma_of, name_at, names_at}
use Rattle.bidel_expr.specs.Expressions.{expression_at}
use Rattle.bidel_parser.specs.declared.first_words.OperatorWord.{OperatorWord}
use Rattle.bidel_parser.specs.declared.first_words.OperatorWord.TheVariants as first
use Rattle.bidel_parser.specs.declared.first_words.Kind.{Kind}
use Rattle.bidel_parser.specs.declared.first_words.Kind.TheVariants as kind
use Rattle.bidel_parser.specs.declared.first_words.KeyWord.{KeyWord}
use Rattle.bidel_parser.specs.declared.first_words.KeyWord.TheVariants as by
use Rattle.bidel_parser.specs.Words.{choice_of, is_word}
use Rattle.bidel_parser.specs.inner.WordReaders.{word_at, sign_at, choice_at, flag_at}
use Rattle.statements.specs.Views.{KeyView, Primary, Foreign, Condition, BranchView, OpView, CreateTable, DropTable, RenameTable, RenameColumn, AddColumn, DropColumn, Join, Split, Merge}
use Rattle.bidel_parser.specs.Operators.{operator_words, kinds, key_words, Part, decomposed, part_of, branch_of, begins_operator}

abbrev pub key_rest_at : KeyWord → List Lexeme → Read Lexeme KeyView
key_rest_at by.Pk = done Primary
key_rest_at by.Primary = and_then (word_at "key") λ _. done Primary
key_rest_at by.Fk = and_then name_at λ column. done (Foreign column)
key_rest_at by.Foreign = and_then (word_at "key") λ _. and_then name_at λ column. done (Foreign column)

abbrev pub key_at : List Lexeme → Read Lexeme KeyView
key_at = either (is (choice_of key_words)) (choice_at key_words key_rest_at) (and_then expression_at λ condition. done (Condition condition))

abbrev pub create_rest_at : List Lexeme → Read Lexeme OpView
create_rest_at = and_then (word_at "table") λ _. and_then name_at λ table. and_then names_at λ columns. done (CreateTable table columns)

abbrev pub drop_rest_at : Kind → List Lexeme → Read Lexeme OpView
drop_rest_at kind.Table = and_then name_at λ table. done (DropTable table)
drop_rest_at kind.Column = and_then name_at λ column. and_then (word_at "from") λ _. and_then name_at λ table. and_then (word_at "default") λ _.
    and_then expression_at λ value. done (DropColumn column table value)

abbrev pub rename_rest_at : Kind → List Lexeme → Read Lexeme OpView
rename_rest_at kind.Table = and_then name_at λ table. and_then (word_at "into") λ _. and_then name_at λ new. done (RenameTable table new)
rename_rest_at kind.Column = and_then name_at λ column. and_then (word_at "in") λ _. and_then name_at λ table. and_then (word_at "to") λ _.
    and_then name_at λ new. done (RenameColumn column table new)

-- whether TRACKED comes
abbrev pub tracked_at : List Lexeme → Read Lexeme Bool
tracked_at = flag_at (is_word "tracked") (word_at "tracked")

abbrev pub add_rest_at : List Lexeme → Read Lexeme OpView
add_rest_at = and_then (word_at "column") λ _. and_then name_at λ column. and_then (word_at "as") λ _. and_then expression_at λ value.
    and_then (word_at "into") λ _. and_then name_at λ table. and_then tracked_at λ tracked. done (AddColumn column value table tracked)

abbrev pub second_part_at : List Lexeme → Read Lexeme Part
second_part_at = and_then name_at λ table. and_then names_at λ columns. and_then (word_at "on") λ _. and_then key_at λ key. done (part_of table columns key)

-- the part behind a comma, where one comes
abbrev pub optional_part_at : List Lexeme → Read Lexeme (Option Part)
optional_part_at = optional_at (is comma_of) (behind_at comma_of second_part_at)

abbrev pub decompose_rest_at : List Lexeme → Read Lexeme OpView
decompose_rest_at = and_then (word_at "table") λ _. and_then name_at λ table. and_then (word_at "into") λ _. and_then name_at λ target. and_then names_at λ columns.
    and_then optional_part_at λ second. done (decomposed table target columns second)

abbrev pub join_rest_at : Bool → List Lexeme → Read Lexeme OpView
join_rest_at outer = and_then (word_at "table") λ _. and_then name_at λ first. and_then (sign_at ",") λ _. and_then name_at λ second. and_then (word_at "into") λ _.
    and_then name_at λ target. and_then (word_at "on") λ _. and_then key_at λ key. done (Join outer first second target key)

abbrev pub split_branch_at : List Lexeme → Read Lexeme BranchView
split_branch_at = and_then name_at λ table. and_then (word_at "with") λ _. and_then expression_at λ condition. done (branch_of table condition)

-- the branch behind a comma, where one comes
abbrev pub second_branch_at : List Lexeme → Read Lexeme (Option BranchView)
second_branch_at = optional_at (is comma_of) (behind_at comma_of split_branch_at)

abbrev pub split_rest_at : List Lexeme → Read Lexeme OpView
split_rest_at = and_then (word_at "table") λ _. and_then name_at λ table. and_then (word_at "into") λ _. and_then split_branch_at λ first.
    and_then second_branch_at λ second. done (Split table first second)

abbrev pub merge_branch_at : List Lexeme → Read Lexeme BranchView
merge_branch_at = and_then name_at λ table. and_then (sign_at "(") λ _. and_then expression_at λ condition. and_then (sign_at ")") λ _. done (branch_of table condition)

abbrev pub merge_rest_at : List Lexeme → Read Lexeme OpView
merge_rest_at = and_then (word_at "table") λ _. and_then merge_branch_at λ first. and_then (sign_at ",") λ _. and_then merge_branch_at λ second.
    and_then (word_at "into") λ _. and_then name_at λ target. done (Merge first second target)

abbrev pub operator_rest_at : OperatorWord → List Lexeme → Read Lexeme OpView
operator_rest_at first.Create = create_rest_at
operator_rest_at first.Drop = choice_at kinds drop_rest_at
operator_rest_at first.Rename = choice_at kinds rename_rest_at
operator_rest_at first.Add = add_rest_at
operator_rest_at first.Decompose = decompose_rest_at
operator_rest_at first.Outer = and_then (word_at "join") λ _. join_rest_at true
operator_rest_at first.Join = join_rest_at false
operator_rest_at first.Split = split_rest_at
operator_rest_at first.Merge = merge_rest_at

abbrev pub operator_at : List Lexeme → Read Lexeme OpView
operator_at = choice_at operator_words operator_rest_at

abbrev pub closed_operator_at : List Lexeme → Read Lexeme OpView
closed_operator_at = and_then operator_at λ o. and_then (sign_at ";") λ _. done o

-- the further operators of a statement
abbrev pub operators_at : Bool → List Lexeme → Read Lexeme (List OpView)
operators_at ended ts = many_at begins_operator closed_operator_at ended (length ts + 1) ts

-- one operator with its semicolon, and further ones
abbrev pub listed_operators_at : Bool → List Lexeme → Read Lexeme (List OpView)
listed_operators_at ended = and_then closed_operator_at λ o. and_then (operators_at ended) λ os. done (o ∷ os)

-- the further operators, with the one before them
abbrev pub further_operators_at : Bool → OpView → List Lexeme → Read Lexeme (List OpView)
further_operators_at ended first ts = with_front (first ∷ []) (operators_at ended ts)
