-- The grammar spells the operators of the script.
use Rattle.std.proofs.Common.{◌≡◌, [], ◌∷◌, List, ℕ, true, refl}
use Rattle.std.specs.Prelude.{codes, pos, None, Some}
use Rattle.par_base.specs.Names.{is_name, is_reserved}
use Rattle.par_base.specs.declared.value.Value.TheVariants.{Int}
use Rattle.phrases.specs.Phrases.{OneOf, Behind, Many, Optional}
use Rattle.bidel_expr.specs.Lexemes.{word, number, name_of}
use Rattle.bidel_expr.specs.Literals.{comma_of, Names}
use Rattle.bidel_expr.specs.Expressions.{Expression}
use Rattle.statements.specs.Views.{Foreign}
use Rattle.bidel_parser.specs.declared.first_words.OperatorWord.TheVariants as first
use Rattle.bidel_parser.specs.declared.first_words.Kind.TheVariants as kind
use Rattle.bidel_parser.specs.declared.first_words.KeyWord.TheVariants as by
use Rattle.bidel_parser.specs.Words.{choice_of}
use Rattle.bidel_parser.specs.Operators.{operator_words, OperatorRest, kinds, DropRest, RenameRest, key_words, KeyRest, Key, branch_of, SplitBranch, Part, part_of, SecondPart, Operator}
use Rattle.script_generator.specs.Generated.{column_is, create_task, split_task, drop_prio, decompose_task, rename_author}
use Rattle.script_generator.proofs.PhraseLemmas.{Spelled, done, token, part, left_one, given, left_out, no_more, literal_alone, comparison, name_said, lone_name, name_then, word_then, sign_then, another, enclosed}

-- ---- the names

pub tasky_name : is_name (codes "tasky") ≡ true
unfolding is_name is_reserved
tasky_name = refl

pub task_name : is_name (codes "task") ≡ true
unfolding is_name is_reserved
task_name = refl

pub author_name : is_name (codes "author") ≡ true
unfolding is_name is_reserved
author_name = refl

pub prio_name : is_name (codes "prio") ≡ true
unfolding is_name is_reserved
prio_name = refl

pub do_name : is_name (codes "do!") ≡ true
unfolding is_name is_reserved
do_name = refl

pub todo_name : is_name (codes "todo") ≡ true
unfolding is_name is_reserved
todo_name = refl

pub tasky2_name : is_name (codes "tasky2") ≡ true
unfolding is_name is_reserved
tasky2_name = refl

pub name_name : is_name (codes "name") ≡ true
unfolding is_name is_reserved
name_name = refl

-- ---- the lists of columns

further_name : (name : List ℕ) (names : List (List ℕ)) → is_name name ≡ true → Spelled (Many (Behind comma_of (OneOf name_of))) names → Spelled (Many (Behind comma_of (OneOf name_of))) (name ∷ names)
further_name name names is h = another (OneOf name_of) name names (lone_name name is) h

names_spelled : (name : List ℕ) (names : List (List ℕ)) → is_name name ≡ true → Spelled (Many (Behind comma_of (OneOf name_of))) names → Spelled Names (name ∷ names)
names_spelled name names is h = enclosed (OneOf name_of) name names (lone_name name is) h

last : Spelled (Many (Behind comma_of (OneOf name_of))) []
last = no_more (Behind comma_of (OneOf name_of))

-- ---- the operators

pub create_spelled : Spelled Operator create_task
create_spelled =
    token (choice_of operator_words) OperatorRest (word (codes "create")) first.Create create_task refl
    (word_then (codes "table") _ _ refl (name_then _ (codes "task") _ task_name
    (part Names _ _ _ (names_spelled (codes "author") _ author_name (further_name (codes "task") _ task_name (further_name (codes "prio") [] prio_name last)))
    (done create_task))))

pub split_spelled : Spelled Operator split_task
split_spelled =
    token (choice_of operator_words) OperatorRest (word (codes "split")) first.Split split_task refl
    (word_then (codes "table") _ _ refl (name_then _ (codes "task") _ task_name (word_then (codes "into") _ _ refl
    (part SplitBranch _ (branch_of (codes "todo") (column_is (codes "prio") (Int (pos 1)))) _
    (name_then _ (codes "todo") _ todo_name (word_then (codes "with") _ _ refl
    (part Expression _ _ _ (comparison (codes "prio") (number 1) (Int (pos 1)) (name_said (codes "prio") prio_name) refl refl) (done _))))
    (part (Optional (Behind comma_of SplitBranch)) _ None _ (left_out (Behind comma_of SplitBranch)) (done split_task))))))

pub drop_spelled : Spelled Operator drop_prio
drop_spelled =
    token (choice_of operator_words) OperatorRest (word (codes "drop")) first.Drop drop_prio refl
    (token (choice_of kinds) DropRest (word (codes "column")) kind.Column drop_prio refl
    (name_then _ (codes "prio") _ prio_name (word_then (codes "from") _ _ refl
    (name_then _ (codes "todo") _ todo_name (word_then (codes "default") _ _ refl
    (part Expression _ _ _ (literal_alone (number 1) (Int (pos 1)) refl refl) (done drop_prio)))))))

-- the second table of DECOMPOSE
abbrev author_part : Part
author_part = part_of (codes "author") (codes "author" ∷ []) (Foreign (codes "author"))

key_spelled : Spelled Key (Foreign (codes "author"))
key_spelled = left_one _ _ _ (token (choice_of key_words) KeyRest (word (codes "fk")) by.Fk _ refl (name_then _ (codes "author") _ author_name (done _)))

part_spelled : Spelled (Behind comma_of SecondPart) author_part
part_spelled =
    sign_then (codes ",") SecondPart author_part refl (name_then _ (codes "author") _ author_name
    (part Names _ _ _ (names_spelled (codes "author") [] author_name last) (word_then (codes "on") _ _ refl
    (part Key _ _ _ key_spelled (done author_part)))))

pub decompose_spelled : Spelled Operator decompose_task
decompose_spelled =
    token (choice_of operator_words) OperatorRest (word (codes "decompose")) first.Decompose decompose_task refl
    (word_then (codes "table") _ _ refl (name_then _ (codes "task") _ task_name (word_then (codes "into") _ _ refl
    (name_then _ (codes "task") _ task_name
    (part Names _ _ _ (names_spelled (codes "task") _ task_name (further_name (codes "prio") [] prio_name last))
    (part (Optional (Behind comma_of SecondPart)) _ (Some author_part) _ (given (Behind comma_of SecondPart) author_part part_spelled) (done decompose_task)))))))

pub rename_spelled : Spelled Operator rename_author
rename_spelled =
    token (choice_of operator_words) OperatorRest (word (codes "rename")) first.Rename rename_author refl
    (token (choice_of kinds) RenameRest (word (codes "column")) kind.Column rename_author refl
    (name_then _ (codes "author") _ author_name (word_then (codes "in") _ _ refl
    (name_then _ (codes "author") _ author_name (word_then (codes "to") _ _ refl
    (name_then _ (codes "name") _ name_name (done rename_author)))))))
