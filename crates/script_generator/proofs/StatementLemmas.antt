-- The grammar spells the statements of the script.
use Rattle.std.proofs.Common.{◌≡◌, ◌<◌, ◌≤◌, ◌+◌, ◌-◌, ◌%◌, ◌^◌, [], ◌∷◌, ◌++◌, List, ℕ, zero, suc, true, refl, ap, get_or, arith}
use Rattle.std.specs.Prelude.{Some, None, Bool, cond, codes, decimal, pos, IsUtf8}
use Rattle.std.proofs.lemmas.Bool.{le-leb}
use Rattle.std.proofs.lemmas.Str.{IsUtf8-append, IsUtf8-from_ascii, is_utf8-from_IsUtf8}
use Rattle.par_base.specs.Names.{is_name}
use Rattle.par_base.specs.declared.value.Value.{Value}
use Rattle.par_base.specs.declared.value.Value.TheVariants.{Int, Text}
use Rattle.par_base.proofs.LiteralLaws.{id_is_utf8}
use Rattle.expr_lang.specs.Terms.{Literal}
use Rattle.phrases.specs.Phrases.{Behind, Many, Optional, Separated}
use Rattle.bidel_expr.specs.Lexemes.{Lexeme, word, number, «text», unsigned_of}
use Rattle.bidel_expr.specs.Literals.{comma_of, dot_of, Literal as LiteralRule, Tuple}
use Rattle.bidel_expr.specs.Expressions.{Expression}
use Rattle.statements.specs.Views.{Tree, OpView}
use Rattle.bidel_parser.specs.declared.first_words.StatementWord.TheVariants as first
use Rattle.bidel_parser.specs.Words.{Word, Sign, Name, choice_of}
use Rattle.bidel_parser.specs.Operators.{Operator, ClosedOperator, ListedOperators}
use Rattle.bidel_parser.specs.Statements.{statement_words, StatementRest, table_named, TableOf, target_named, TargetOf, assigned, AssignmentOf, Filter, IsStatement}
use Rattle.script_generator.specs.Generated.{table_of, lettered, materialize, create_task, split_task, drop_prio, decompose_task, rename_author, create_tasky, insert_task, create_do, create_tasky2, insert_todo, delete_tasks, rename_authors}
use Rattle.script_generator.proofs.PhraseLemmas.{Spelled, done, token, lone, part, right_one, given, left_out, no_more, one_more, separated, literal_alone, comparison, name_said, lone_name, name_then, word_then, sign_then, another, enclosed}
use Rattle.script_generator.proofs.OperatorLemmas.{tasky_name, task_name, author_name, prio_name, do_name, todo_name, tasky2_name, name_name, create_spelled, split_spelled, drop_spelled, decompose_spelled, rename_spelled}

-- ---- their parts

-- a table of a version
table_spelled : (version table : List ℕ) → is_name version ≡ true → is_name table ≡ true → Spelled TableOf (table_of version table)
table_spelled version table is has =
    name_then _ version _ is (part (Optional (Behind dot_of Name)) (λ second. Rattle.phrases.specs.Phrases.Nothing (table_named version second)) (Some table) _
    (given (Behind dot_of Name) table (sign_then (codes ".") Name table refl (lone_name table has))) (done _))

-- the end of a statement
semicolon : {B : Type 0} (T : List Lexeme → B → Type 0) (b : B) → Spelled T b → Spelled (Rattle.phrases.specs.Phrases.Seq (Sign ";") λ _. T) b
semicolon T b h = sign_then (codes ";") T b refl h

-- an operator with its end, and operators
closed : (o : OpView) → Spelled Operator o → Spelled ClosedOperator o
closed o h = part Operator _ o o h (semicolon _ o (done o))

listed : (o : OpView) (os : List OpView) → Spelled Operator o → Spelled (Many ClosedOperator) os → Spelled ListedOperators (o ∷ os)
listed o os h k = part ClosedOperator _ o _ (closed o h) (part (Many ClosedOperator) _ os _ k (done (o ∷ os)))

-- two operators
pair_listed : (o p : OpView) → Spelled Operator o → Spelled Operator p → Spelled ListedOperators (o ∷ p ∷ [])
pair_listed o p h k = listed o (p ∷ []) h (one_more ClosedOperator p [] (closed p k) (no_more ClosedOperator))

-- a filter
filter_spelled : (e : Tree) → Spelled Expression e → Spelled Filter (Some e)
filter_spelled e h = given _ e (word_then (codes "where") Expression e refl h)

-- ---- rows

-- a text in UTF-8
text_said : (bytes : List ℕ) → IsUtf8 bytes → unsigned_of («text» bytes) ≡ Some (Text bytes)
text_said bytes h = ap (λ (b : Bool). cond b (Some (Text bytes)) None) (is_utf8-from_IsUtf8 bytes h)

-- a letter and a number
lettered_spelled : (letter : List ℕ) (i : ℕ) → IsUtf8 letter → i < 2 ^ 32 → Spelled LiteralRule (lettered letter i)
lettered_spelled letter i h k =
    let bytes = letter ++ decimal i in
    right_one _ _ _ (lone unsigned_of («text» bytes) (Text bytes) (text_said bytes (IsUtf8-append letter (decimal i) h (id_is_utf8 i (omega (arith, k))))))

-- a small number
number_spelled : (n : ℕ) → n ≤ 3 → Spelled LiteralRule (Int (pos n))
number_spelled n h = right_one _ _ _ (lone unsigned_of (number n) (Int (pos n)) (ap (λ (b : Bool). cond b (Some (Int (pos n))) None) (le-leb n (2 ^ 63 - 1) (omega (arith, h)))))

-- one byte of ASCII
pub byte_utf8 : (c : ℕ) → c < 128 → IsUtf8 (c ∷ [])
byte_utf8 c h = IsUtf8-from_ascii (c ∷ []) is_ascii
  where
    is_ascii : (k : ℕ) → get_or (c ∷ []) k 0 < 128
    is_ascii zero = h
    is_ascii (suc k) = omega arith

-- one row
row_spelled : (row : List Value) → Spelled Tuple row → Spelled (Separated comma_of Tuple) (row ∷ [])
row_spelled row h = separated comma_of Tuple row [] h (no_more (Behind comma_of Tuple))

last : Spelled (Many (Behind comma_of LiteralRule)) []
last = no_more (Behind comma_of LiteralRule)

-- ---- the statements

pub tasky_spelled : Spelled IsStatement create_tasky
tasky_spelled =
    token (choice_of statement_words) StatementRest (word (codes "create")) first.Create create_tasky refl
    (word_then (codes "schema") _ _ refl (word_then (codes "version") _ _ refl (name_then _ (codes "tasky") _ tasky_name
    (part (Optional _) _ None _ (left_out _) (word_then (codes "with") _ _ refl
    (part ListedOperators _ _ _ (listed create_task [] create_spelled (no_more ClosedOperator)) (done create_tasky)))))))

-- the version from which a new one is made
origin_spelled : Spelled (Optional (Rattle.phrases.specs.Phrases.Seq (Word "from") λ _. Name)) (Some (codes "tasky"))
origin_spelled = given _ (codes "tasky") (word_then (codes "from") Name (codes "tasky") refl (lone_name (codes "tasky") tasky_name))

pub do_spelled : Spelled IsStatement create_do
do_spelled =
    token (choice_of statement_words) StatementRest (word (codes "create")) first.Create create_do refl
    (word_then (codes "schema") _ _ refl (word_then (codes "version") _ _ refl (name_then _ (codes "do!") _ do_name
    (part (Optional _) _ (Some (codes "tasky")) _ origin_spelled (word_then (codes "with") _ _ refl
    (part ListedOperators _ _ _ (pair_listed split_task drop_prio split_spelled drop_spelled) (done create_do)))))))

pub tasky2_spelled : Spelled IsStatement create_tasky2
tasky2_spelled =
    token (choice_of statement_words) StatementRest (word (codes "create")) first.Create create_tasky2 refl
    (word_then (codes "schema") _ _ refl (word_then (codes "version") _ _ refl (name_then _ (codes "tasky2") _ tasky2_name
    (part (Optional _) _ (Some (codes "tasky")) _ origin_spelled (word_then (codes "with") _ _ refl
    (part ListedOperators _ _ _ (pair_listed decompose_task rename_author decompose_spelled rename_spelled) (done create_tasky2)))))))

pub task_spelled : (i : ℕ) → i < 2 ^ 32 → Spelled IsStatement (insert_task i)
task_spelled i h =
    token (choice_of statement_words) StatementRest (word (codes "insert")) first.Insert (insert_task i) refl
    (word_then (codes "into") _ _ refl (part TableOf _ _ _ (table_spelled (codes "tasky") (codes "task") tasky_name task_name)
    (word_then (codes "values") _ _ refl (part (Separated comma_of Tuple) _ _ _ (row_spelled _ row) (semicolon _ _ (done (insert_task i)))))))
  where
    row : Spelled Tuple (lettered (codes "a") (i % 10) ∷ lettered (codes "t") i ∷ Int (pos (i % 3 + 1)) ∷ [])
    row = enclosed LiteralRule _ _ (lettered_spelled (codes "a") (i % 10) (byte_utf8 97 (omega arith)) (omega arith))
        (another LiteralRule _ _ (lettered_spelled (codes "t") i (byte_utf8 116 (omega arith)) h)
        (another LiteralRule _ _ (number_spelled (i % 3 + 1) (omega arith)) last))

pub todo_spelled : (i : ℕ) → i < 2 ^ 32 → Spelled IsStatement (insert_todo i)
todo_spelled i h =
    token (choice_of statement_words) StatementRest (word (codes "insert")) first.Insert (insert_todo i) refl
    (word_then (codes "into") _ _ refl (part TableOf _ _ _ (table_spelled (codes "do!") (codes "todo") do_name todo_name)
    (word_then (codes "values") _ _ refl (part (Separated comma_of Tuple) _ _ _ (row_spelled _ row) (semicolon _ _ (done (insert_todo i)))))))
  where
    row : Spelled Tuple (lettered (codes "b") (i % 8) ∷ lettered (codes "u") i ∷ [])
    row = enclosed LiteralRule _ _ (lettered_spelled (codes "b") (i % 8) (byte_utf8 98 (omega arith)) (omega arith))
        (another LiteralRule _ _ (lettered_spelled (codes "u") i (byte_utf8 117 (omega arith)) h) last)

pub materialize_spelled : (version : List ℕ) → is_name version ≡ true → Spelled IsStatement (materialize version)
materialize_spelled version is =
    token (choice_of statement_words) StatementRest (word (codes "materialize")) first.Materialize (materialize version) refl
    (part (Separated comma_of TargetOf) _ _ _ (separated comma_of TargetOf (target_named version None) [] target (no_more (Behind comma_of TargetOf)))
    (part _ _ _ _ (right_one _ _ _ (done _)) (semicolon _ _ (done (materialize version)))))
  where
    target : Spelled TargetOf (target_named version None)
    target = name_then _ version _ is (part (Optional (Behind dot_of Name)) _ None _ (left_out (Behind dot_of Name)) (done (target_named version None)))

pub delete_spelled : Spelled IsStatement delete_tasks
delete_spelled =
    token (choice_of statement_words) StatementRest (word (codes "delete")) first.Delete delete_tasks refl
    (word_then (codes "from") _ _ refl (part TableOf _ _ _ (table_spelled (codes "tasky") (codes "task") tasky_name task_name)
    (part Filter _ _ _ (filter_spelled _ (comparison (codes "prio") (number 2) (Int (pos 2)) (name_said (codes "prio") prio_name) refl refl))
    (semicolon _ _ (done delete_tasks)))))

pub rename_authors_spelled : Spelled IsStatement rename_authors
rename_authors_spelled =
    token (choice_of statement_words) StatementRest (word (codes "update")) first.Update rename_authors refl
    (part TableOf _ _ _ (table_spelled (codes "tasky2") (codes "author") tasky2_name author_name)
    (word_then (codes "set") _ _ refl (part (Separated comma_of AssignmentOf) _ _ _ (separated comma_of AssignmentOf _ [] assignment (no_more (Behind comma_of AssignmentOf)))
    (part Filter _ _ _ (filter_spelled _ (comparison (codes "name") («text» (codes "b0")) (Text (codes "b0")) (name_said (codes "name") name_name) (text_said (codes "b0") (IsUtf8-append (codes "b") (codes "0") (byte_utf8 98 (omega arith)) (byte_utf8 48 (omega arith)))) refl))
    (semicolon _ _ (done rename_authors))))))
  where
    assignment : Spelled AssignmentOf (assigned (codes "name") (Literal (Text (codes "c"))))
    assignment = name_then _ (codes "name") _ name_name (sign_then (codes "=") _ _ refl
        (part Expression _ _ _ (literal_alone («text» (codes "c")) (Text (codes "c")) (text_said (codes "c") (byte_utf8 99 (omega arith))) refl) (done _)))
