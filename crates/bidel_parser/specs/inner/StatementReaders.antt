-- Reading statements, rule by rule.
use Rattle.std.specs.Prelude.{ℕ, List, Bool, Option, Some, None}
use Rattle.par_base.specs.declared.limits.Target.{Target}
use Rattle.phrases.specs.Reading.{Read, and_then, one_at, done, either, is, behind_at, optional_at, separated_at}
use Rattle.bidel_expr.specs.Lexemes.{Lexeme, text_of}
use Rattle.bidel_expr.specs.Literals.{comma_of, dot_of, star_of, name_at, tuple_at}
use Rattle.bidel_expr.specs.Expressions.{expression_at}
use Rattle.statements.specs.declared.statement.TableName.{TableName}
use Rattle.bidel_parser.specs.declared.first_words.StatementWord.{StatementWord}
use Rattle.bidel_parser.specs.declared.first_words.StatementWord.TheVariants as first
use Rattle.bidel_parser.specs.Words.{session_of, watch_of, is_word}
use Rattle.bidel_parser.specs.inner.WordReaders.{word_at, sign_at, choice_at, flag_at}
use Rattle.bidel_parser.specs.inner.OperatorReaders.{listed_operators_at}
use Rattle.statements.specs.Views.{Tree, AssignmentView, StatementView, CreateVersion, DropVersion, Insert, Import, Update, Delete, Select, Materialize, Step, ShowLayout, Use, Session, Advise, Watch, Unwatch, Begin, Commit, Rollback}
use Rattle.bidel_parser.specs.Statements.{statement_words, table_named, target_named, assigned}

-- the name behind a dot, where one comes
abbrev pub second_name_at : List Lexeme → Read Lexeme (Option (List ℕ))
second_name_at = optional_at (is dot_of) (behind_at dot_of name_at)

abbrev pub table_at : List Lexeme → Read Lexeme TableName
table_at = and_then name_at λ name. and_then second_name_at λ second. done (table_named name second)

abbrev pub target_at : List Lexeme → Read Lexeme Target
target_at = and_then name_at λ version. and_then second_name_at λ table. done (target_named version table)

abbrev pub assignment_at : List Lexeme → Read Lexeme AssignmentView
assignment_at = and_then name_at λ column. and_then (sign_at "=") λ _. and_then expression_at λ value. done (assigned column value)

abbrev pub filter_at : List Lexeme → Read Lexeme (Option Tree)
filter_at = optional_at (is_word "where") (and_then (word_at "where") λ _. expression_at)

abbrev pub items_at : List Lexeme → Read Lexeme (Option (List (List ℕ)))
items_at = either (is star_of) (and_then (sign_at "*") λ _. done None) (and_then (separated_at comma_of name_at) λ names. done (Some names))

abbrev pub origin_at : List Lexeme → Read Lexeme (Option (List ℕ))
origin_at = optional_at (is_word "from") (and_then (word_at "from") λ _. name_at)

abbrev pub create_version_rest_at : Bool → List Lexeme → Read Lexeme StatementView
create_version_rest_at ended = and_then (word_at "schema") λ _. and_then (word_at "version") λ _. and_then name_at λ name.
    and_then origin_at λ origin. and_then (word_at "with") λ _.
    and_then (listed_operators_at ended) λ operators. done (CreateVersion name origin operators)

abbrev pub drop_version_rest_at : List Lexeme → Read Lexeme StatementView
drop_version_rest_at = and_then (word_at "schema") λ _. and_then (word_at "version") λ _. and_then name_at λ name. and_then (sign_at ";") λ _. done (DropVersion name)

abbrev pub insert_rest_at : List Lexeme → Read Lexeme StatementView
insert_rest_at = and_then (word_at "into") λ _. and_then table_at λ table. and_then (word_at "values") λ _. and_then (separated_at comma_of tuple_at) λ rows.
    and_then (sign_at ";") λ _. done (Insert table rows)

abbrev pub import_rest_at : List Lexeme → Read Lexeme StatementView
import_rest_at = and_then (word_at "into") λ _. and_then table_at λ table. and_then (word_at "csv") λ _. and_then (one_at text_of) λ text.
    and_then (sign_at ";") λ _. done (Import table text)

abbrev pub update_rest_at : List Lexeme → Read Lexeme StatementView
update_rest_at = and_then table_at λ table. and_then (word_at "set") λ _. and_then (separated_at comma_of assignment_at) λ assignments. and_then filter_at λ filter.
    and_then (sign_at ";") λ _. done (Update table assignments filter)

abbrev pub delete_rest_at : List Lexeme → Read Lexeme StatementView
delete_rest_at = and_then (word_at "from") λ _. and_then table_at λ table. and_then filter_at λ filter. and_then (sign_at ";") λ _. done (Delete table filter)

abbrev pub csv_at : List Lexeme → Read Lexeme Bool
csv_at = flag_at (is_word "as") (and_then (word_at "as") λ _. word_at "csv")

abbrev pub select_rest_at : List Lexeme → Read Lexeme StatementView
select_rest_at = and_then items_at λ items. and_then (word_at "from") λ _. and_then table_at λ table. and_then filter_at λ filter. and_then csv_at λ csv.
    and_then (sign_at ";") λ _. done (Select table items filter csv)

abbrev pub in_steps_at : List Lexeme → Read Lexeme Bool
in_steps_at = flag_at (is_word "in") (and_then (word_at "in") λ _. word_at "steps")

abbrev pub materialize_rest_at : List Lexeme → Read Lexeme StatementView
materialize_rest_at = and_then (separated_at comma_of target_at) λ named. and_then in_steps_at λ in_steps. and_then (sign_at ";") λ _. done (Materialize named in_steps)

-- a semicolon, and a statement
abbrev pub closed_at : StatementView → List Lexeme → Read Lexeme StatementView
closed_at statement = and_then (sign_at ";") λ _. done statement

abbrev pub show_rest_at : List Lexeme → Read Lexeme StatementView
show_rest_at = and_then (word_at "layout") λ _. and_then (sign_at ";") λ _. done ShowLayout

-- a name and its semicolon
abbrev pub closed_name_at : List Lexeme → Read Lexeme (List ℕ)
closed_name_at = and_then name_at λ name. and_then (sign_at ";") λ _. done name

abbrev pub use_rest_at : List Lexeme → Read Lexeme StatementView
use_rest_at = and_then name_at λ name. and_then (sign_at ";") λ _. done (Use name)

abbrev pub session_rest_at : List Lexeme → Read Lexeme StatementView
session_rest_at = and_then (one_at session_of) λ number. and_then (sign_at ";") λ _. done (Session number)

abbrev pub advise_rest_at : List Lexeme → Read Lexeme StatementView
advise_rest_at = and_then name_at λ name. and_then (sign_at ";") λ _. done (Advise name)

abbrev pub watch_rest_at : List Lexeme → Read Lexeme StatementView
watch_rest_at = and_then name_at λ name. and_then (sign_at ";") λ _. done (Watch name)

abbrev pub unwatch_rest_at : List Lexeme → Read Lexeme StatementView
unwatch_rest_at = and_then (one_at watch_of) λ number. and_then (sign_at ";") λ _. done (Unwatch number)

abbrev pub statement_rest_at : Bool → StatementWord → List Lexeme → Read Lexeme StatementView
statement_rest_at ended first.Create = create_version_rest_at ended
statement_rest_at ended first.Drop = drop_version_rest_at
statement_rest_at ended first.Insert = insert_rest_at
statement_rest_at ended first.Import = import_rest_at
statement_rest_at ended first.Update = update_rest_at
statement_rest_at ended first.Delete = delete_rest_at
statement_rest_at ended first.Select = select_rest_at
statement_rest_at ended first.Materialize = materialize_rest_at
statement_rest_at ended first.Step = closed_at Step
statement_rest_at ended first.Show = show_rest_at
statement_rest_at ended first.Use = use_rest_at
statement_rest_at ended first.Session = session_rest_at
statement_rest_at ended first.Advise = advise_rest_at
statement_rest_at ended first.Watch = watch_rest_at
statement_rest_at ended first.Unwatch = unwatch_rest_at
statement_rest_at ended first.Begin = closed_at Begin
statement_rest_at ended first.Commit = closed_at Commit
statement_rest_at ended first.Rollback = closed_at Rollback

-- the statement at the front of the tokens
abbrev pub statement_at : Bool → List Lexeme → Read Lexeme StatementView
statement_at ended = choice_at statement_words (statement_rest_at ended)
