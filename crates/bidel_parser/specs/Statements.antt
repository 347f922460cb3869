-- Statements: which tokens spell which, where one ends, and reading them.
use Rattle.std.specs.Prelude.{◌∷◌, [], ℕ, List, Bool, false, Option, Some, None, codes}
use Rattle.par_base.specs.declared.limits.Target.{Target}
use Rattle.phrases.specs.Phrases.{Nothing, Seq, OneOf, Either, Many, Behind, Optional, Separated}
use Rattle.bidel_expr.specs.Lexemes.{Lexeme, text_of}
use Rattle.bidel_expr.specs.Literals.{comma_of, dot_of, Tuple}
use Rattle.bidel_expr.specs.Expressions.{Expression}
use Rattle.statements.specs.declared.statement.TableName.{TableName}
use Rattle.bidel_parser.specs.declared.first_words.StatementWord.{StatementWord}
use Rattle.bidel_parser.specs.declared.first_words.StatementWord.TheVariants as first
use Rattle.bidel_parser.specs.Words.{Word, Sign, Name, Choice, Flag, session_of, watch_of}
use Rattle.bidel_parser.specs.Operators.{ListedOperators, begins_operator}
use Rattle.statements.specs.Views.{Tree, AssignmentView, StatementView, CreateVersion, DropVersion, Insert, Import, Update, Delete, Select, Materialize, Step, ShowLayout, Use, Session, Advise, Watch, Unwatch, Begin, Commit, Rollback}

-- ---- the words that tell them apart

abbrev pub statement_words : List (List ℕ × StatementWord)
statement_words = (codes "create", first.Create) ∷ (codes "drop", first.Drop) ∷ (codes "insert", first.Insert) ∷ (codes "import", first.Import) ∷ (codes "update", first.Update)
    ∷ (codes "delete", first.Delete) ∷ (codes "select", first.Select) ∷ (codes "materialize", first.Materialize) ∷ (codes "step", first.Step) ∷ (codes "show", first.Show)
    ∷ (codes "use", first.Use) ∷ (codes "session", first.Session) ∷ (codes "advise", first.Advise) ∷ (codes "watch", first.Watch) ∷ (codes "unwatch", first.Unwatch)
    ∷ (codes "begin", first.Begin) ∷ (codes "commit", first.Commit) ∷ (codes "rollback", first.Rollback) ∷ []

-- ---- the grammar of what statements name

-- a table of the version in use, or of the version that is named before it
abbrev pub table_named : List ℕ → Option (List ℕ) → TableName
table_named name None = record { version = None; table = name }
table_named name (Some table) = record { version = Some name; table = table }

-- tab = [ name "." ] name
abbrev pub TableOf : List Lexeme → TableName → Type 0
TableOf = Seq Name λ name. Seq (Optional (Behind dot_of Name)) λ second. Nothing (table_named name second)

-- a version, or a table of it
abbrev pub target_named : List ℕ → Option (List ℕ) → Target
target_named version table = record { version = version; table = table }

-- target = name [ "." name ]
abbrev pub TargetOf : List Lexeme → Target → Type 0
TargetOf = Seq Name λ version. Seq (Optional (Behind dot_of Name)) λ table. Nothing (target_named version table)

-- an assignment of these parts
abbrev pub assigned : List ℕ → Tree → AssignmentView
assigned column value = record { column = column; value = value }

-- name "=" expr
abbrev pub AssignmentOf : List Lexeme → AssignmentView → Type 0
AssignmentOf = Seq Name λ column. Seq (Sign "=") λ _. Seq Expression λ value. Nothing (assigned column value)

-- [ WHERE expr ]
abbrev pub Filter : List Lexeme → Option Tree → Type 0
Filter = Optional (Seq (Word "where") λ _. Expression)

-- "*" | name { "," name }
abbrev pub Items : List Lexeme → Option (List (List ℕ)) → Type 0
Items = Either (Seq (Sign "*") λ _. Nothing None) (Seq (Separated comma_of Name) λ names. Nothing (Some names))

-- ---- the grammar of statements, behind the first word

-- CREATE SCHEMA VERSION name [ FROM name ] WITH operator ";" { operator ";" }
abbrev pub CreateVersionRest : List Lexeme → StatementView → Type 0
CreateVersionRest = Seq (Word "schema") λ _. Seq (Word "version") λ _. Seq Name λ name.
    Seq (Optional (Seq (Word "from") λ _. Name)) λ origin. Seq (Word "with") λ _.
    Seq ListedOperators λ operators. Nothing (CreateVersion name origin operators)

-- DROP SCHEMA VERSION name ";"
abbrev pub DropVersionRest : List Lexeme → StatementView → Type 0
DropVersionRest = Seq (Word "schema") λ _. Seq (Word "version") λ _. Seq Name λ name. Seq (Sign ";") λ _. Nothing (DropVersion name)

-- INSERT INTO tab VALUES tuple { "," tuple } ";"
abbrev pub InsertRest : List Lexeme → StatementView → Type 0
InsertRest = Seq (Word "into") λ _. Seq TableOf λ table. Seq (Word "values") λ _. Seq (Separated comma_of Tuple) λ rows. Seq (Sign ";") λ _. Nothing (Insert table rows)

-- IMPORT INTO tab CSV text ";"
abbrev pub ImportRest : List Lexeme → StatementView → Type 0
ImportRest = Seq (Word "into") λ _. Seq TableOf λ table. Seq (Word "csv") λ _. Seq (OneOf text_of) λ text. Seq (Sign ";") λ _. Nothing (Import table text)

-- UPDATE tab SET name "=" expr { "," name "=" expr } [ WHERE expr ] ";"
abbrev pub UpdateRest : List Lexeme → StatementView → Type 0
UpdateRest = Seq TableOf λ table. Seq (Word "set") λ _. Seq (Separated comma_of AssignmentOf) λ assignments. Seq Filter λ filter. Seq (Sign ";") λ _. Nothing (Update table assignments filter)

-- DELETE FROM tab [ WHERE expr ] ";"
abbrev pub DeleteRest : List Lexeme → StatementView → Type 0
DeleteRest = Seq (Word "from") λ _. Seq TableOf λ table. Seq Filter λ filter. Seq (Sign ";") λ _. Nothing (Delete table filter)

-- SELECT ( "*" | name { "," name } ) FROM tab [ WHERE expr ] [ AS CSV ] ";"
abbrev pub SelectRest : List Lexeme → StatementView → Type 0
SelectRest = Seq Items λ items. Seq (Word "from") λ _. Seq TableOf λ table. Seq Filter λ filter. Seq (Flag (Seq (Word "as") λ _. Word "csv")) λ csv.
    Seq (Sign ";") λ _. Nothing (Select table items filter csv)

-- MATERIALIZE target { "," target } [ IN STEPS ] ";"
abbrev pub MaterializeRest : List Lexeme → StatementView → Type 0
MaterializeRest = Seq (Separated comma_of TargetOf) λ named. Seq (Flag (Seq (Word "in") λ _. Word "steps")) λ in_steps. Seq (Sign ";") λ _. Nothing (Materialize named in_steps)

-- SHOW LAYOUT ";"
abbrev pub ShowRest : List Lexeme → StatementView → Type 0
ShowRest = Seq (Word "layout") λ _. Seq (Sign ";") λ _. Nothing ShowLayout

-- SESSION number ";"
abbrev pub SessionRest : List Lexeme → StatementView → Type 0
SessionRest = Seq (OneOf session_of) λ number. Seq (Sign ";") λ _. Nothing (Session number)

-- UNWATCH number ";"
abbrev pub UnwatchRest : List Lexeme → StatementView → Type 0
UnwatchRest = Seq (OneOf watch_of) λ number. Seq (Sign ";") λ _. Nothing (Unwatch number)

-- what may stand behind the first word; besides, STEP ";" | USE name ";" | ADVISE name ";" | WATCH name ";" | BEGIN ";" | COMMIT ";" | ROLLBACK ";"
abbrev pub StatementRest : StatementWord → List Lexeme → StatementView → Type 0
StatementRest first.Create = CreateVersionRest
StatementRest first.Drop = DropVersionRest
StatementRest first.Insert = InsertRest
StatementRest first.Import = ImportRest
StatementRest first.Update = UpdateRest
StatementRest first.Delete = DeleteRest
StatementRest first.Select = SelectRest
StatementRest first.Materialize = MaterializeRest
StatementRest first.Step = Seq (Sign ";") λ _. Nothing Step
StatementRest first.Show = ShowRest
StatementRest first.Use = Seq Name λ name. Seq (Sign ";") λ _. Nothing (Use name)
StatementRest first.Session = SessionRest
StatementRest first.Advise = Seq Name λ name. Seq (Sign ";") λ _. Nothing (Advise name)
StatementRest first.Watch = Seq Name λ name. Seq (Sign ";") λ _. Nothing (Watch name)
StatementRest first.Unwatch = UnwatchRest
StatementRest first.Begin = Seq (Sign ";") λ _. Nothing Begin
StatementRest first.Commit = Seq (Sign ";") λ _. Nothing Commit
StatementRest first.Rollback = Seq (Sign ";") λ _. Nothing Rollback

-- a statement, by its first word
abbrev pub IsStatement : List Lexeme → StatementView → Type 0
IsStatement = Choice statement_words StatementRest

-- script = { statement }
abbrev pub Script : List Lexeme → List StatementView → Type 0
Script = Many IsStatement

-- whether the statement isn't known to end before these tokens: a CREATE SCHEMA VERSION ends where no operator begins
abbrev pub stays_open : StatementView → Bool → List Lexeme → Bool
stays_open (CreateVersion name origin operators) ended ts = begins_operator ended ts
stays_open _ ended ts = false

-- ---- reading, rule by rule
