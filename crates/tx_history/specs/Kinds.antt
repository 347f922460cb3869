-- What a statement is to transactions.
use Rattle.std.specs.Prelude.{ℕ, Bool, true, false, List, Option, None}
use Rattle.statements.specs.Views.{StatementView, Begin, Commit, Delete, Import, Insert, Rollback, Select, Update}
use Rattle.tx_history.specs.declared.statement_kind.StatementKind.{StatementKind}
use Rattle.tx_history.specs.declared.statement_kind.StatementKind.TheVariants as kind

abbrev pub kind_in : StatementView → StatementKind
kind_in Begin = kind.Begin
kind_in Rollback = kind.Rollback
kind_in Commit = kind.Commit
kind_in (Select name items filter csv) = kind.Select
kind_in (Insert name rows) = kind.Write
kind_in (Import name text) = kind.Write
kind_in (Update name assignments filter) = kind.Write
kind_in (Delete name filter) = kind.Write
kind_in _ = kind.Other

-- it writes rows, or commits
abbrev pub writes_rows_in : StatementKind → Bool
writes_rows_in kind.Commit = true
writes_rows_in kind.Write = true
writes_rows_in _ = false

-- the version of a write's table, where it is told
abbrev pub version_told : StatementView → Option (List ℕ)
version_told (Insert name rows) = name.version
version_told (Import name text) = name.version
version_told (Update name assignments filter) = name.version
version_told (Delete name filter) = name.version
version_told _ = None
