-- The lines of replies and of refusals.
use Rattle.std.specs.Prelude.{◌++◌, ℕ, Bool, true, false, List, [], ◌∷◌, Option, Some, None, codes, decimal, flat_map, length}
use Rattle.std.specs.List.{join_by}
use Rattle.par_base.specs.declared.value.Value.{Value}
use Rattle.par_base.specs.Literals.{literal_of}
use Rattle.par_base.specs.declared.refusal.Refusal.{Refusal}
use Rattle.par_base.specs.declared.refusal.Refusal.TheVariants.{NotBuilt, UnknownVersion, VersionExists, UnknownTable, TableExists, UnknownColumn, ColumnExists, WrongCount, UnknownId, IdsSpent, BadPartition, InvalidLayout, NoVersionInUse, TooManyOperators, TooManyColumns, ColumnsDiffer, SameTable, NothingPending, NoWatcherLeft, UnknownWatch, TransactionOpen, NoTransaction, ReadAfterWrite, Stale, HistorySpent}
use Rattle.engine_state.specs.declared.reply.Reply.{Reply}
use Rattle.engine_state.specs.declared.reply.StoredOperator.{StoredOperator}
use Rattle.engine_state.specs.declared.reply.StoredTable.{StoredTable}
use Rattle.engine_state.specs.declared.reply.WriteReply.{WriteReply}
use Rattle.engine_state.specs.declared.reply.WriteReply.TheVariants as write
use Rattle.engine_state.specs.declared.reply.Reply.TheVariants.{Done, Inserted, Updated, Deleted, Rows, Moved, Layout, Pending, Flipped, Watching, Unwatched, Kept, Committed}

-- a text with its line feed
abbrev pub line : List ℕ → List ℕ
line text = text ++ 10 ∷ []

-- the names of a header: `p|x`
abbrev pub header_text : List (List ℕ) → List ℕ
header_text names = join_by (λ name. name) (codes "|") names

-- the literal texts of a row: `#1|null`
abbrev pub row_text : List Value → List ℕ
row_text row = join_by literal_of (codes "|") row

-- the header, the rows in order, and their count
abbrev pub rows_lines : List (List ℕ) → List (List Value) → List ℕ
rows_lines header rows = line (header_text header) ++ flat_map (λ row. line (row_text row)) rows ++ line (codes "rows " ++ decimal (length rows))

-- `table 1 task rows 4`
abbrev pub table_text : StoredTable → List ℕ
table_text t = codes "table " ++ decimal t.number ++ codes " " ++ t.name ++ codes " rows " ++ decimal t.rows

abbrev pub side_word : Bool → List ℕ
side_word true = codes "target"
side_word false = codes "source"

-- `operator 2 split source aux 0`
abbrev pub operator_text : StoredOperator → List ℕ
operator_text o = codes "operator " ++ decimal o.number ++ codes " " ++ o.kind ++ codes " " ++ side_word o.on_target ++ codes " aux " ++ decimal o.entries

-- a line for each stored table and each operator
abbrev pub layout_lines : List StoredTable → List StoredOperator → List ℕ
layout_lines tables operators = flat_map (λ t. line (table_text t)) tables ++ flat_map (λ o. line (operator_text o)) operators ++ line (codes "ok")

-- `inserted 2 #1 #2`
abbrev pub inserted_text : List ℕ → List ℕ
inserted_text ids = codes "inserted " ++ decimal (length ids) ++ flat_map (λ id. codes " #" ++ decimal id) ids

-- `updated 2`
abbrev pub updated_text : ℕ → List ℕ
updated_text count = codes "updated " ++ decimal count

-- `deleted 2`
abbrev pub deleted_text : ℕ → List ℕ
deleted_text count = codes "deleted " ++ decimal count

-- the line of a kept write that was carried out: as outside a transaction
abbrev pub write_bytes : WriteReply → List ℕ
write_bytes (write.Inserted ids) = line (inserted_text ids)
write_bytes (write.Updated count) = line (updated_text count)
write_bytes (write.Deleted count) = line (deleted_text count)

-- the rows that a watcher shows, where it shows any: ` rows 4`
abbrev pub shown_text : Option ℕ → List ℕ
shown_text None = []
shown_text (Some rows) = codes " rows " ++ decimal rows

-- the lines of a reply
unfoldable pub reply_bytes : Reply → List ℕ
reply_bytes Done = line (codes "ok")
reply_bytes (Inserted ids) = line (inserted_text ids)
reply_bytes (Updated count) = line (updated_text count)
reply_bytes (Deleted count) = line (deleted_text count)
reply_bytes (Rows header rows) = rows_lines header rows
reply_bytes (Moved count) = line (codes "moved " ++ decimal count)
reply_bytes (Layout tables operators) = layout_lines tables operators
reply_bytes (Pending count) = line (codes "pending " ++ decimal count)
reply_bytes (Flipped operator left) = line (codes "flipped " ++ decimal operator ++ codes " left " ++ decimal left)
reply_bytes (Watching number) = line (codes "watching " ++ decimal number)
reply_bytes (Unwatched number told rows) = line (codes "unwatched " ++ decimal number ++ codes " told " ++ decimal told ++ shown_text rows)
reply_bytes Kept = line (codes "kept")
reply_bytes (Committed replies) = flat_map write_bytes replies ++ line (codes "committed " ++ decimal (length replies))

-- the line of a refusal: `refused`, its number and its text
unfoldable pub refusal_bytes : Refusal → List ℕ
refusal_bytes NotBuilt = line (codes "refused 0 not built")
refusal_bytes (UnknownVersion version) = line (codes "refused 1 unknown version " ++ version)
refusal_bytes (VersionExists version) = line (codes "refused 2 version exists " ++ version)
refusal_bytes (UnknownTable table) = line (codes "refused 3 unknown table " ++ table)
refusal_bytes (TableExists table) = line (codes "refused 4 table exists " ++ table)
refusal_bytes (UnknownColumn column) = line (codes "refused 5 unknown column " ++ column)
refusal_bytes (ColumnExists column) = line (codes "refused 6 column exists " ++ column)
refusal_bytes (WrongCount given wanted) = line (codes "refused 7 wrong count " ++ decimal given ++ codes " of " ++ decimal wanted)
refusal_bytes (UnknownId id next) = line (codes "refused 8 unknown id #" ++ decimal id ++ codes ", next #" ++ decimal next)
refusal_bytes (IdsSpent needed limit) = line (codes "refused 9 ids spent, needs #" ++ decimal needed ++ codes ", limit #" ++ decimal limit)
refusal_bytes (BadPartition column) = line (codes "refused 10 bad partition " ++ column)
refusal_bytes (InvalidLayout table) = line (codes "refused 11 invalid layout " ++ table)
refusal_bytes NoVersionInUse = line (codes "refused 12 no version in use")
refusal_bytes (TooManyOperators limit) = line (codes "refused 13 too many operators, limit " ++ decimal limit)
refusal_bytes (TooManyColumns table limit) = line (codes "refused 14 too many columns " ++ table ++ codes ", limit " ++ decimal limit)
refusal_bytes (ColumnsDiffer first second) = line (codes "refused 15 columns differ " ++ first ++ codes " " ++ second)
refusal_bytes (SameTable table) = line (codes "refused 16 same table " ++ table)
refusal_bytes NothingPending = line (codes "refused 17 nothing pending")
refusal_bytes NoWatcherLeft = line (codes "refused 18 no watcher left")
refusal_bytes (UnknownWatch number) = line (codes "refused 19 unknown watch " ++ decimal number)
refusal_bytes TransactionOpen = line (codes "refused 20 transaction open")
refusal_bytes NoTransaction = line (codes "refused 21 no transaction")
refusal_bytes ReadAfterWrite = line (codes "refused 22 read after write")
refusal_bytes (Stale table read changed) = line (codes "refused 23 stale " ++ table ++ codes ", read at " ++ decimal read ++ codes ", changed at " ++ decimal changed)
refusal_bytes HistorySpent = line (codes "refused 24 history spent")
