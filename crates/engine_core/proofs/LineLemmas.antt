-- Each reply and each refusal ends in a line feed.
use Rattle.std.specs.Prelude.{codes, decimal}
use Rattle.std.proofs.Common.{ℕ, List, [], ◌∷◌, ◌++◌, flat_map, length, refl, sym}
use Rattle.std.proofs.lemmas.List.{append_assoc}
use Rattle.par_base.specs.declared.refusal.Refusal.TheVariants.{NotBuilt, UnknownVersion, VersionExists, UnknownTable, TableExists, UnknownColumn, ColumnExists, WrongCount, UnknownId, IdsSpent, BadPartition, InvalidLayout, NoVersionInUse, TooManyOperators, TooManyColumns, ColumnsDiffer, SameTable, NothingPending, NoWatcherLeft, UnknownWatch, TransactionOpen, NoTransaction, ReadAfterWrite, Stale, HistorySpent}
use Rattle.engine_state.specs.declared.reply.Reply.TheVariants.{Done, Inserted, Updated, Deleted, Rows, Moved, Layout, Pending, Flipped, Watching, Unwatched, Kept, Committed}
use Rattle.engine_core.specs.Laws.{EndsLine, RefusalsAreLines, RepliesAreLines}
use Rattle.engine_core.specs.Texts.{deleted_text, header_text, inserted_text, line, operator_text, refusal_bytes, reply_bytes, row_text, shown_text, table_text, updated_text, write_bytes}

-- a line does
line_ends : (text : List ℕ) → EndsLine (line text)
line_ends text = (text, refl)

-- so does what ends in a line
behind : (front text : List ℕ) → EndsLine (front ++ line text)
behind front text = (front ++ text, sym (append_assoc front text (10 ∷ [])))

pub replies_end : RepliesAreLines
unfolding reply_bytes
replies_end Done = line_ends (codes "ok")
replies_end (Inserted ids) = line_ends (inserted_text ids)
replies_end (Updated count) = line_ends (updated_text count)
replies_end (Deleted count) = line_ends (deleted_text count)
replies_end (Rows header rows) = behind (line (header_text header) ++ flat_map (λ row. line (row_text row)) rows) (codes "rows " ++ decimal (length rows))
replies_end (Moved count) = line_ends (codes "moved " ++ decimal count)
replies_end (Layout tables operators) = behind (flat_map (λ t. line (table_text t)) tables ++ flat_map (λ o. line (operator_text o)) operators) (codes "ok")
replies_end (Pending count) = line_ends (codes "pending " ++ decimal count)
replies_end (Flipped operator left) = line_ends (codes "flipped " ++ decimal operator ++ codes " left " ++ decimal left)
replies_end (Watching number) = line_ends (codes "watching " ++ decimal number)
replies_end (Unwatched number told rows) = line_ends (codes "unwatched " ++ decimal number ++ codes " told " ++ decimal told ++ shown_text rows)
replies_end Kept = line_ends (codes "kept")
replies_end (Committed replies) = behind (flat_map write_bytes replies) (codes "committed " ++ decimal (length replies))

pub refusals_end : RefusalsAreLines
unfolding refusal_bytes
refusals_end NotBuilt = line_ends (codes "refused 0 not built")
refusals_end (UnknownVersion version) = line_ends (codes "refused 1 unknown version " ++ version)
refusals_end (VersionExists version) = line_ends (codes "refused 2 version exists " ++ version)
refusals_end (UnknownTable table) = line_ends (codes "refused 3 unknown table " ++ table)
refusals_end (TableExists table) = line_ends (codes "refused 4 table exists " ++ table)
refusals_end (UnknownColumn column) = line_ends (codes "refused 5 unknown column " ++ column)
refusals_end (ColumnExists column) = line_ends (codes "refused 6 column exists " ++ column)
refusals_end (WrongCount given wanted) = line_ends (codes "refused 7 wrong count " ++ decimal given ++ codes " of " ++ decimal wanted)
refusals_end (UnknownId id next) = line_ends (codes "refused 8 unknown id #" ++ decimal id ++ codes ", next #" ++ decimal next)
refusals_end (IdsSpent needed limit) = line_ends (codes "refused 9 ids spent, needs #" ++ decimal needed ++ codes ", limit #" ++ decimal limit)
refusals_end (BadPartition column) = line_ends (codes "refused 10 bad partition " ++ column)
refusals_end (InvalidLayout table) = line_ends (codes "refused 11 invalid layout " ++ table)
refusals_end NoVersionInUse = line_ends (codes "refused 12 no version in use")
refusals_end (TooManyOperators limit) = line_ends (codes "refused 13 too many operators, limit " ++ decimal limit)
refusals_end (TooManyColumns table limit) = line_ends (codes "refused 14 too many columns " ++ table ++ codes ", limit " ++ decimal limit)
refusals_end (ColumnsDiffer first second) = line_ends (codes "refused 15 columns differ " ++ first ++ codes " " ++ second)
refusals_end (SameTable table) = line_ends (codes "refused 16 same table " ++ table)
refusals_end NothingPending = line_ends (codes "refused 17 nothing pending")
refusals_end NoWatcherLeft = line_ends (codes "refused 18 no watcher left")
refusals_end (UnknownWatch number) = line_ends (codes "refused 19 unknown watch " ++ decimal number)
refusals_end TransactionOpen = line_ends (codes "refused 20 transaction open")
refusals_end NoTransaction = line_ends (codes "refused 21 no transaction")
refusals_end ReadAfterWrite = line_ends (codes "refused 22 read after write")
refusals_end (Stale table read changed) = line_ends (codes "refused 23 stale " ++ table ++ codes ", read at " ++ decimal read ++ codes ", changed at " ++ decimal changed)
refusals_end HistorySpent = line_ends (codes "refused 24 history spent")
