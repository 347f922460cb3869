-- The notes of an event.
use Rattle.std.specs.Prelude.{List}
use Rattle.change_feed.specs.declared.note.VersionNote.{VersionNote}
use Rattle.statements.specs.Views.{StatementView}
use Rattle.engine_transactions.specs.Leads.{data_behind}
use Rattle.engine_transactions.specs.Standing.{Standing as TransactionsStanding}
use Rattle.version_notes.specs.Notes.{notes_along}

-- THE NOTES OF AN EVENT: of each write in turn, for each version whose rows it changed
abbrev pub event_notes : TransactionsStanding → StatementView → TransactionsStanding → List (List VersionNote)
event_notes s statement next = notes_along s.sessions.laid.database (data_behind s statement next)
