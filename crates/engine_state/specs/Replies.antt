-- Replies that can be printed.
use Rattle.std.specs.Prelude.{◌≡◌, ℕ, List, length, ⊤}
use Rattle.std.specs.List.{All}
use Rattle.par_base.specs.declared.value.Value.{Value}
use Rattle.engine_state.specs.declared.reply.Reply.{Reply}
use Rattle.engine_state.specs.declared.reply.Reply.TheVariants.{Done, Inserted, Updated, Deleted, Rows, Moved, Layout, Pending, Flipped, Watching, Unwatched, Kept, Committed}

-- each row has one value for each name of the header
abbrev pub HasWidth : List (List ℕ) → List (List Value) → Type 0
HasWidth header rows = All (λ row. length row ≡ length header) rows

-- a reply that can be printed: its rows are as wide as its header
abbrev pub IsReply : Reply → Type 0
IsReply Done = ⊤
IsReply (Inserted ids) = ⊤
IsReply (Updated count) = ⊤
IsReply (Deleted count) = ⊤
IsReply (Rows header rows) = HasWidth header rows
IsReply (Moved count) = ⊤
IsReply (Layout tables operators) = ⊤
IsReply (Pending count) = ⊤
IsReply (Flipped operator left) = ⊤
IsReply (Watching number) = ⊤
IsReply (Unwatched number told rows) = ⊤
IsReply Kept = ⊤
IsReply (Committed replies) = ⊤
