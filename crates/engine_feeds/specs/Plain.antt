-- Statements of which no watch is told.
use Rattle.std.specs.Prelude.{◌≡◌, ◌⊎◌, Bool, true, false, []}
use Rattle.change_feed.specs.Watches.{WatchesState}
use Rattle.statements.specs.Views.{StatementView, DropVersion}
use Rattle.tx_history.specs.Kinds.{kind_in, writes_rows_in}

-- it is no DROP SCHEMA VERSION, with which watches go
abbrev pub is_plain : StatementView → Bool
is_plain (DropVersion name) = false
is_plain _ = true

-- nobody watches, or the statement writes no rows and drops no version
abbrev pub HearNothing : StatementView → WatchesState → Type 0
HearNothing x watches = (watches.live ≡ []) ⊎ ((writes_rows_in (kind_in x) ≡ false) × (is_plain x ≡ true))
