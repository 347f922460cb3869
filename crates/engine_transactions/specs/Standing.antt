-- Where the statements of a script stand: what sessions keep, what changed when, and the open transactions.
use Rattle.std.specs.Prelude.{List, []}
use Rattle.engine_sessions.specs.Standing.{Standing as SessionsStanding}
use Rattle.tx_history.specs.History.{History, no_history}
use Rattle.tx_history.specs.Views.{OpenView}

pub record Standing : Type 0 where
  -- what sessions keep: the data with their layout, the accesses counted, and the versions in use
  pub sessions : SessionsStanding
  pub history : History
  -- the open transaction of each session that has one
  pub opens : List OpenView

-- the beginning: nothing has happened, and no transaction is open
abbrev pub begun : SessionsStanding → Standing
begun sessions = record { sessions = sessions; history = no_history; opens = [] }
