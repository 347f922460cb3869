-- States that scripts reach are such as a database may have.
use Rattle.std.specs.Prelude.{List}
use Rattle.std.specs.List.{All}
use Rattle.expr_lang.specs.Operations.{text_limit}
use Rattle.statements.specs.Views.{StatementView}
use Rattle.statements.specs.Texts.{TextsWithin}
use Rattle.version_graph.specs.Sets.{Each}
use Rattle.session_laws.specs.Kept.{IsKept}
use Rattle.session_laws.specs.Sessions.{HasCounts}
use Rattle.engine_transactions.specs.Act.{act}
use Rattle.tx_history.specs.Views.{OpenView}
use Rattle.engine_transactions.specs.Standing.{Standing}
use Rattle.engine_transactions.specs.Replies.{next_state, state_after}

-- no text of a kept write is too long, as none of a script is
abbrev pub KeptWritesFit : List OpenView → Type 0
KeptWritesFit opens = Each (λ (o : OpenView). Each (TextsWithin text_limit) o.transaction.writes) opens

-- a sound state, beside which transactions keep such writes
pub record IsKeptAt (s : Standing) : Type 0 where
  pub database : IsKept s.sessions.laid.database
  pub writes : KeptWritesFit s.opens

-- each statement leaves such a standing, be it answered or refused
abbrev pub StatementsKeep : Type 0
StatementsKeep = (s : Standing) (statement : StatementView) → TextsWithin text_limit statement → IsKeptAt s → IsKeptAt (next_state s (act s statement))

-- SO IS EACH THAT A SCRIPT REACHES
abbrev pub ScriptsKeep : Type 0
ScriptsKeep = (s : Standing) (statements : List StatementView) → All (TextsWithin text_limit) statements → IsKeptAt s → IsKeptAt (state_after s statements)

-- what is counted beside such states are accesses of tables that live, throughout a script
abbrev pub ScriptsKeepCounts : Type 0
ScriptsKeepCounts = (s : Standing) (statements : List StatementView) → HasCounts s.sessions → HasCounts (state_after s statements).sessions
