-- Identifiers of which each brings none but these.
use Rattle.std.specs.Prelude.{◌≡◌, ℕ, true, List}
use Rattle.op_law.specs.Identifiers.{has_id, IdsRise}
use Rattle.id_closing.specs.Found.{AreAmong}

-- what an identifier brings: it is among these
abbrev pub Brings : Type 1
Brings = ℕ → List ℕ → Type 0

-- what is among some is among more
abbrev pub IsAmongMore : Brings → Type 0
IsAmongMore brings = (q : ℕ) (some all : List ℕ) → AreAmong some all → brings q some → brings q all

-- CLOSED: each of these brings none but these, and they hold those with which it began
pub record IsClosing (brings : Brings) (begin ids : List ℕ) : Type 0 where
  pub rise : IdsRise 0 ids
  pub begins : AreAmong begin ids
  pub closed : (q : ℕ) → has_id ids q ≡ true → brings q ids
