-- Operators from which tables are read.
use Rattle.std.specs.Prelude.{ℕ, List}
use Rattle.version_graph.specs.Sets.{In}
use Rattle.version_graph.specs.Forest.{Link}
use Rattle.layout_rules.specs.Ways.{ReadsOver}
use Rattle.storage_law.specs.Storage.{stored_way}

-- the table is stored, or is read over one of these operators
abbrev pub Covers : {O : Type 0} → List (Link O) → List ℕ → List ℕ → ℕ → Type 0
Covers {O} es layout ns t = (e : Link O) → In e es → ReadsOver es layout t e → In e.number ns

-- with each of these operators come those over which the tables are read that it keeps
abbrev pub CoversItself : {O : Type 0} → List (Link O) → List ℕ → List ℕ → Type 0
CoversItself {O} es layout ns = (e : Link O) → In e es → In e.number ns → (t : ℕ) → In t (stored_way layout e).near → Covers es layout ns t
