-- Layouts: which operators are stored on their target side, and which tables that stores.
use Rattle.std.specs.Prelude.{◌≡◌, ℕ, List, []}
use Rattle.version_graph.specs.Sets.{In}
use Rattle.version_graph.specs.Forest.{Link}

-- A layout is the set of the operators that are stored on their target side, by their numbers.

-- an operator of the layout made the table
abbrev pub IsMade : {O : Type 0} → List (Link O) → List ℕ → ℕ → Type 0
IsMade {O} es layout t = (e : Link O) × In e es × In e.number layout × In t e.targets

-- an operator of the layout takes the table as a source
abbrev pub IsTaken : {O : Type 0} → List (Link O) → List ℕ → ℕ → Type 0
IsTaken {O} es layout t = (e : Link O) × In e es × In e.number layout × In t e.sources

-- a table is stored exactly where the operator that made it is in the layout, and none that takes it is
pub record IsStored {O : Type 0} (es : List (Link O)) (layout : List ℕ) (t : ℕ) : Type 0 where
  pub made : IsMade es layout t
  pub free : IsTaken es layout t → ⊥

-- an operator without source tables is a CREATE TABLE
abbrev pub IsCreate : {O : Type 0} → Link O → Type 0
IsCreate e = e.sources ≡ []

-- the operator of this number lives
abbrev pub Lives : {O : Type 0} → List (Link O) → ℕ → Type 0
Lives {O} es n = (e : Link O) × In e es × (n ≡ e.number)

-- two operators take the same table
abbrev pub Share : {O : Type 0} → Link O → Link O → Type 0
Share e f = (t : ℕ) × In t e.sources × In t f.sources

pub record IsValid {O : Type 0} (es : List (Link O)) (layout : List ℕ) : Type 0 where
  pub live : (n : ℕ) → In n layout → Lives es n
  -- every CREATE TABLE is in it
  pub creates : (e : Link O) → In e es → IsCreate e → In e.number layout
  -- with an operator it has those that made its source tables
  pub makers : (e : Link O) → In e es → In e.number layout → (t : ℕ) → In t e.sources → IsMade es layout t
  -- no two operators of it share a source table
  pub once : (e f : Link O) → In e es → In f es → In e.number layout → In f.number layout → Share e f → e.number ≡ f.number
