-- The way to storage: the operators between a table and the stored tables from which it is read.
use Rattle.std.specs.Prelude.{◌≡◌, ◌⊎◌, ℕ, zero, suc, List}
use Rattle.version_graph.specs.Sets.{In}
use Rattle.version_graph.specs.Forest.{Link}
use Rattle.layout_rules.specs.Layouts.{IsMade}

-- a table of which the layout has no maker is read from the sources of the operator that made it
abbrev pub ReadsUp : {O : Type 0} → List ℕ → ℕ → Link O → Type 0
ReadsUp layout t e = In t e.targets × (In e.number layout → ⊥)

-- another one is read from the targets of the operator of the layout that takes it, if one does
abbrev pub ReadsDown : {O : Type 0} → List (Link O) → List ℕ → ℕ → Link O → Type 0
ReadsDown es layout t e = IsMade es layout t × In t e.sources × In e.number layout

-- the table is read over the operator
abbrev pub ReadsOver : {O : Type 0} → List (Link O) → List ℕ → ℕ → Link O → Type 0
ReadsOver es layout t e = ReadsUp layout t e ⊎ ReadsDown es layout t e

-- the table is read over the operator from the other table
abbrev pub ReadsFrom : {O : Type 0} → List (Link O) → List ℕ → ℕ → Link O → ℕ → Type 0
ReadsFrom es layout t e u = (ReadsUp layout t e × In u e.sources) ⊎ (ReadsDown es layout t e × In u e.targets)

-- the table is read from the other one over so many operators
abbrev pub Reads : {O : Type 0} → List (Link O) → List ℕ → ℕ → ℕ → ℕ → Type 0
Reads es layout zero t u = t ≡ u
Reads {O} es layout (suc k) t u = (e : Link O) × (v : ℕ) × In e es × ReadsFrom es layout t e v × Reads es layout k v u

-- the operator is on the way from the table to storage
abbrev pub IsOnWay : {O : Type 0} → List (Link O) → List ℕ → ℕ → ℕ → Type 0
IsOnWay {O} es layout t n = (k : ℕ) × (u : ℕ) × (e : Link O) × Reads es layout k t u × In e es × ReadsOver es layout u e × (n ≡ e.number)
