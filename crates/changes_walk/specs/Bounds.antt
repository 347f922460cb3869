-- Which identifiers changes name, and how many steps they take at most, where each operator treats each identifier by itself.
use Rattle.std.specs.Prelude.{◌≡◌, ℕ, ◌+◌, ◌*◌, ◌≤◌, true, List, length}
use Rattle.row_store.specs.declared.change.Change.{Change}
use Rattle.version_graph.specs.Forest.{Crossing}
use Rattle.op_law.specs.Identifiers.{IdsRise, has_id}
use Rattle.op_law.specs.Meaning.{Meaning}
use Rattle.row_changes.specs.Touched.{AllPass}
use Rattle.version_model.specs.Bounds.{AreLocal}
use Rattle.version_model.specs.declared.numbered.Numbered.{Numbered}
use Rattle.changes_walk.specs.Changing.{latest_changes}
use Rattle.changes_walk.specs.declared.progress.Changing.{Changing}

-- the changes of each table name these identifiers alone
abbrev pub NamesOnly : List ℕ → List (Numbered (List Change)) → Type 0
NamesOnly ids items = (t : ℕ) → AllPass (has_id ids) (latest_changes items t)

-- a crossing over an operator that treats each identifier by itself names no identifier more
abbrev pub CrossesOnly : {O : Type 0} → (O → Meaning) → Crossing O → Changing → Changing → Type 0
CrossesOnly meaning p made new = (ids : List ℕ) → (meaning p.operator).is_local ≡ true → NamesOnly ids made.tables → NamesOnly ids new.tables

-- and takes at most six steps for each identifier
abbrev pub CrossesWithin : {O : Type 0} → (O → Meaning) → Crossing O → Changing → ℕ → ℕ → Type 0
CrossesWithin meaning p made old new = (ids : List ℕ) → IdsRise 0 ids → (meaning p.operator).is_local ≡ true → NamesOnly ids made.tables → new ≤ old + 6 * length ids

-- likewise a whole walk
abbrev pub CarriesOnlyBy : {O : Type 0} → (O → Meaning) → List (Crossing O) → Changing → Changing → Type 0
CarriesOnlyBy meaning ps made new = (ids : List ℕ) → AreLocal meaning ps → NamesOnly ids made.tables → NamesOnly ids new.tables

-- with at most six steps for each operator and each identifier
abbrev pub CarriesWithinBy : {O : Type 0} → (O → Meaning) → List (Crossing O) → Changing → ℕ → ℕ → Type 0
CarriesWithinBy meaning ps made old new = (ids : List ℕ) → IdsRise 0 ids → AreLocal meaning ps → NamesOnly ids made.tables → new ≤ old + 6 * (length ids * length ps)
