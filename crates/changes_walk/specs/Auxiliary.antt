-- What changing the auxiliary tables of one operator supposes and answers, once a write was carried.
use Rattle.std.specs.Prelude.{◌≡◌, ℕ, ◌+◌, ◌*◌, ◌≤◌, true, List, length, map}
use Rattle.version_graph.specs.Forest.{Crossing}
use Rattle.op_law.specs.Tables.{Heading, Tables}
use Rattle.op_law.specs.Identifiers.{IdsRise}
use Rattle.op_law.specs.Meaning.{Meaning, PairState}
use Rattle.op_law.specs.Premises.{IsPair}
use Rattle.row_changes.specs.Changed.{TableChanges, AreChangesOf, changed_tables}
use Rattle.row_changes.specs.Differences.{AreDifferences}
use Rattle.version_model.specs.Kept.{latest_of, newer_pairs}
use Rattle.version_model.specs.States.{State}
use Rattle.version_model.specs.Steps.{directed, pair_in}
use Rattle.changes_walk.specs.Bounds.{NamesOnly}
use Rattle.changes_walk.specs.Changing.{AreOfState, changing_state, latest_changes}
use Rattle.changes_walk.specs.declared.progress.Changing.{Changing}

-- the auxiliary tables of an operator whose near side is stored
abbrev pub aux_beside : {O : Type 0} → (O → Meaning) → State → Crossing O → Tables
aux_beside meaning s p = (directed p.backward (meaning p.operator)).aux_at_source (pair_in s p)

-- they may be changed: each old row of the changes is that of the old state, and the operator relates both sides in the old state and in the one that the changes make
pub record MayChangeAux {O : Type 0} (meaning : O → Meaning) (old : State) (made : Changing) (p : Crossing O) : Type 0 where
  pub near : length p.near ≤ 2
  pub far : length p.far ≤ 2
  pub fit : AreOfState old made.tables
  pub hs : List Heading
  pub ht : List Heading
  pub before : IsPair (directed p.backward (meaning p.operator)) hs ht (pair_in old p)
  pub after : IsPair (directed p.backward (meaning p.operator)) hs ht (pair_in (changing_state old made) p)

-- THE CHANGES OF THE AUXILIARY TABLES: exactly the difference between these and those in the state that the changes make
abbrev pub AreAuxChanges : {O : Type 0} → (O → Meaning) → State → Changing → Crossing O → Tables → TableChanges → Type 0
AreAuxChanges meaning old made p aux changes = AreDifferences aux (aux_beside meaning (changing_state old made) p) changes

-- over an operator that treats each identifier by itself, at most eight steps for each identifier that the changes name
abbrev pub AuxTakes : {O : Type 0} → (O → Meaning) → Crossing O → Changing → ℕ → ℕ → Type 0
AuxTakes meaning p made old new = (ids : List ℕ) → IdsRise 0 ids → (meaning p.operator).is_local ≡ true → NamesOnly ids made.tables → new ≤ old + 8 * length ids

-- ---- inside

-- the last changes of the tables of these numbers
abbrev pub changes_at : Changing → List ℕ → TableChanges
changes_at made numbers = map (latest_changes made.tables) numbers

-- the changes of both sides have the old rows of this pair
pub record FitPair (made : Changing) (source target : List ℕ) (pair : PairState) : Type 0 where
  pub source_fit : AreChangesOf pair.source (changes_at made source)
  pub target_fit : AreChangesOf pair.target (changes_at made target)

-- the pair that the changes and the memories make of this one
abbrev pub pair_made : Changing → List ℕ → List ℕ → ℕ → PairState → PairState
pair_made made source target number pair = record {
  source = changed_tables pair.source (changes_at made source);
  target = changed_tables pair.target (changes_at made target);
  memory = newer_pairs (latest_of made.memories number) pair.memory;
}
