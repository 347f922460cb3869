-- Laws of kept keys.
use Rattle.std.specs.Prelude.{◌≡◌, ℕ, List}
use Rattle.row_store.specs.Rows.{Rows}
use Rattle.row_store.specs.Changes.{AreOld}
use Rattle.row_store.specs.declared.change.Change.{Change}
use Rattle.row_changes.specs.Changed.{changed}
use Rattle.version_graph.specs.Sets.{Each}
use Rattle.version_model.specs.declared.numbered.Numbered.{Numbered}
use Rattle.table_keys.specs.States.{KeysState}
use Rattle.kept_keys.specs.Kept.{changes_in, AreKeysOf}
use Rattle.kept_keys.specs.Changed.{Both, CommitsKeys, IsPrepared, IsReadyOver, IsSameKeys}

-- the same keys are right in the same states
abbrev pub SameAreRight : Type 0
SameAreRight = (tables : ℕ → Rows) (old new : List (Numbered KeysState)) → AreKeysOf tables old → Both IsSameKeys old new → AreKeysOf tables new

-- what is ready has the old keys, where the changes have the old rows
abbrev pub PreparedAreReady : Type 0
PreparedAreReady = (tables : ℕ → Rows) (listed : List ℕ) (made : List (Numbered (List Change))) (items : List (Numbered KeysState)) → ((t : ℕ) → AreOld (tables t) (changes_in listed made t))
    → AreKeysOf tables items → Each (IsPrepared listed made) items → Each IsReadyOver items

-- keys that are right in a state are right in the changed one, once the changes were made
abbrev pub CommittedAreRight : Type 0
CommittedAreRight = (tables end : ℕ → Rows) (listed : List ℕ) (made : List (Numbered (List Change))) (old new : List (Numbered KeysState)) → ((t : ℕ) → changed (tables t) (changes_in listed made t) ≡ end t)
    → AreKeysOf tables old → Each (IsPrepared listed made) old → Both CommitsKeys old new → AreKeysOf end new
