-- Kept keys stay right.
use Rattle.std.proofs.Common.{◌≡◌, ℕ, List, [], ◌∷◌, ◌++◌, Option, Some, refl, ap, sym, ◌∙◌, subst}
use Rattle.row_store.specs.Rows.{Rows}
use Rattle.row_store.specs.Changes.{AreOld}
use Rattle.row_store.specs.declared.change.Change.{Change}
use Rattle.row_changes.specs.Changed.{changed}
use Rattle.version_graph.specs.Sets.{Each}
use Rattle.version_model.specs.declared.numbered.Numbered.{Numbered}
use Rattle.table_keys.specs.declared.columns.KeyColumns.{KeyColumns}
use Rattle.table_keys.specs.Keys.{keyed_changes, keys_by}
use Rattle.table_keys.specs.States.{pending_after, ArePendingOld, KeysState}
use Rattle.table_keys.proofs.KeyLaws.{keys_changed, keys_old}
use Rattle.kept_keys.specs.Kept.{changes_in, AreKeysOf, IsKeysOf}
use Rattle.kept_keys.specs.Changed.{Both, CommitsKeys, IsPrepared, IsReadyOver, IsSameKeys}
use Rattle.kept_keys.specs.Laws.{CommittedAreRight, PreparedAreReady, SameAreRight}

-- the keys of one table under the number and in the columns of another item
keys_moved : (tables : ℕ → Rows) (a b : Numbered KeysState) → b.number ≡ a.number → b.value.columns ≡ a.value.columns → keys_by a.value.columns (tables a.number) ≡ keys_by b.value.columns (tables b.number)
keys_moved tables a b number columns = ap (λ (n : ℕ). keys_by a.value.columns (tables n)) (sym number) ∙ ap (λ (c : KeyColumns). keys_by c (tables b.number)) (sym columns)

-- keys are the same as themselves
pub same_own : (x : Numbered KeysState) → IsSameKeys x x
same_own x = record { number = refl; columns = refl; rows = refl }

pub both_same : (items : List (Numbered KeysState)) → Both IsSameKeys items items
both_same [] = tt
both_same (x ∷ xs) = (same_own x, both_same xs)

-- no keys are right in any state
pub no_keys : (tables : ℕ → Rows) (items : List (Numbered KeysState)) → items ≡ [] → AreKeysOf tables items
no_keys tables items none = subst (AreKeysOf tables) (sym none) tt

-- further keys that are right
pub keys_more : (tables : ℕ → Rows) (items : List (Numbered KeysState)) (x : Numbered KeysState) → AreKeysOf tables items → IsKeysOf tables x → AreKeysOf tables (items ++ x ∷ [])
keys_more tables [] x right one = (one, tt)
keys_more tables (y ∷ ys) x right one = (right.0, keys_more tables ys x right.1 one)

same_one : (tables : ℕ → Rows) (a b : Numbered KeysState) → IsKeysOf tables a → IsSameKeys a b → IsKeysOf tables b
same_one tables a b right same = same.rows ∙ right ∙ keys_moved tables a b same.number same.columns

pub same_right : SameAreRight
same_right tables [] [] right both = tt
same_right tables [] (b ∷ ys) right both = absurd both
same_right tables (a ∷ xs) [] right both = absurd both
same_right tables (a ∷ xs) (b ∷ ys) right both = (same_one tables a b right.0 both.0, same_right tables xs ys right.1 both.1)

ready_one : (tables : ℕ → Rows) (listed : List ℕ) (made : List (Numbered (List Change))) (a : Numbered KeysState) → AreOld (tables a.number) (changes_in listed made a.number) → IsKeysOf tables a → IsPrepared listed made a → IsReadyOver a
ready_one tables listed made a old right prepared =
    subst (λ (p : Option (List Change)). ArePendingOld a.value.rows p) (sym prepared)
    (subst (λ (rows : Rows). AreOld rows (keyed_changes a.value.columns (changes_in listed made a.number))) (sym right) (keys_old a.value.columns (tables a.number) (changes_in listed made a.number) old))

pub prepared_ready : PreparedAreReady
prepared_ready tables listed made [] old right prepared = tt
prepared_ready tables listed made (a ∷ xs) old right prepared = (ready_one tables listed made a (old a.number) right.0 prepared.0, prepared_ready tables listed made xs old right.1 prepared.1)

committed_one : (tables end : ℕ → Rows) (listed : List ℕ) (made : List (Numbered (List Change))) (a b : Numbered KeysState) → ((t : ℕ) → changed (tables t) (changes_in listed made t) ≡ end t) → IsKeysOf tables a → IsPrepared listed made a → CommitsKeys a b → IsKeysOf end b
committed_one tables end listed made a b ends right prepared commits =
    commits.rows
    ∙ ap (pending_after a.value.rows) prepared
    ∙ ap (λ (rows : Rows). changed rows (keyed_changes a.value.columns (changes_in listed made a.number))) right
    ∙ sym (keys_changed a.value.columns (tables a.number) (changes_in listed made a.number))
    ∙ ap (keys_by a.value.columns) (ends a.number)
    ∙ keys_moved end a b commits.number commits.columns

pub committed_right : CommittedAreRight
committed_right tables end listed made [] [] ends right prepared both = tt
committed_right tables end listed made [] (b ∷ ys) ends right prepared both = absurd both
committed_right tables end listed made (a ∷ xs) [] ends right prepared both = absurd both
committed_right tables end listed made (a ∷ xs) (b ∷ ys) ends right prepared both = (committed_one tables end listed made a b ends right.0 prepared.0 both.0, committed_right tables end listed made xs ys ends right.1 prepared.1 both.1)
