-- A tree in which a table stands alone.
use Rattle.std.specs.Prelude.{◌≡◌, ℕ, List, [], length}
use Rattle.row_changes.specs.declared.change.SideChanges.{SideChanges}
use Rattle.version_graph.specs.Sets.{In}
use Rattle.version_model.specs.Kept.{auxes_at, numbers_in}
use Rattle.version_model.specs.declared.numbered.Numbered.{Numbered}
use Rattle.db_state.specs.declared.parts.Parts.{Parts}
use Rattle.write_plans.specs.declared.tree.Tree.{Tree}

-- it has one table, and no auxiliary tables are kept for its operators
pub record IsAlone {O : Type 0} (d : Parts O) (tree : Tree) : Type 0 where
  pub one : length tree.tables ≡ 1
  pub bare : (n : ℕ) → In n tree.operators → auxes_at d.aux n ≡ []

-- no changes under each of these numbers
pub record AreNoChanges (numbers : List ℕ) (items : List (Numbered SideChanges)) : Type 0 where
  pub listed : numbers_in items ≡ numbers
  pub values : (i : Numbered SideChanges) → In i items → i.value.tables ≡ []
