-- Exactly the difference of two tables, and of two sides.
use Rattle.std.specs.Prelude.{◌≡◌, List, [], ◌∷◌}
use Rattle.row_store.specs.declared.change.Change.{Change}
use Rattle.row_store.specs.Rows.{Rows}
use Rattle.row_store.specs.Changes.{ChangesRise, AreOld}
use Rattle.op_law.specs.Tables.{Tables}
use Rattle.row_changes.specs.Changed.{TableChanges, changed}

-- no change leaves what it names
abbrev pub AllDiffer : List Change → Type 0
AllDiffer [] = Unit {0}
AllDiffer (c ∷ cs) = (c.old ≡ c.new → ⊥) × AllDiffer cs

-- THE DIFFERENCE OF TWO TABLES: the changes of those identifiers at which they differ
pub record IsDifference (before now : Rows) (changes : List Change) : Type 0 where
  pub rise : ChangesRise 0 changes
  pub old : AreOld before changes
  pub new : changed before changes ≡ now
  pub differ : AllDiffer changes

-- of two sides, table by table
abbrev pub AreDifferences : Tables → Tables → TableChanges → Type 0
AreDifferences [] [] [] = Unit {0}
AreDifferences (t ∷ ts) (u ∷ us) (c ∷ cs) = IsDifference t u c × AreDifferences ts us cs
AreDifferences [] [] (c ∷ cs) = ⊥
AreDifferences [] (u ∷ us) cs = ⊥
AreDifferences (t ∷ ts) [] cs = ⊥
AreDifferences (t ∷ ts) (u ∷ us) [] = ⊥
