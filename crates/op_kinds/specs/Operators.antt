-- The operators that are built, and what each means.
use Rattle.std.specs.Prelude.{ℕ, List, Option}
use Rattle.expr_lang.specs.Terms.{Term}
use Rattle.statements.specs.Views.{OpView}
use Rattle.op_law.specs.Meaning.{Meaning, flip}
use Rattle.op_law.specs.Laws.{Laws, flip_laws}
use Rattle.op_rows.specs.RowMeaning.{rowwise, flip_row}
use Rattle.op_rows.specs.inner.RowwiseLaws.{rowwise_laws, flip_row_laws}
use Rattle.op_column.specs.CreateTable.{create_table, create_table_laws}
use Rattle.op_column.specs.DropTable.{drop_table, drop_table_laws}
use Rattle.op_column.specs.Rename.{rename, rename_laws}
use Rattle.op_column.specs.AddColumn.{add_column}
use Rattle.op_column.specs.inner.AddColumnLaws.{add_column_laws}
use Rattle.op_column.specs.AddTracked.{add_tracked}
use Rattle.op_column.specs.inner.AddTrackedLaws.{add_tracked_laws}
use Rattle.op_split_merge.specs.Split.{split}
use Rattle.op_split_merge.specs.inner.SplitLaws.{split_laws}
use Rattle.op_key_join.specs.DecomposeSingle.{decompose_single}
use Rattle.op_key_join.specs.inner.DecomposeSingleLaws.{decompose_single_laws}
use Rattle.op_key_join.specs.DecomposePk.{decompose_pk}
use Rattle.op_key_join.specs.inner.DecomposePkLaws.{decompose_pk_laws}
use Rattle.op_key_join.specs.JoinPk.{join_pk}
use Rattle.op_key_join.specs.inner.JoinPkLaws.{join_pk_laws}
use Rattle.op_fk_decompose.specs.Columns.{decompose_columns}
use Rattle.op_fk_decompose.specs.inner.ColumnLemmas.{decompose_keeps}
use Rattle.op_fk_join.specs.Columns.{join_columns}
use Rattle.op_fk_join.specs.inner.ColumnLemmas.{join_keeps}
use Rattle.pair_rows.specs.Shown.{Joining}
use Rattle.op_cond_join.specs.JoinOn.{join_on}
use Rattle.op_cond_join.specs.inner.JoinOnLaws.{join_on_laws}
use Rattle.outer_law.specs.OuterOn.{outer_on}
use Rattle.op_outer_cond.specs.Outerings.{places_from}
use Rattle.outer_law.proofs.BackwardLaws.{outer_on_laws}

-- a built operator, with numbers for its columns
pub data Built : Type 0 where
  CreateTable : Built
  -- the number of the source's columns
  DropTable : ℕ → Built
  -- of a table or of a column
  Rename : Built
  -- the new column's place among the target's, and its expression over the source's columns
  AddColumn : ℕ → Term ℕ → Built
  -- a tracked column behind all others, with the expression that it follows
  AddTracked : Term ℕ → Built
  -- the dropped column's place among the source's, and its default over the target's columns
  DropColumn : ℕ → Term ℕ → Built
  -- the number of each table's columns, the condition of the first target, and that of the second, where there is one
  Split : ℕ → Term ℕ → Option (Term ℕ) → Built
  -- the same of its sources, of which there are always two
  Merge : ℕ → Term ℕ → Option (Term ℕ) → Built
  -- the places in the source of the target's columns, and the number of the source's
  DecomposeSingle : List ℕ → ℕ → Built
  -- the places in the source of each target's columns
  DecomposePk : List ℕ → List ℕ → Built
  -- the places in the target of each source's columns
  OuterJoinPk : List ℕ → List ℕ → Built
  -- the number of each source's columns
  JoinPk : ℕ → ℕ → Built
  -- the places in the source of each target's columns, and that of the foreign key in the first target
  DecomposeFk : List ℕ → List ℕ → ℕ → Built
  -- the places in the target of each source's columns, and that of the foreign key in the first source
  OuterJoinFk : List ℕ → List ℕ → ℕ → Built
  -- the number of each source's columns, and the place of the foreign key in the first
  JoinFk : ℕ → ℕ → ℕ → Built
  -- the places in the target of each source's columns, and the condition over the target's
  JoinOn : List ℕ → List ℕ → Term ℕ → Built
  -- the places in the source of each target's columns, and the condition over the source's
  DecomposeOn : List ℕ → List ℕ → Term ℕ → Built
  -- the number of each source's columns, and the condition over the target's
  OuterJoinOn : ℕ → ℕ → Term ℕ → Built

-- a join on a condition, by the places of both tables' columns
abbrev pub joining_by : List ℕ → List ℕ → Term ℕ → Joining
joining_by first second c = record { first = first; second = second; condition = c }

-- an outer one, by the numbers of both tables' columns
abbrev pub outer_by : ℕ → ℕ → Term ℕ → Joining
outer_by first second c = record { first = places_from 0 first; second = places_from first second; condition = c }

-- what it means: its rule for one identifier, at each identifier, or its rule for whole tables
abbrev pub meaning_of : Built → Meaning
meaning_of CreateTable = rowwise create_table
meaning_of (DropTable width) = rowwise (drop_table width)
meaning_of Rename = rowwise rename
meaning_of (AddColumn place e) = rowwise (add_column place e)
meaning_of (AddTracked e) = rowwise (add_tracked e)
meaning_of (DropColumn place e) = rowwise (flip_row (add_column place e))
meaning_of (Split width first second) = rowwise (split width first second)
meaning_of (Merge width first second) = rowwise (flip_row (split width first second))
meaning_of (DecomposeSingle columns width) = rowwise (decompose_single columns width)
meaning_of (DecomposePk first second) = rowwise (decompose_pk first second)
meaning_of (OuterJoinPk first second) = rowwise (flip_row (decompose_pk first second))
meaning_of (JoinPk first second) = rowwise (join_pk first second)
meaning_of (DecomposeFk first second place) = decompose_columns first second place
meaning_of (OuterJoinFk first second place) = flip (decompose_columns first second place)
meaning_of (JoinFk first second place) = join_columns first second place
meaning_of (JoinOn first second c) = join_on (joining_by first second c)
meaning_of (DecomposeOn first second c) = flip (join_on (joining_by first second c))
meaning_of (OuterJoinOn first second c) = outer_on (outer_by first second c)

-- each keeps the laws, both ways
pub laws_of : (o : Built) → Laws (meaning_of o)
laws_of CreateTable = rowwise_laws create_table create_table_laws
laws_of (DropTable width) = rowwise_laws (drop_table width) (drop_table_laws width)
laws_of Rename = rowwise_laws rename rename_laws
laws_of (AddColumn place e) = rowwise_laws (add_column place e) (add_column_laws place e)
laws_of (AddTracked e) = rowwise_laws (add_tracked e) (add_tracked_laws e)
laws_of (DropColumn place e) =
    rowwise_laws (flip_row (add_column place e)) (flip_row_laws (add_column place e) (add_column_laws place e))
laws_of (Split width first second) = rowwise_laws (split width first second) (split_laws width first second)
laws_of (Merge width first second) =
    rowwise_laws (flip_row (split width first second)) (flip_row_laws (split width first second) (split_laws width first second))
laws_of (DecomposeSingle columns width) = rowwise_laws (decompose_single columns width) (decompose_single_laws columns width)
laws_of (DecomposePk first second) = rowwise_laws (decompose_pk first second) (decompose_pk_laws first second)
laws_of (OuterJoinPk first second) =
    rowwise_laws (flip_row (decompose_pk first second)) (flip_row_laws (decompose_pk first second) (decompose_pk_laws first second))
laws_of (JoinPk first second) = rowwise_laws (join_pk first second) (join_pk_laws first second)
laws_of (DecomposeFk first second place) = decompose_keeps first second place
laws_of (OuterJoinFk first second place) = flip_laws (decompose_columns first second place) (decompose_keeps first second place)
laws_of (JoinFk first second place) = join_keeps first second place
laws_of (JoinOn first second c) = join_on_laws (joining_by first second c)
laws_of (DecomposeOn first second c) = flip_laws (join_on (joining_by first second c)) (join_on_laws (joining_by first second c))
laws_of (OuterJoinOn first second c) = outer_on_laws (outer_by first second c)

-- an operator: the text that it was built from, and what was built
pub record AnyView : Type 0 where
  pub text : OpView
  pub operator : Built

-- the text says nothing more of what it means
abbrev pub any_meaning : AnyView → Meaning
any_meaning o = meaning_of o.operator

pub any_laws : (o : AnyView) → Laws (any_meaning o)
any_laws o = laws_of o.operator
