-- DECOMPOSE ON PK, at one identifier: a row of the source has a part in each target. OUTER JOIN ON PK is its flip.
use Rattle.std.specs.Prelude.{◌≡◌, ℕ, ◌+◌, List, [], ◌∷◌, length, Bool, true, not, ◌||◌, Some, None}
use Rattle.par_base.specs.declared.value.Value.{Value}
use Rattle.op_law.specs.Tables.{Heading}
use Rattle.op_rows.specs.Cells.{Cells, nth_cell}
use Rattle.op_rows.specs.RowMeaning.{RowMeaning}
use Rattle.row_parts.specs.RowCells.{Cell, is_there, kept_if, row_or, in_cell}
use Rattle.row_parts.specs.Places.{pick, nulls, row_of_both, ArePartition, names_at}
use Rattle.op_key_join.specs.Nulls.{is_null, is_null_there}

-- the targets have the source's columns between them, each in the order of its list
pub record DecomposePkFits (first second : List ℕ) (hs ht : List Heading) : Type 0 where
  pub source : Heading
  pub s : Heading
  pub t : Heading
  pub source_is : hs ≡ source ∷ []
  pub target_is : ht ≡ s ∷ t ∷ []
  pub divided : ArePartition first second
  pub source_wide : length source.columns ≡ length first + length second
  pub s_columns : s.columns ≡ names_at first source.columns
  pub t_columns : t.columns ≡ names_at second source.columns

-- a target shows its part of the source's row where that isn't null, and where a null row is to stand
abbrev pub shown_part : List ℕ → Cell → Bool → Cell
shown_part places source null_stands =
    in_cell source (λ row. kept_if (not (is_null (pick places row)) || null_stands) (Some (pick places row)))

-- a null row of a target
abbrev pub null_row : Cell → Cell
null_row cell = kept_if (is_null_there cell) cell

-- the source's row where both targets lack the identifier
abbrev pub row_of_neither : Cell → Cell → Cell → Cell
row_of_neither c None None = c
row_of_neither c (Some x) y = None
row_of_neither c None (Some y) = None

-- the null rows of the targets, which are kept beside a stored source
abbrev pub null_rows : Cells → Cells
null_rows t = null_row (nth_cell 0 t) ∷ null_row (nth_cell 1 t) ∷ []

-- the source's row that is in neither target, which is kept beside stored targets
abbrev pub rows_of_neither : Cells → Cells → Cells
rows_of_neither s t = row_of_neither (nth_cell 0 s) (nth_cell 0 t) (nth_cell 1 t) ∷ []

module _ (first second : List ℕ) where
  -- the row of the two parts, with nulls for a part that isn't there
  abbrev pub row_of_parts : Cell → Cell → List Value
  row_of_parts x y = row_of_both first second (row_or (nulls (length first)) x) (row_or (nulls (length second)) y)

  -- every identifier of a target is in the source, whose row has the two parts; in neither target, it is null
  abbrev pub HasParts : Cell → Cell → Cell → Type 0
  HasParts (Some row) x y = row ≡ row_of_parts x y
  HasParts None x y = (x ≡ None) × (y ≡ None)

  -- the source's row: the parts joined, or else the row of an identifier that is in neither target
  abbrev pub joined_parts : Cell → Cell → Cell → Cell
  joined_parts None None neither = neither
  joined_parts (Some x) y neither = Some (row_of_parts (Some x) y)
  joined_parts None (Some y) neither = Some (row_of_parts None (Some y))

  -- the targets, from the source's row and the null rows that are to stand
  abbrev pub shown_parts : Cell → Cell → Cell → Cells
  shown_parts source null_first null_second =
      shown_part first source (is_there null_first) ∷ shown_part second source (is_there null_second) ∷ []

  abbrev pub decompose_pk : RowMeaning
  decompose_pk = record {
    sources = 1;
    targets = 2;
    source_aux = 2;
    target_aux = 1;
    Fits = DecomposePkFits first second;
    Closed = λ n. Unit {0};
    Related = λ s t. HasParts (nth_cell 0 s) (nth_cell 0 t) (nth_cell 1 t);
    forward = λ near s t. shown_parts (nth_cell 0 near) (null_row (nth_cell 0 t)) (null_row (nth_cell 1 t));
    backward = λ near s t. joined_parts (nth_cell 0 near) (nth_cell 1 near) (row_of_neither (nth_cell 0 s) (nth_cell 0 t) (nth_cell 1 t)) ∷ [];
    aux_at_source = λ s t. null_rows t;
    aux_at_target = rows_of_neither;
    read_target = λ s aux. shown_parts (nth_cell 0 s) (nth_cell 0 aux) (nth_cell 1 aux);
    read_source = λ t aux. joined_parts (nth_cell 0 t) (nth_cell 1 t) (nth_cell 0 aux) ∷ [];
    reads_target = true;
    reads_source = true;
  }
