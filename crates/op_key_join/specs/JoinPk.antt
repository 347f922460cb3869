-- JOIN ON PK, at one identifier: the target joins the rows of two sources that both have the identifier.
use Rattle.std.specs.Prelude.{◌≡◌, ℕ, List, [], ◌∷◌, ◌++◌, length, true, not, Some, None, take, drop}
use Rattle.op_law.specs.Tables.{Heading}
use Rattle.op_rows.specs.Cells.{Cells, nth_cell}
use Rattle.op_rows.specs.RowMeaning.{RowMeaning}
use Rattle.row_parts.specs.RowCells.{Cell, is_there, or_else, kept_if, map_cell}

-- the target has the first source's columns, and then the second's
pub record JoinPkFits (first second : ℕ) (hs ht : List Heading) : Type 0 where
  pub s : Heading
  pub t : Heading
  pub target : Heading
  pub source_is : hs ≡ s ∷ t ∷ []
  pub target_is : ht ≡ target ∷ []
  pub s_wide : length s.columns ≡ first
  pub t_wide : length t.columns ≡ second
  pub columns : target.columns ≡ s.columns ++ t.columns

-- both rows, joined, where there are both
abbrev pub joined : Cell → Cell → Cell
joined (Some x) (Some y) = Some (x ++ y)
joined (Some x) None = None
joined None y = None

-- a source's row that isn't in the target
abbrev pub row_alone : Cell → Cell → Cell
row_alone target cell = kept_if (not (is_there target)) cell

-- the sources' rows that aren't in the target, which are kept beside it where it is stored
abbrev pub rows_alone : Cells → Cells → Cells
rows_alone s t = row_alone (nth_cell 0 t) (nth_cell 0 s) ∷ row_alone (nth_cell 0 t) (nth_cell 1 s) ∷ []

-- the sources' rows: the parts of the target's row, or else the rows that aren't in the target
abbrev pub sources_of : ℕ → Cell → Cell → Cell → Cells
sources_of first target alone_first alone_second =
    or_else (map_cell (take first) target) alone_first ∷ or_else (map_cell (drop first) target) alone_second ∷ []

abbrev pub join_pk : ℕ → ℕ → RowMeaning
join_pk first second = record {
  sources = 2;
  targets = 1;
  source_aux = 0;
  target_aux = 2;
  Fits = JoinPkFits first second;
  Closed = λ n. Unit {0};
  Related = λ s t. nth_cell 0 t ≡ joined (nth_cell 0 s) (nth_cell 1 s);
  forward = λ near s t. joined (nth_cell 0 near) (nth_cell 1 near) ∷ [];
  backward = λ near s t. sources_of first (nth_cell 0 near) (row_alone (nth_cell 0 t) (nth_cell 0 s)) (row_alone (nth_cell 0 t) (nth_cell 1 s));
  aux_at_source = λ s t. [];
  aux_at_target = rows_alone;
  read_target = λ s aux. joined (nth_cell 0 s) (nth_cell 1 s) ∷ [];
  read_source = λ t aux. sources_of first (nth_cell 0 t) (nth_cell 0 aux) (nth_cell 1 aux);
  reads_target = true;
  reads_source = true;
}
