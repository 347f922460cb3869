-- The parts of real rows: columns by their places in R, and the foreign key at its place in S.
use Rattle.std.specs.Prelude.{◌≡◌, ℕ, ◌+◌, ◌≤◌, List, [], ◌∷◌, length}
use Rattle.std.specs.List.{insert, remove}
use Rattle.op_law.specs.Tables.{Heading}
use Rattle.op_law.specs.Meaning.{Meaning}
use Rattle.foreign_keys.specs.KeyParts.{FkParts}
use Rattle.row_parts.specs.RowEdits.{value_at}
use Rattle.op_fk_decompose.specs.Decompose.{decompose_fk}
use Rattle.row_parts.specs.Places.{pick, nulls, row_of_both, ArePartition, names_at}

-- the parts of DECOMPOSE: columns of R by their places, and the place of the foreign key in S
abbrev pub column_parts : List ℕ → List ℕ → ℕ → FkParts
column_parts first second place = record {
  first = pick first;
  second = pick second;
  join = row_of_both first second;
  null_first = nulls (length first);
  null_second = nulls (length second);
  put = λ x f. insert x place f;
  part = λ v. remove v place;
  key = value_at place;
}

-- the source's columns are divided into those of S and T, and S has the foreign key at its place
pub record DecomposeFits (first second : List ℕ) (place : ℕ) (hs ht : List Heading) : Type 0 where
  -- the headings of R, S and T, and the name of the foreign key
  pub source : Heading
  pub s : Heading
  pub t : Heading
  pub key : List ℕ
  -- there are no others
  pub source_is : hs ≡ source ∷ []
  pub target_is : ht ≡ s ∷ t ∷ []
  -- each column of R is one of S or one of T
  pub divided : ArePartition first second
  pub columns : length source.columns ≡ length first + length second
  -- S has its columns of R, and the foreign key
  pub s_columns : s.columns ≡ insert (names_at first source.columns) place key
  -- T has its columns of R
  pub t_columns : t.columns ≡ names_at second source.columns
  -- the foreign key stands between columns of S or at their end
  pub within : place ≤ length first

-- DECOMPOSE ON FK of a table into columns of these places
abbrev pub decompose_columns : List ℕ → List ℕ → ℕ → Meaning
decompose_columns first second place = decompose_fk (DecomposeFits first second place) (column_parts first second place)
