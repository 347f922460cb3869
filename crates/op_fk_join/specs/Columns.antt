-- JOIN ON FK of real columns: those of S without the foreign key, and then those of T.
use Rattle.std.proofs.Common.{◌≡◌, ℕ, ◌-◌, ◌<◌, List, [], ◌∷◌, ◌++◌, take, drop, length}
use Rattle.std.specs.List.{insert, remove}
use Rattle.op_law.specs.Tables.{Heading}
use Rattle.op_law.specs.Meaning.{Meaning}
use Rattle.foreign_keys.specs.KeyParts.{FkParts}
use Rattle.row_parts.specs.RowEdits.{value_at}
use Rattle.row_parts.specs.Places.{nulls}
use Rattle.op_fk_join.specs.Join.{join_fk}

-- the parts of JOIN: a columns of S beside the foreign key, b columns of T, and the place of the key in S
abbrev pub side_parts : ℕ → ℕ → ℕ → FkParts
side_parts a b place = record {
  first = take a;
  second = drop a;
  join = λ x y. x ++ y;
  null_first = nulls a;
  null_second = nulls b;
  put = λ x f. insert x place f;
  part = λ v. remove v place;
  key = value_at place;
}

-- the target's columns are those of S without the foreign key, and then those of T
pub record JoinFits (first second place : ℕ) (hs ht : List Heading) : Type 0 where
  pub s : Heading
  pub t : Heading
  pub target : Heading
  pub source_is : hs ≡ s ∷ t ∷ []
  pub target_is : ht ≡ target ∷ []
  pub s_columns : length s.columns ≡ first
  pub t_columns : length t.columns ≡ second
  pub within : place < first
  pub columns : target.columns ≡ remove s.columns place ++ t.columns

-- JOIN ON FK of tables with so many columns
abbrev pub join_columns : ℕ → ℕ → ℕ → Meaning
join_columns first second place = join_fk (JoinFits first second place) (side_parts (first - 1) second place)
