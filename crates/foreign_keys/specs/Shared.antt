-- What DECOMPOSE and JOIN on a foreign key share: how wide and how sound their tables are, and what is read back.
use Rattle.std.specs.Prelude.{◌≡◌, ℕ, List, [], ◌∷◌, length}
use Rattle.par_base.specs.declared.value.Value.{Value}
use Rattle.par_base.specs.declared.value.Value.TheVariants.{Null}
use Rattle.row_store.specs.Rows.{Rows, RiseFrom, row_of}
use Rattle.op_law.specs.Tables.{Heading, RowsWide}
use Rattle.op_law.specs.Sound.{RowsSound}
use Rattle.row_parts.specs.RowCells.{Cell, map_cell}
use Rattle.foreign_keys.specs.KeyParts.{FkParts, FkWell}

-- the foreign key that was kept beside
abbrev pub head_or_null : List Value → Value
head_or_null [] = Null
head_or_null (v ∷ vs) = v

-- the T part that R has of a row
abbrev pub second_part_at : FkParts → Rows → ℕ → Cell
second_part_at k r p = map_cell k.second (row_of r p)

-- the source has w columns, the targets z and b, and the parts fit these
pub record FkFits (k : FkParts) (w a b z : ℕ) (hs ht : List Heading) : Type 0 where
  pub source : Heading
  pub first : Heading
  pub second : Heading
  pub source_is : hs ≡ source ∷ []
  pub target_is : ht ≡ first ∷ second ∷ []
  pub source_wide : length source.columns ≡ w
  pub first_wide : length first.columns ≡ z
  pub second_wide : length second.columns ≡ b
  pub well : FkWell k w a b z

-- what is used of the old tables and the new one
pub record Ready (w b z : ℕ) (s t near : Rows) (n : ℕ) : Type 0 where
  pub s_rise : RiseFrom 0 s
  pub t_rise : RiseFrom 0 t
  pub near_rise : RiseFrom 0 near
  pub s_wide : RowsWide z s
  pub t_wide : RowsWide b t
  pub near_wide : RowsWide w near
  pub s_below : RowsSound n s
  pub t_below : RowsSound n t
  pub near_below : RowsSound n near
