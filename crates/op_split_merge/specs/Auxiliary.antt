-- The auxiliary rows of SPLIT at one identifier where the source is stored, and the targets' rows from them.
use Rattle.std.specs.Prelude.{ℕ, [], ◌∷◌, not, ◌&&◌, ◌||◌, Option, Some, None}
use Rattle.expr_lang.specs.Terms.{Term}
use Rattle.op_rows.specs.Cells.{Cells}
use Rattle.row_parts.specs.RowCells.{Cell, is_there, or_else, kept_if}
use Rattle.op_split_merge.specs.Twins.{Test, meets, fails, are_separated, noted_if}

-- lost: in the source and not in the target, and the source's row meets the target's condition
abbrev pub lost : Test → Cell → Cell → Cell
lost test c here = noted_if (not (is_there here) && meets test c)

-- against the first condition: in the first target, with a row that fails it
abbrev pub against_first : Test → Cell → Cell
against_first first r = noted_if (fails first r)

-- against the second condition: in the second target, not separated, with a row that fails it
abbrev pub against_second : Test → Cell → Cell → Cell
against_second second r s = noted_if (not (are_separated r s) && fails second s)

-- separated: the second target's row, where it differs from the first's
abbrev pub separated : Cell → Cell → Cell
separated r s = kept_if (are_separated r s) s

-- in this order; without a second target there are only those of the first
abbrev pub split_aux : Test → Test → Option (Term ℕ) → Cell → Cell → Cell → Cells
split_aux first second None c r s = lost first c r ∷ against_first first r ∷ []
split_aux first second (Some q) c r s =
    lost first c r ∷ against_first first r ∷ lost second c s ∷ against_second second r s ∷ separated r s ∷ []

-- a target has the source's row where that is against its condition, or meets it and isn't lost
abbrev pub shown_by : Test → Cell → Cell → Cell → Cell
shown_by test c is_lost is_against = kept_if (is_there is_against || (meets test c && not (is_there is_lost))) c

-- the second target has the separated row before that
abbrev pub second_by : Test → Cell → Cell → Cell → Cell → Cell
second_by second c is_lost is_against apart = or_else apart (shown_by second c is_lost is_against)
