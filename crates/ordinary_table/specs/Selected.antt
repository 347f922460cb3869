-- What a SELECT gives of a table.
use Rattle.std.specs.Prelude.{ℕ, List, map, Option, slice_get, unwrap_or}
use Rattle.std.specs.List.{filter}
use Rattle.par_base.specs.declared.value.Value.{Value}
use Rattle.par_base.specs.declared.value.Value.TheVariants.{Null}
use Rattle.expr_lang.specs.Terms.{Term}
use Rattle.row_store.specs.Rows.{Rows}
use Rattle.ordinary_table.specs.Shown.{shown, meets}

-- what the row shows at each of the places: at 0 its reference, and then its values
abbrev pub listed : List ℕ → ℕ × List Value → List Value
listed places r = map (λ place. unwrap_or (slice_get (shown r) place) Null) places

-- the rows that meet the condition, in order, each with what it shows at the places
abbrev pub selected : Rows → List ℕ → Option (Term ℕ) → List (List Value)
selected rows places condition = map (listed places) (filter (meets condition) rows)
