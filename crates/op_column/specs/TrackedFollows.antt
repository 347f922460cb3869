-- When the value of a tracked column follows its expression, and when it is kept.
use Rattle.std.specs.Prelude.{◌≡◌, ◌≢◌, ℕ, List, [], ◌∷◌, Option, None, IsSome}
use Rattle.std.specs.Option.{option_map}
use Rattle.par_base.specs.declared.value.Value.{Value}
use Rattle.expr_lang.specs.Terms.{Term}
use Rattle.expr_lang.specs.Val.{val}
use Rattle.op_law.specs.Tables.{Heading}
use Rattle.op_rows.specs.Cells.{Cells, first_cell, AreCellsOf}
use Rattle.op_rows.specs.RowMeaning.{RowPair}
use Rattle.op_column.specs.AddTracked.{last_value, add_tracked}

-- the value of the column at one identifier, where the target has a row
abbrev pub tracked_value : Cells → Option Value
tracked_value target = option_map last_value (first_cell target)

-- the value of the expression there, where the source has a row
abbrev pub expression_value : Term ℕ → Cells → Option Value
expression_value e source = option_map (val e) (first_cell source)

-- a value that differs from the expression over the old source's row is kept, while the new source has the identifier
abbrev pub DeviatingValueKept : Type 0
DeviatingValueKept =
    (e : Term ℕ) (hs ht : List Heading) (near s t : Cells)
    → RowPair (add_tracked e) hs ht s t → AreCellsOf hs near → IsSome (first_cell near)
    → tracked_value t ≢ expression_value e s
    → tracked_value ((add_tracked e).forward near s t) ≡ tracked_value t

-- every other value is the expression's over the new source's row, also where the old source had no row
abbrev pub OtherValueFollows : Type 0
OtherValueFollows =
    (e : Term ℕ) (hs ht : List Heading) (near s t : Cells)
    → RowPair (add_tracked e) hs ht s t → AreCellsOf hs near
    → tracked_value t ≡ expression_value e s
    → tracked_value ((add_tracked e).forward near s t) ≡ expression_value e near

-- a value that is written equal to the expression isn't kept: it follows at the next write of the source
abbrev pub EqualValueNotKept : Type 0
EqualValueNotKept =
    (e : Term ℕ) (hs ht : List Heading) (written near s t : Cells)
    → RowPair (add_tracked e) hs ht s t → AreCellsOf ht written → AreCellsOf hs near
    → tracked_value written ≡ expression_value e ((add_tracked e).backward written s t)
    → tracked_value ((add_tracked e).forward near ((add_tracked e).backward written s t) written) ≡ expression_value e near

-- beside a stored source stand the deviating values alone
abbrev pub DeviatingValuesBeside : Type 0
DeviatingValuesBeside =
    (e : Term ℕ) (hs ht : List Heading) (s t : Cells)
    → RowPair (add_tracked e) hs ht s t
    → (tracked_value t ≡ expression_value e s → (add_tracked e).aux_at_source s t ≡ None ∷ [])
    × (tracked_value t ≢ expression_value e s
    → (add_tracked e).aux_at_source s t ≡ option_map (λ value. value ∷ []) (tracked_value t) ∷ [])
