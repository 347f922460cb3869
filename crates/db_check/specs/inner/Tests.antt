-- Tests of what may stand before the next identifier, as truth values.
use Rattle.std.specs.Prelude.{◌≡◌, [], ◌∷◌, ℕ, Bool, true, ◌&&◌, ◌==◌, nat_lt, nat_le, List, length}
use Rattle.std.specs.List.{list_all}
use Rattle.std.specs.Str.{is_utf8}
use Rattle.par_base.specs.declared.value.Value.{Value}
use Rattle.par_base.specs.declared.value.Value.TheVariants.{Null, Int, Text, Reference}
use Rattle.expr_lang.specs.Operations.{fits_i64, text_limit}
use Rattle.row_store.specs.Rows.{RiseFrom, Rows}
use Rattle.row_store.specs.States.{TableState}
use Rattle.id_memory.specs.Pairs.{Pairs}
use Rattle.id_memory.specs.States.{MemoryState}
use Rattle.version_graph.specs.declared.parts.Placed.{Placed}
use Rattle.op_law.specs.Tables.{RowsWide}
use Rattle.op_law.specs.Sound.{RowsSound}
use Rattle.version_model.specs.States.{headings}
use Rattle.version_model.specs.declared.numbered.Numbered.{Numbered}

-- the truth value tells the fact
abbrev pub Tells : Bool → Type 0 → Type 0
Tells b P = (b ≡ true → P) × (P → b ≡ true)

abbrev pub id_below : ℕ → ℕ → Bool
id_below next id = nat_le 1 id && nat_lt id next

abbrev pub value_below : ℕ → Value → Bool
value_below next Null = true
value_below next (Int number) = fits_i64 number
value_below next (Text text) = nat_le (length text) text_limit && is_utf8 text
value_below next (Reference id) = id_below next id

abbrev pub row_below : ℕ → ℕ × List Value → Bool
row_below next row = id_below next row.0 && list_all (value_below next) row.1

abbrev pub rows_below : ℕ → Rows → Bool
rows_below next rows = list_all (row_below next) rows

abbrev pub rows_wide : ℕ → Rows → Bool
rows_wide width rows = list_all (λ (r : ℕ × List Value). length r.1 == width) rows

abbrev pub pair_below : ℕ → ℕ × ℕ × ℕ → Bool
pair_below next e = id_below next e.0 && (nat_lt e.1 next && nat_lt e.2 next)

abbrev pub pairs_below : ℕ → Pairs → Bool
pairs_below next [] = true
pairs_below next (e ∷ es) = pair_below next e && pairs_below next es

-- a stored table has as many columns as its heading, and stands before the next identifier
pub record MayStand {O : Type 0} (es : List (Placed O)) (next : ℕ) (item : Numbered TableState) : Type 0 where
  pub rise : RiseFrom 0 item.value.rows
  pub wide : RowsWide (length (headings es item.number).columns) item.value.rows
  pub below : RowsSound next item.value.rows

abbrev pub may_remember : ℕ → Numbered MemoryState → Bool
may_remember next item = pairs_below next item.value.entries
