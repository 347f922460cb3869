-- Parts of tables and of sides.
use Rattle.std.proofs.Common.{◌≡◌, ℕ, List, [], ◌∷◌, Bool, true, false, cond, Option, None, refl, ap, sym, ◌∙◌}
use Rattle.par_base.specs.declared.value.Value.{Value}
use Rattle.row_store.specs.Rows.{Rows, RiseFrom, row_of}
use Rattle.row_store.proofs.UndoLaws.{ext}
use Rattle.op_law.specs.Tables.{Tables}
use Rattle.op_law.specs.Sound.{RowsSound, TablesSound}
use Rattle.op_law.specs.Local.{rows_only, only}
use Rattle.op_law.specs.Meaning.{PairState}
use Rattle.operator_changes.specs.Calls.{ahead}
use Rattle.op_rows.specs.Cells.{table_from}
use Rattle.op_rows.specs.inner.CellLemmas.{has_id, IdsRise, AllRise}
use Rattle.op_rows.specs.inner.Tabulated.{row_from, rise_from}
use Rattle.op_law.proofs.OnlyLaws.{row_in, row_out, rise_only, by_test}
use Rattle.operator_changes.specs.Parts.{part_of, pair_part}

in_cond : (b : Bool) (o : Option (List Value)) → b ≡ true → cond b o None ≡ o
in_cond true o e = refl
in_cond false o e = absurd (cc)

out_cond : (b : Bool) (o : Option (List Value)) → b ≡ false → cond b o None ≡ None
out_cond true o e = absurd (cc)
out_cond false o e = refl

-- the table of what a table has at these identifiers is that table restricted to them
pub part_is : (ids : List ℕ) (rows : Rows) → IdsRise 0 ids → RiseFrom 0 rows → table_from ids (row_of rows) ≡ rows_only (has_id ids) rows
part_is ids rows rise h =
    ext 0 (table_from ids (row_of rows)) (rows_only (has_id ids) rows) (rise_from 0 ids (row_of rows) rise) (rise_only (has_id ids) 0 rows h)
    (λ id. row_from ids (row_of rows) id ∙ by_test (has_id ids id)
    (λ e. in_cond (has_id ids id) (row_of rows id) e ∙ sym (row_in (has_id ids) rows id e))
    (λ e. out_cond (has_id ids id) (row_of rows id) e ∙ sym (row_out (has_id ids) rows id e)))

pub parts_are : (ids : List ℕ) (ts : Tables) → IdsRise 0 ids → AllRise ts → part_of ids ts ≡ only (has_id ids) ts
parts_are ids [] rise h = refl
parts_are ids (t ∷ ts) rise h = let a = part_is ids t rise h.0 in let b = parts_are ids ts rise h.1 in cc

-- what may stand may stand restricted
rows_sound : (P : ℕ → Bool) (n : ℕ) (rows : Rows) → RowsSound n rows → RowsSound n (rows_only P rows)
rows_sound P n [] h = tt
rows_sound P n (r ∷ rs) h =
    let rest = rows_sound P n rs h.1 in
    elim (P r.0) as (λ b. RowsSound n (cond b (r ∷ rows_only P rs) (rows_only P rs))) [ true ↦ (h.0, rest) | false ↦ rest ]

pub tables_sound : (P : ℕ → Bool) (n : ℕ) (ts : Tables) → TablesSound n ts → TablesSound n (only P ts)
tables_sound P n [] h = tt
tables_sound P n (t ∷ ts) h = (rows_sound P n t h.0, tables_sound P n ts h.1)

-- the part is the same from either side
pub ahead_part : (b : Bool) (ids : List ℕ) (p : PairState) → ahead b (pair_part ids p) ≡ pair_part ids (ahead b p)
ahead_part false ids p = refl
ahead_part true ids p = refl

-- a part that was read, as it is seen from the side from which the operator is crossed
pub part_ahead : (b : Bool) (ids : List ℕ) (x p : PairState) → x ≡ pair_part ids p → ahead b x ≡ pair_part ids (ahead b p)
part_ahead b ids x p is = ap (ahead b) is ∙ ahead_part b ids p
