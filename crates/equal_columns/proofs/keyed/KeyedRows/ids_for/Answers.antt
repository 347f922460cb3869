use Rattle.std.proofs.Common.{ℕ, List, [], ◌∷◌, filter, ap, sym, ◌∙◌, subst}
use Rattle.std.proofs.lemmas.Bool.{false≢true}
use Rattle.expr_lang.specs.Val.{holds_at}
use Rattle.par_base.specs.SameRows.{same_row}
use Rattle.par_base.specs.declared.value.Value.{Value}
use Rattle.par_base.specs.inner.SameLaws.{row_same}
use Rattle.row_parts.specs.Places.{row_of_both as joined_row}
use Rattle.row_parts.specs.RowEdits.{value_at}
use Rattle.row_parts.specs.RowCells.{by_test}
use Rattle.pair_rows.specs.inner.Changed.{pairs_of}
use Rattle.row_store.specs.Rows.{Rows, RiseFrom}
use Rattle.table_keys.proofs.KeyLaws.{keys_rise}
use Rattle.equal_columns.specs.Keyed.{keyed_from}
use Rattle.equal_columns.proofs.KeyedLemmas.{keyed_cover}
use Rattle.equal_columns.proofs.keyed.KeyedRows.ids_for.Goals as goal

pub returns : goal.returns
returns c j condition t rise keyed a test passes =
    let it = c.args.self.now in
    let columns = it.keys.columns in
    let row = c.args.row.now in
    let key = value_at it.column row ∷ [] in
    let value = ap (λ (v : Value). v ∷ []) c.in_ok-value_at.ensures in
    let rises = subst (λ (rows : Rows). RiseFrom 0 rows) (sym keyed.rows) (keys_rise columns 0 t rise) in
    ap (λ (ids : List ℕ). filter test (pairs_of a ids)) (c.in_ok-ids.ensures rises ∙ ap (λ (vs : List Value). keyed_from it.keys.rows vs 0) value ∙ ap (λ (rows : Rows). keyed_from rows key 0) keyed.rows)
    ∙ keyed_cover columns key t a test
    (λ b other at differs.
    passes b other at (by_test (holds_at condition (joined_row j.first j.second row other))
    (λ holds. absurd (false≢true (sym differs ∙ ap (λ (vs : List Value). same_row vs key) (keyed.equal row other holds) ∙ row_same key)))
    (λ e. e)))
    rise
