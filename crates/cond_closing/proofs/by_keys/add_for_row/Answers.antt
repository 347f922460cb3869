use Rattle.std.proofs.Common.{ℕ, [], ◌∷◌, ap, ◌∙◌, subst}
use Rattle.par_base.specs.declared.value.Value.{Value}
use Rattle.row_store.specs.Rows.{Rows}
use Rattle.row_parts.specs.RowEdits.{value_at}
use Rattle.cond_closing.specs.Keyed.{HasKeyed}
use Rattle.cond_closing.specs.Matching.{others_of}
use Rattle.cond_closing.proofs.RowLemmas.{keys_find}
use Rattle.cond_closing.proofs.by_keys.add_for_row.Goals as goal

pub returns-clause-matches : goal.returns-clause-matches
returns-clause-matches c =
    let it = c.args.it.now in
    let new = c.add_keyed.new.ids in
    let value = c.in_ok-value_at.field-0 in
    let here = subst (λ (rows : Rows). HasKeyed rows (value ∷ []) new) c.other_keys.ensures c.in_ok-add_keyed.ensures.keyed in
    keys_find it c.requires c.args.half c.args.row.now new
    (subst (λ (v : Value). HasKeyed (others_of c.args.half it.first.now.rows it.second.now.rows) (v ∷ []) new) (c.in_ok-value_at.ensures ∙ ap (λ (k : ℕ). value_at k c.args.row.now) c.column_of.ensures) here)
