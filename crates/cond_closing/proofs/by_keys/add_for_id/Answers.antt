use Rattle.std.proofs.Common.{List, ap, sym, ◌∙◌, subst}
use Rattle.par_base.specs.declared.value.Value.{Value}
use Rattle.row_store.specs.Rows.{Rows, row_of}
use Rattle.cond_closing.specs.Keyed.{HasKeyed}
use Rattle.cond_closing.specs.Matching.{others_of}
use Rattle.cond_closing.proofs.RowLemmas.{keys_find_at, keys_find_none}
use Rattle.cond_closing.proofs.by_keys.add_for_id.Goals as goal

pub returns-in_ok-add_keyed-clause-matches : goal.returns-in_ok-add_keyed-clause-matches
returns-in_ok-add_keyed-clause-matches c =
    let it = c.args.it.now in
    let new = c.add_keyed.new.ids in
    let at = sym (c.in-Some.ensures.value ∙ ap (λ (rows : Rows). row_of rows c.args.id) c.own_keys.ensures) in
    let here = subst (λ (rows : Rows). HasKeyed rows c.as_slice.result.now new) c.other_keys.ensures c.in_ok-add_keyed.ensures.keyed in
    keys_find_at it c.requires c.args.half c.args.id c.in-Some.key.now new at
    (subst (λ (key : List Value). HasKeyed (others_of c.args.half it.first.now.rows it.second.now.rows) key new) c.as_slice.ensures here)

pub returns-in_default-clause-matches : goal.returns-in_default-clause-matches
returns-in_default-clause-matches c =
    let it = c.args.it.now in
    keys_find_none it c.requires c.args.half c.args.id c.args.ids.now (sym (c.in_default.ensures.value ∙ ap (λ (rows : Rows). row_of rows c.args.id) c.own_keys.ensures))
