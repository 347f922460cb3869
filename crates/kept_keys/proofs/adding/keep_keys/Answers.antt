use Rattle.std.proofs.Common.{ap, sym, ◌∙◌, subst}
use Rattle.table_keys.specs.declared.columns.KeyColumns.{KeyColumns}
use Rattle.table_keys.specs.Keys.{keys_by}
use Rattle.kept_keys.specs.Kept.{AreKeysOf}
use Rattle.kept_keys.proofs.KeptLaws.{keys_more}
use Rattle.kept_keys.proofs.adding.keep_keys.Goals as goal

pub returns : goal.returns
returns c tables right is =
    subst (AreKeysOf tables) (sym c.in_ok-push.ensures.items)
    (keys_more tables c.args.items.now.items (record { number = c.args.number; value = c.in_ok-value.value }) right
    (c.in_ok-value.ensures.rows ∙ ap (keys_by c.args.columns) is ∙ ap (λ (k : KeyColumns). keys_by k (tables c.args.number)) (sym c.in_ok-value.ensures.columns)))
