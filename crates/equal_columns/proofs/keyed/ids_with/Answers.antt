use Rattle.std.proofs.Common.{ℕ, List, ◌++◌, ap, sym, ◌∙◌, subst, append-nil}
use Rattle.key_index.specs.Found.{IsLeastFrom}
use Rattle.table_keys.specs.States.{behind}
use Rattle.equal_columns.proofs.KeyedLemmas.{found_more, none_found}
use Rattle.equal_columns.proofs.keyed.ids_with.Goals as goal

pub loop-next-preserved : goal.loop-next-preserved
loop-next-preserved c rise =
    let rows = c.args.keys.now.rows in
    let key = c.args.key.now in
    let from = behind c.loop-next.after in
    let found = subst (IsLeastFrom rows key from) c.in-Some.is c.least_with.ensures in
    rw c.in_ok-push.ensures.ok (found_more key rows from c.in-Some.next c.loop-next.ids rise found (c.loop-next.invariant rise))

pub returns : goal.returns
returns c rise =
    let rows = c.args.keys.now.rows in
    let key = c.args.key.now in
    let from = behind c.loop-next.after in
    let found = subst (IsLeastFrom rows key from) c.in_default.is c.least_with.ensures in
    sym (append-nil c.loop-next.ids) ∙ ap (λ (left : List ℕ). c.loop-next.ids ++ left) (sym (none_found key rows 0 from rise found)) ∙ c.loop-next.invariant rise
