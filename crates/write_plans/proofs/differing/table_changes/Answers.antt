use Rattle.std.proofs.Common.{◌≡◌, ◌+◌, List, take, sym, subst}
use Rattle.row_store.specs.declared.change.Change.{Change}
use Rattle.changes_walk.specs.Changing.{latest_changes}
use Rattle.version_model.specs.declared.numbered.Numbered.{Numbered}
use Rattle.write_plans.specs.Calls.{AreChangesNow}
use Rattle.write_plans.proofs.ItemLemmas.{one_more}
use Rattle.write_plans.proofs.differing.table_changes.Goals as goal

pub loop-number-preserved : goal.loop-number-preserved
loop-number-preserved c =
    let i = c.loop-number.number-index in
    let inv = c.loop-number.invariant in
    let more = one_more (λ n (cs : List Change). cs ≡ latest_changes c.args.made.now n) c.args.numbers.now i c.loop-number-test.true c.loop-number.changes c.in_ok-value.value (inv.listed, inv.values) c.in_ok-value.ensures in
    subst (λ (l : List (Numbered (List Change))). AreChangesNow c.args.made.now (take (i + 1) c.args.numbers.now) l) (sym c.in_ok-push.ensures.ok) (record { listed = more.0; values = more.1 })
