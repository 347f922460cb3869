use Rattle.std.proofs.Common.{◌≡◌, ◌+◌, List, [], take, sym, subst}
use Rattle.row_changes.specs.declared.change.SideChanges.{SideChanges}
use Rattle.version_model.specs.declared.numbered.Numbered.{Numbered}
use Rattle.write_plans.specs.Alone.{AreNoChanges}
use Rattle.write_plans.proofs.ItemLemmas.{one_more}
use Rattle.write_plans.proofs.alone.no_changes.Goals as goal

pub loop-number-preserved : goal.loop-number-preserved
loop-number-preserved c =
    let i = c.loop-number.number-index in
    let inv = c.loop-number.invariant in
    let side : SideChanges = record { tables = c.new.result } in
    let more = one_more (λ n (side : SideChanges). side.tables ≡ []) c.args.numbers.now i c.loop-number-test.true c.loop-number.items side (inv.listed, inv.values) c.new.ensures in
    subst (λ (l : List (Numbered SideChanges)). AreNoChanges (take (i + 1) c.args.numbers.now) l) (sym c.in_ok-push.ensures.ok) (record { listed = more.0; values = more.1 })
