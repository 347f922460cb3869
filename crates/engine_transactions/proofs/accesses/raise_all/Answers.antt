-- One more is counted.
use Rattle.std.proofs.Common.{ℕ, List, get_or, take, sym, ap, ◌∙◌}
use Rattle.std.proofs.lemmas.List.{take_more}
use Rattle.layout_planner.specs.declared.planning.TableCount.{TableCount}
use Rattle.engine_sessions.specs.Accesses.{raised}
use Rattle.engine_transactions.specs.Act.{raised_all}
use Rattle.engine_transactions.proofs.AccessLemmas.{raised_more}
use Rattle.engine_transactions.proofs.accesses.raise_all.Goals as goal

pub loop-table-preserved : goal.loop-table-preserved
loop-table-preserved c =
    let all = c.args.tables.now in
    let at = c.loop-table.table-index in
    let one = get_or all at 0 in
    c.in_ok-made-2.ensures
    ∙ ap (λ (l : List TableCount). raised l one) (c.as_slice.ensures ∙ c.loop-table.invariant)
    ∙ sym (raised_more c.args.counts.now (take at all) one)
    ∙ ap (λ (l : List ℕ). raised_all c.args.counts.now l) (sym (take_more all at 0 c.loop-table-test.true))
