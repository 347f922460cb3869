use Rattle.std.proofs.Common.{◌||◌, List, ℕ, ◌+◌, ◌∷◌, [], get_or, take, Bool, sym, subst}
use Rattle.std.proofs.lemmas.List.{take_more}
use Rattle.write_plans.specs.Trees.{Adds}
use Rattle.write_plans.proofs.SpreadLemmas.{adds_more}
use Rattle.write_plans.proofs.tree.add_tables.Goals as goal

pub loop-table-preserved : goal.loop-table-preserved
loop-table-preserved c =
    let some = c.args.some.now in
    let i = c.loop-table.table-index in
    let more = c.loop-table.more || c.in_ok-added.added in
    subst (λ (b : Bool). Adds (take (i + 1) some) c.args.tables.now c.add_table.new.tables b) (sym c.either-more.ensures)
    (subst (λ (l : List ℕ). Adds l c.args.tables.now c.add_table.new.tables more) (sym (take_more some i 0 c.loop-table-test.true))
    (adds_more (take i some) (get_or some i 0 ∷ []) c.args.tables.now c.loop-table.tables c.add_table.new.tables c.loop-table.more c.in_ok-added.added c.loop-table.invariant c.in_ok-added.ensures))
