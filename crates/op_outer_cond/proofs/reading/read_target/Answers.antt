use Rattle.std.proofs.Common.{[], ◌∷◌, ap, ◌∙◌}
use Rattle.row_store.specs.Rows.{Rows}
use Rattle.id_memory.specs.Pairs.{Pairs}
use Rattle.pair_rows.specs.Shown.{Joining}
use Rattle.pair_rows.specs.Sides.{table_at}
use Rattle.outer_law.specs.OuterOn.{shown}
use Rattle.op_outer_cond.specs.Outerings.{joining}
use Rattle.op_outer_cond.proofs.reading.read_target.Goals as goal

pub returns : goal.returns
returns c =
    let j = joining c.args.outer.now in
    let s = c.table_in-s.result.now.rows in
    let t = c.table_in-t.result.now.rows in
    let es = c.as_slice.result.now in
    c.in_ok-one.ensures
    ∙ ap (λ (rows : Rows). rows ∷ []) (c.in_ok-table.ensures
    ∙ ap (λ (k : Joining). shown k s t es) c.outer_of-join.ensures
    ∙ ap (λ (rows : Rows). shown j rows t es) c.table_in-s.ensures
    ∙ ap (λ (rows : Rows). shown j (table_at 0 c.args.source.now) rows es) c.table_in-t.ensures
    ∙ ap (λ (all : Pairs). shown j (table_at 0 c.args.source.now) (table_at 1 c.args.source.now) all) (c.as_slice.ensures ∙ c.in_ok-entries.ensures.all))
