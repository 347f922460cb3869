use Rattle.std.proofs.Common.{◌≡◌, ◌++◌, ◌∷◌, ap, sym, subst, ◌∙◌}
use Rattle.row_store.specs.Rows.{Rows, RiseFrom}
use Rattle.key_index.proofs.BuildLemmas.{below_first}
use Rattle.key_index.proofs.index.KeyIndex.of_rows.Goals as goal

pub push-requires : goal.push-requires
push-requires c =
    let row = c.in-Some.row.now in
    let parts : c.loop-row.index.rows ++ row ∷ c.next.new.self ≡ c.args.table.now.rows =
    ap (λ (rest : Rows). c.loop-row.index.rows ++ rest) (sym c.in-Some.ensures.steps) ∙ c.loop-row.invariant in
    below_first 0 c.loop-row.index.rows c.next.new.self row (subst (RiseFrom 0) (sym parts) c.iter-row-items.ensures.rise)
