use Rattle.std.proofs.Common.{[], ◌∷◌, ◌++◌, ap, ◌∙◌}
use Rattle.op_law.specs.Tables.{Tables, contents}
use Rattle.row_store.specs.Rows.{Rows}
use Rattle.op_rows.specs.inner.Passes.{without_rows}
use Rattle.op_rows.proofs.PassLemmas.{contents_more, more_without_rows}
use Rattle.op_rows.proofs.pass.empty_tables.Goals as goal

pub loop-preserved : goal.loop-preserved
loop-preserved c =
    let rows = c.new.ensures in
    ap contents c.in_ok-push.ensures.items ∙ contents_more c.loop.made.items c.new.result ∙ ap (λ (ts : Tables). ts ++ c.new.result.rows ∷ []) c.loop.invariant
    ∙ ap (λ (t : Rows). without_rows c.loop.counter ++ t ∷ []) rows ∙ more_without_rows c.loop.counter
