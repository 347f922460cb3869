use Rattle.std.proofs.Common.{◌∙◌, ap}
use Rattle.row_store.specs.Rows.{Rows}
use Rattle.key_index.specs.Found.{first_with}
use Rattle.key_index.specs.States.{IndexState}
use Rattle.key_index.proofs.EntryLemmas.{keys_rise}
use Rattle.key_index.proofs.FirstLemmas.{first_is_least}
use Rattle.key_index.specs.inner.Entries.{keys_by_id}
use Rattle.key_index.proofs.index.KeyIndex.least_with.Goals as goal

pub returns-clause-first : goal.returns-clause-first
returns-clause-first c =
    let rows_is = ap (λ (index : IndexState). index.rows) c.self.view_is in
    first_is_least c.args.key.now 0 (keys_by_id c.self.inside.pages.entries) c.first_with.result (keys_rise c.self.inside.pages.entries) c.first_with.ensures
    ∙ ap (λ (rows : Rows). first_with rows c.args.key.now) rows_is
