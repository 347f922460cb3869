use Rattle.std.proofs.Common.{ap, ◌∙◌}
use Rattle.row_store.proofs.EntryLemmas.{row_in, row_is}
use Rattle.row_store.proofs.rows.find_row.Goals as goal

pub returns-clause-value : goal.returns-clause-value
returns-clause-value g c = c.row_found.ensures ∙ ap row_in c.find.ensures.value ∙ row_is c.args.rows.now.entries c.args.id
