use Rattle.std.proofs.Common.{ap, ◌∙◌}
use Rattle.row_store.proofs.EntryLemmas.{row_in, row_is}
use Rattle.row_store.proofs.rows.get_row.Goals as goal

pub returns : goal.returns
returns c = c.row_found.ensures ∙ ap row_in c.get.ensures ∙ row_is c.args.rows.now.entries c.args.id
