use Rattle.std.proofs.Common.{◌∙◌, sym}
use Rattle.row_store.specs.Rows.{row_of}
use Rattle.pair_rows.proofs.ChangedLemmas.{before_is}
use Rattle.pair_rows.proofs.changed.is_still_there.Goals as goal

pub returns-in-Some : goal.returns-in-Some
returns-in-Some c = λ same. before_is (row_of c.args.old.now.rows c.args.id) c.in-Some.row.now (sym c.is_as_before.ensures ∙ same) ∙ c.in-Some.ensures.value
