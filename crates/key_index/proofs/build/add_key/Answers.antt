use Rattle.std.proofs.Common.{Some, ap, subst, ◌∙◌, arith}
use Rattle.row_store.specs.Rows.{row_of}
use Rattle.row_store.specs.inner.FoundRows.{none_above}
use Rattle.row_store.proofs.UndoLaws.{pushed}
use Rattle.key_index.specs.inner.Entries.{keys_by_id, PutsRow}
use Rattle.key_index.proofs.EntryLemmas.{keys_rise}
use Rattle.key_index.proofs.build.add_key.Goals as goal

pub put_key-requires-clause-none : goal.put_key-requires-clause-none
put_key-requires-clause-none c = ap (λ es. row_of (keys_by_id es) c.args.id) c.reserve.ensures.same ∙ none_above (keys_by_id c.args.pages.now.entries) c.args.id c.args.id c.requires.below (omega arith)

pub returns-clause-rows : goal.returns-clause-rows
returns-clause-rows c =
    let old = keys_by_id c.args.pages.now.entries in
    let new = keys_by_id c.put_key.new.pages.entries in
    pushed old new c.args.id c.args.key (keys_rise c.args.pages.now.entries) c.requires.below (keys_rise c.put_key.new.pages.entries)
    (subst (λ es. PutsRow c.args.id (Some c.args.key) (keys_by_id es) new) c.reserve.ensures.same c.put_key.ensures.rows)
