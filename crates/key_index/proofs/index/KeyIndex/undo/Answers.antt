use Rattle.std.proofs.Common.{ap, sym, subst, ◌∙◌}
use Rattle.row_store.specs.Rows.{row_of}
use Rattle.row_store.specs.Changes.{AreOld, after}
use Rattle.row_store.proofs.UndoLaws.{ext}
use Rattle.key_index.specs.Changes.{news, olds}
use Rattle.key_index.specs.States.{IndexState}
use Rattle.key_index.specs.declared.exchange.Way.TheVariants.{Back}
use Rattle.key_index.specs.inner.Entries.{keys_by_id}
use Rattle.key_index.specs.inner.Passes.{all_told}
use Rattle.key_index.proofs.EntryLemmas.{keys_rise}
use Rattle.key_index.proofs.PassLemmas.{are_new, back_again, back_news, back_olds}
use Rattle.key_index.proofs.index.KeyIndex.undo.Goals as goal

pub exchange_all-requires-clause-fit : goal.exchange_all-requires-clause-fit
exchange_all-requires-clause-fit c =
    let rows_is = ap (λ (index : IndexState). index.rows) c.self.view_is in
    let was = c.requires.applied.1 in
    subst (λ rows. AreOld rows (all_told Back c.as_slice-changes.result.now)) (sym rows_is)
    (subst (λ changes. AreOld c.args.self.now.rows (all_told Back changes)) (sym c.as_slice-changes.ensures.all)
    (are_new c.requires.applied.0 c.args.self.now.rows c.args.changes.now c.as_slice-changes.ensures.rise was.changed.rows))

pub exchange_all-requires-clause-ready : goal.exchange_all-requires-clause-ready
exchange_all-requires-clause-ready c =
    ap (λ (index : IndexState). index.ready) c.self.view_is ∙ c.requires.kept ∙ ap olds (sym c.as_slice-changes.ensures.all) ∙ sym (back_news c.as_slice-changes.result.now)

pub returns-clause-restores : goal.returns-clause-restores
returns-clause-restores c = λ before was.
    let rows_is = ap (λ (index : IndexState). index.rows) c.self.view_is in
    ext 0 (keys_by_id c.exchange_all.new.pages.entries) before (keys_rise c.exchange_all.new.pages.entries) was.rises
    (λ id. c.exchange_all.ensures.rows id
    ∙ ap (λ changes. after (all_told Back changes) id (row_of (keys_by_id c.self.inside.pages.entries) id)) c.as_slice-changes.ensures.all
    ∙ ap (λ rows. after (all_told Back c.args.changes.now) id (row_of rows id)) rows_is
    ∙ ap (after (all_told Back c.args.changes.now) id) (was.changed.rows id)
    ∙ back_again before c.args.changes.now id was.fit)

pub returns-clause-ready : goal.returns-clause-ready
returns-clause-ready c = c.exchange_all.ensures.ready ∙ back_olds c.as_slice-changes.result.now ∙ ap news c.as_slice-changes.ensures.all
