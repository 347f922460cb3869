use Rattle.std.proofs.Common.{ap, sym, subst, ◌∙◌}
use Rattle.row_store.specs.Rows.{RiseFrom, row_of}
use Rattle.row_store.specs.Changes.{AreOld, after}
use Rattle.key_index.specs.Changes.{news, olds}
use Rattle.key_index.specs.States.{IndexState}
use Rattle.key_index.specs.declared.exchange.Way.TheVariants.{Forth}
use Rattle.key_index.specs.inner.Entries.{keys_by_id}
use Rattle.key_index.specs.inner.Passes.{all_told}
use Rattle.key_index.proofs.EntryLemmas.{keys_rise}
use Rattle.key_index.proofs.PassLemmas.{all_forth}
use Rattle.key_index.proofs.index.KeyIndex.apply.Goals as goal

pub exchange_all-requires-clause-fit : goal.exchange_all-requires-clause-fit
exchange_all-requires-clause-fit c =
    let told_is = all_forth c.as_slice-changes.result.now ∙ c.as_slice-changes.ensures.all in
    let rows_is = ap (λ (index : IndexState). index.rows) c.self.view_is in
    subst (λ rows. AreOld rows (all_told Forth c.as_slice-changes.result.now)) (sym rows_is) (subst (AreOld c.args.self.now.rows) (sym told_is) c.requires.fit)

pub exchange_all-requires-clause-ready : goal.exchange_all-requires-clause-ready
exchange_all-requires-clause-ready c =
    ap (λ (index : IndexState). index.ready) c.self.view_is ∙ c.requires.ready ∙ ap news (sym (all_forth c.as_slice-changes.result.now ∙ c.as_slice-changes.ensures.all))

pub returns-clause-changed : goal.returns-clause-changed
returns-clause-changed c =
    let told_is = all_forth c.as_slice-changes.result.now ∙ c.as_slice-changes.ensures.all in
    let rows_is = ap (λ (index : IndexState). index.rows) c.self.view_is in
    record {
      rises = subst (RiseFrom 0) rows_is (keys_rise c.self.inside.pages.entries);
      fit = c.requires.fit;
      changed = record {
        rises = keys_rise c.exchange_all.new.pages.entries;
        rows = λ id.
            c.exchange_all.ensures.rows id
            ∙ ap (λ changes. after changes id (row_of (keys_by_id c.self.inside.pages.entries) id)) told_is
            ∙ ap (λ rows. after c.args.changes.now id (row_of rows id)) rows_is;
      };
    }

pub returns-clause-kept : goal.returns-clause-kept
returns-clause-kept c = c.exchange_all.ensures.ready ∙ ap olds (all_forth c.as_slice-changes.result.now ∙ c.as_slice-changes.ensures.all)
