use Rattle.std.proofs.Common.{◌≡◌, ◌∷◌, [], ◌++◌, sym, ap, subst, ◌∙◌}
use Rattle.ordered_pages.specs.Entries.{AreBefore}
use Rattle.row_store.specs.inner.Entries.{EntryState, id_order}
use Rattle.row_store.proofs.EntryLemmas.{come_before}
use Rattle.row_store.proofs.rows.push_row.Goals as goal

pub push-requires : goal.push-requires
push-requires c =
    let own : c.args.id ≡ c.new.result.0 = sym (ap (λ (e : EntryState). e.0) c.new.ensures) in
    record {
      behind = subst (AreBefore id_order c.args.rows.now.entries) own (come_before c.args.rows.now.entries c.args.id c.requires.below);
      room = c.requires.room;
    }

pub returns-clause-rows : goal.returns-clause-rows
returns-clause-rows c = c.push.ensures.entries ∙ ap (λ (e : EntryState). c.args.rows.now.entries ++ e ∷ []) c.new.ensures
