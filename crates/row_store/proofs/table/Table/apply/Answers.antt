use Rattle.std.proofs.Common.{ap, subst, ◌∙◌}
use Rattle.row_store.specs.Rows.{Rows, RiseFrom, row_of}
use Rattle.row_store.specs.States.{TableState}
use Rattle.row_store.specs.Changes.{after, reverse_of}
use Rattle.row_store.proofs.UndoLaws.{after_all}
use Rattle.row_store.proofs.table.Table.apply.Goals as goal

pub returns-clause-applied : goal.returns-clause-applied
returns-clause-applied c =
    let same = ap (λ (table : TableState). table.rows) c.self.view_is in
    record {
      rises = subst (RiseFrom 0) same c.self.invariant.0;
      fit = c.requires.fit;
      changed = record {
        rises = c.exchange.ensures.rises;
        rows = λ id.
            c.exchange.ensures.rows id ∙ after_all c.args.changes.now id (row_of c.self.inside.pages.entries id)
            ∙ ap (λ (rows : Rows). after c.args.changes.now id (row_of rows id)) same;
      };
      reversed = c.exchange.ensures.changes ∙ ap (λ (rows : Rows). reverse_of rows c.args.changes.now) same;
    }
