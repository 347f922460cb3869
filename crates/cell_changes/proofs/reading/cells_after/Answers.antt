use Rattle.std.proofs.Common.{ℕ, ◌<◌, ◌∷◌, [], ◌++◌, Option, List, take, ap, sym, ◌∙◌, subst}
use Rattle.par_base.specs.declared.value.Value.{Value}
use Rattle.row_store.specs.declared.change.Change.{Change}
use Rattle.row_store.specs.Changes.{after}
use Rattle.row_store.specs.Rows.{row_of}
use Rattle.op_law.specs.Meaning.{PairState}
use Rattle.op_law.specs.Tables.{Tables}
use Rattle.op_rows.specs.Cells.{Cells, cells_at}
use Rattle.operator_changes.specs.Pairs.{side_at, table_at}
use Rattle.row_changes.specs.Changed.{changed_tables}
use Rattle.cell_changes.proofs.ReadingLemmas.{after_all, after_next}
use Rattle.cell_changes.proofs.reading.cells_after.Goals as goal

pub loop-which-preserved : goal.loop-which-preserved
loop-which-preserved g c =
    let i = c.loop-which.which in
    let id = c.args.id in
    let cs = c.args.changes.now in
    let one = c.index-changes-which.result in
    let ts = side_at c.args.target (g.V.PairRead.pair c.args.old.now) in
    let before = c.loop-which.invariant in
    record {
      cells = c.in_ok-cells.ensures ∙ ap (λ (l : Cells). l ++ c.in_ok-cell.cell ∷ []) before.cells
          ∙ ap (λ (row : Option (List Value)). cells_at (changed_tables (take i ts) (take i cs)) id ++ row ∷ [])
          (c.in_ok-cell.ensures.cell ∙ ap (λ (p : PairState). after one id (row_of (table_at (side_at c.args.target p) i) id)) before.same
          ∙ ap (λ (l : List Change). after l id (row_of (table_at ts i) id)) c.index-changes-which.is)
          ∙ sym (after_next ts cs id i one c.loop-which-test.true c.requires.fit c.requires.rise);
      same = c.in_ok-cell.ensures.same ∙ before.same;
    }

pub returns-clause-cells : goal.returns-clause-cells
returns-clause-cells g c =
    let ts = side_at c.args.target (g.V.PairRead.pair c.args.old.now) in
    c.loop-which.invariant.cells ∙ ap (λ (us : Tables). cells_at us c.args.id) (after_all ts c.args.changes.now c.loop-which.which c.loop-which-test.false c.requires.fit)
