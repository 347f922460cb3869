use Rattle.std.proofs.Common.{List, [], ◌∷◌, ◌++◌, take, get_or, ap, sym, ◌∙◌, subst, arith}
use Rattle.row_store.specs.declared.change.Change.{Change}
use Rattle.row_store.specs.Changes.{AreOld}
use Rattle.row_store.specs.Rows.{Rows}
use Rattle.row_store.specs.States.{TableState}
use Rattle.op_law.specs.Tables.{Tables, contents}
use Rattle.row_changes.specs.Changed.{changed, changed_tables}
use Rattle.row_changes.proofs.LoopLemmas.{all_taken, changed_next, contents_more, fit_at, fit_many}
use Rattle.row_changes.proofs.copies.changed_copies.Goals as goal

pub bounds-changes-which : goal.bounds-changes-which
bounds-changes-which c = omega (arith, c.loop-which-test.true, fit_many c.args.tables.now c.args.changes.now c.requires)

pub changed_copy-requires : goal.changed_copy-requires
changed_copy-requires c =
    let i = c.loop-which.which in
    let table = c.index-tables-which.result in
    let changes = c.index-changes-which.result in
    subst (λ (t : TableState). AreOld t.rows changes) (sym c.index-tables-which.is)
    (subst (λ (cs : List Change). AreOld (get_or c.args.tables.now i table).rows cs) (sym c.index-changes-which.is) (fit_at c.args.tables.now c.args.changes.now i table changes c.loop-which-test.true c.requires))

pub loop-which-preserved : goal.loop-which-preserved
loop-which-preserved c =
    let i = c.loop-which.which in
    let table = c.index-tables-which.result in
    let changes = c.index-changes-which.result in
    let made = c.in_ok-changed_copy.field-0 in
    ap contents c.in_ok-push.ensures.ok ∙ contents_more c.loop-which.made made
    ∙ ap (λ (ts : Tables). ts ++ made.rows ∷ []) c.loop-which.invariant
    ∙ ap (λ (rows : Rows). changed_tables (contents (take i c.args.tables.now)) (take i c.args.changes.now) ++ rows ∷ [])
    (c.in_ok-changed_copy.ensures ∙ ap (λ (t : TableState). changed t.rows changes) c.index-tables-which.is ∙ ap (λ (cs : List Change). changed (get_or c.args.tables.now i table).rows cs) c.index-changes-which.is)
    ∙ sym (changed_next c.args.tables.now c.args.changes.now i table changes c.loop-which-test.true c.requires)

pub returns : goal.returns
returns c = c.loop-which.invariant ∙ all_taken c.args.tables.now c.args.changes.now _ (omega (arith, c.loop-which-test.false)) c.requires
