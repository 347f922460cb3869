use Rattle.std.proofs.Common.{ℕ, List, ap, sym, subst, ◌∙◌}
use Rattle.version_graph.specs.Edges.{Drawn}
use Rattle.version_graph.specs.Forest.{forest}
use Rattle.version_graph.proofs.WalkLaws.{is_forest}
use Rattle.op_law.specs.Local.{rows_only}
use Rattle.row_store.specs.Rows.{Rows}
use Rattle.version_model.specs.Kept.{rows_now}
use Rattle.db_state.specs.Fields.{state_for}
use Rattle.db_state.specs.Parts.{AreLocalAt, MaySee, passes}
use Rattle.db_state.proofs.PartLaws.{rows_within}
use Rattle.db_state.proofs.StoredLemmas.{unstored_rows}
use Rattle.db_state.proofs.WayLemmas.{way_covers, way_covers_itself, way_listed, within_way}
use Rattle.db_state.proofs.table.read_along_way.Goals as goal

pub read_over-requires-clause-covers : goal.read_over-requires-clause-covers
read_over-requires-clause-covers g c =
    let p = c.args.db.now in
    let kept = c.graph.ensures.kept in
    let listed = way_listed p.graph.edges _ p.layout.operators _ c.args.table c.in_ok-operators.operators c.as_slice-2.result.now (ap (λ (d : Drawn _). d.edges) c.graph.ensures.graph) (ap (λ l. l.operators) c.layout.ensures) c.as_slice-2.ensures c.in_ok-operators.ensures.way in
    way_covers_itself (forest p.graph.edges) (is_forest p.graph.edges kept.graph.edges) p.layout.operators kept.valid c.args.table c.as_slice-2.result.now (λ n. (listed n).0) (λ n. (listed n).1)

pub read_over-requires-clause-may : goal.read_over-requires-clause-may
read_over-requires-clause-may g c =
    let p = c.args.db.now in
    let meaning = g.O.Operator.meaning in
    let s = state_for meaning p in
    subst (λ (ns : List ℕ). MaySee meaning p.graph.edges s ns c.sight_over-wider.result) (c.as_slice.ensures ∙ sym c.as_slice-2.ensures)
    (subst (λ (d : Drawn _). MaySee meaning d.edges s c.as_slice.result.now c.sight_over-wider.result) c.graph-2.ensures.graph (c.sight_over-wider.ensures.may s))

pub returns-clause-seen : goal.returns-clause-seen
returns-clause-seen g c =
    let p = c.args.db.now in
    let kept = c.graph.ensures.kept in
    let listed = way_listed p.graph.edges _ p.layout.operators _ c.args.table c.in_ok-operators.operators c.as_slice-2.result.now (ap (λ (d : Drawn _). d.edges) c.graph.ensures.graph) (ap (λ l. l.operators) c.layout.ensures) c.as_slice-2.ensures c.in_ok-operators.ensures.way in
    let covered = way_covers (forest p.graph.edges) (is_forest p.graph.edges kept.graph.edges) p.layout.operators kept.valid c.args.table c.as_slice-2.result.now (λ n. (listed n).1) in
    let P = passes c.args.sight in
    let Q = passes c.sight_over-wider.result in
    let got = c.take_latest.ensures ∙ sym (unstored_rows p.stored c.in_ok-read.read c.args.table c.requires.unstored) in
    let read = c.in_ok-read.ensures.read c.args.table c.requires.lives covered in
    let table = (state_for g.O.Operator.meaning p).tables c.args.table in
    let wider = c.sight_over-wider.ensures.seen in
    ap (λ (rows : Rows). rows_only P rows) got
    ∙ sym (rows_within P Q wider (rows_now p.stored c.in_ok-read.read c.args.table))
    ∙ ap (λ (rows : Rows). rows_only P rows) read
    ∙ rows_within P Q wider table

pub returns-clause-steps : goal.returns-clause-steps
returns-clause-steps g c =
    let p = c.args.db.now in
    let kept = c.graph.ensures.kept in
    let meaning = g.O.Operator.meaning in
    let listed = way_listed p.graph.edges _ p.layout.operators _ c.args.table c.in_ok-operators.operators c.as_slice-2.result.now (ap (λ (d : Drawn _). d.edges) c.graph.ensures.graph) (ap (λ l. l.operators) c.layout.ensures) c.as_slice-2.ensures c.in_ok-operators.ensures.way in
    let same : List ℕ → Type 0 = λ ns. AreLocalAt meaning p.graph.edges ns in
    within_way meaning p.graph.edges p.layout.operators c.args.table c.as_slice-2.result.now c.args.sight c.sight_over-wider.result c.args.steps.now c.read_over.new.steps listed
    (λ mine. c.sight_over-wider.ensures.same (subst (λ (d : Drawn _). AreLocalAt meaning d.edges c.as_slice.result.now) (sym c.graph-2.ensures.graph) (subst same (c.as_slice-2.ensures ∙ sym c.as_slice.ensures) mine))) c.read_over.ensures.steps

pub returns-in_err-read-clause-steps : goal.returns-in_err-read-clause-steps
returns-in_err-read-clause-steps g c =
    let p = c.args.db.now in
    let kept = c.graph.ensures.kept in
    let meaning = g.O.Operator.meaning in
    let listed = way_listed p.graph.edges _ p.layout.operators _ c.args.table c.in_ok-operators.operators c.as_slice-2.result.now (ap (λ (d : Drawn _). d.edges) c.graph.ensures.graph) (ap (λ l. l.operators) c.layout.ensures) c.as_slice-2.ensures c.in_ok-operators.ensures.way in
    let same : List ℕ → Type 0 = λ ns. AreLocalAt meaning p.graph.edges ns in
    within_way meaning p.graph.edges p.layout.operators c.args.table c.as_slice-2.result.now c.args.sight c.sight_over-wider.result c.args.steps.now c.read_over.new.steps listed
    (λ mine. c.sight_over-wider.ensures.same (subst (λ (d : Drawn _). AreLocalAt meaning d.edges c.as_slice.result.now) (sym c.graph-2.ensures.graph) (subst same (c.as_slice-2.ensures ∙ sym c.as_slice.ensures) mine))) c.read_over.ensures.steps
