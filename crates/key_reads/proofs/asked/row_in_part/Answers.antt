use Rattle.std.specs.Prelude.{IfOk}
use Rattle.std.proofs.Common.{◌≡◌, List, [], Option, subst}
use Rattle.par_base.specs.declared.value.Value.{Value}
use Rattle.version_graph.specs.Forest.{forest}
use Rattle.version_graph.proofs.WalkLaws.{is_forest}
use Rattle.op_law.specs.Identifiers.{has_id}
use Rattle.version_model.specs.Kept.{rows_now}
use Rattle.row_store.specs.Rows.{row_of}
use Rattle.db_state.specs.Fields.{state_for}
use Rattle.db_state.proofs.WayLemmas.{way_covers, way_covers_itself}
use Rattle.key_reads.proofs.AskedLemmas.{row_read}
use Rattle.key_reads.proofs.asked.row_in_part.Goals as goal

pub read_over-requires-clause-covers : goal.read_over-requires-clause-covers
read_over-requires-clause-covers g c =
    let d = c.args.db.now in
    let kept = c.graph-graph.ensures.kept in
    way_covers_itself (forest d.graph.edges) (is_forest d.graph.edges kept.graph.edges) d.layout.operators kept.valid c.args.asked.table c.args.operators.now (λ n. (c.requires.way.way n).0) (λ n. (c.requires.way.way n).1)

pub returns : goal.returns
returns g c =
    let d = c.args.db.now in
    let kept = c.graph-graph.ensures.kept in
    let asked = c.args.asked in
    let covers = way_covers (forest d.graph.edges) (is_forest d.graph.edges kept.graph.edges) d.layout.operators kept.valid asked.table c.args.operators.now (λ n. (c.requires.way.way n).1) in
    let same = c.in_ok-read.ensures.read asked.table c.requires.way.lives covers in
    let row = row_read (has_id c.args.ids.now) d.stored c.in_ok-read.read asked.table asked.id ((state_for g.O.Operator.meaning d).tables asked.table) c.requires.way.unstored c.requires.holds same in
    subst (λ (wanted : Option (List Value)). IfOk c.row_in.result (λ row. row ≡ wanted)) row
    (subst (λ l. IfOk c.row_in.result (λ row. row ≡ row_of (rows_now [] l asked.table) asked.id)) c.as_slice.ensures c.row_in.ensures)
