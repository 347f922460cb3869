use Rattle.std.proofs.Common.{length, ap, sym, ◌∙◌}
use Rattle.std.proofs.lemmas.List.{length-map}
use Rattle.row_store.specs.States.{TableState}
use Rattle.op_law.specs.Tables.{Tables}
use Rattle.op_law.specs.Calls.{seen}
use Rattle.row_changes.specs.Changed.{changed_tables}
use Rattle.version_model.specs.Steps.{directed}
use Rattle.version_model.specs.Calls.{seen_from}
use Rattle.version_model.proofs.RunLaws.{way_laws}
use Rattle.changes_walk.proofs.StepLemmas.{far_even}
use Rattle.changes_walk.proofs.whole.whole_changes.Goals as goal

pub differences-requires : goal.differences-requires
differences-requires g c =
    let b = c.args.backward in
    let meaning = g.O.Operator.meaning c.args.operator.now in
    let laws = way_laws b meaning (g.met.O.Operator.laws c.args.operator.now) in
    let p = seen_from b (seen c.args.old.now) in
    let old = sym (length-map c.tables.result.now (λ (t : TableState). t.rows)) ∙ ap (λ (ts : Tables). length ts) (c.tables.ensures.all ∙ c.far_of.ensures) in
    let new = ap (λ (ts : Tables). length ts) (sym c.tables-2.ensures.all) ∙ length-map c.tables-2.result.now (λ (t : TableState). t.rows) in
    let even = far_even (directed b meaning) laws (changed_tables p.source c.args.near.now.tables) c.in_ok-new.new _ p c.args.ids.now.next c.in_ok-new.ensures c.in_ok-side.ensures.1.0 c.requires.may in
    old ∙ even ∙ new
