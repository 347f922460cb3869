use Rattle.std.proofs.Common.{List, length, ap, sym, ◌∙◌, subst}
use Rattle.std.proofs.lemmas.List.{length-map}
use Rattle.row_store.specs.States.{TableState}
use Rattle.op_law.specs.Calls.{tables_of}
use Rattle.op_law.specs.Meaning.{PairState}
use Rattle.op_law.specs.Tables.{Tables, contents}
use Rattle.row_changes.specs.Differences.{AreDifferences}
use Rattle.version_model.specs.Calls.{crossing_of}
use Rattle.version_model.specs.Steps.{directed}
use Rattle.changes_walk.proofs.AuxiliaryLemmas.{as_many, fit_read, made_read, some_read}
use Rattle.changes_walk.proofs.auxiliary.aux_whole.Goals as goal

pub pair_over-requires : goal.pair_over-requires
pair_over-requires g c =
    fit_read g.O.Operator.meaning (g.D.StateRead.state c.args.rows.now) c.args.made.now (crossing_of c.args.over.now) c.requires.may _ c.in_ok-old.ensures

pub aux_over-requires : goal.aux_over-requires
aux_over-requires g c =
    some_read g.O.Operator.meaning (g.D.StateRead.state c.args.rows.now) c.args.made.now (crossing_of c.args.over.now) c.requires.may _ _ c.in_ok-old.ensures c.in_ok-new.ensures

pub differences-requires : goal.differences-requires
differences-requires g c =
    let meaning = g.O.Operator.meaning in
    let p = crossing_of c.args.over.now in
    let over = directed p.backward (meaning p.operator) in
    let is = made_read meaning (g.D.StateRead.state c.args.rows.now) c.args.made.now p c.requires.may _ _ c.in_ok-old.ensures c.in_ok-new.ensures in
    let now = c.in_ok-now.ensures ∙ ap (λ (x : PairState). over.aux_at_source x) is in
    ap (λ (ts : List TableState). length ts) c.as_slice.ensures ∙ sym (length-map c.args.aux.now.tables (λ (t : TableState). t.rows)) ∙ ap (λ (ts : Tables). length ts) c.requires.aux
    ∙ as_many meaning (g.D.StateRead.state c.args.rows.now) c.args.made.now p c.requires.may (g.met.O.Operator.laws p.operator)
    ∙ ap (λ (ts : Tables). length ts) (sym now) ∙ length-map c.in_ok-now.now.tables (λ (t : TableState). t.rows) ∙ ap (λ (ts : List TableState). length ts) (sym c.as_slice-2.ensures)

pub returns : goal.returns
returns g c =
    let meaning = g.O.Operator.meaning in
    let p = crossing_of c.args.over.now in
    let over = directed p.backward (meaning p.operator) in
    let is = made_read meaning (g.D.StateRead.state c.args.rows.now) c.args.made.now p c.requires.may _ _ c.in_ok-old.ensures c.in_ok-new.ensures in
    let now = c.in_ok-now.ensures ∙ ap (λ (x : PairState). over.aux_at_source x) is in
    let cs = c.in_ok-differences.field-0.tables in
    let first = subst (λ (ts : Tables). AreDifferences ts (contents c.as_slice-2.result.now) cs) (ap contents c.as_slice.ensures) c.in_ok-differences.ensures in
    subst (λ (ts : Tables). AreDifferences (tables_of c.args.aux.now) ts cs) (ap contents c.as_slice-2.ensures ∙ now) first
