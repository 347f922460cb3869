use Rattle.std.proofs.Common.{List, ℕ, ap, sym, ◌∙◌, subst}
use Rattle.operator_changes.specs.Calls.{ahead, toward}
use Rattle.row_changes.specs.Changed.{TableChanges}
use Rattle.operator_changes.specs.Footprint.{IsFootprint}
use Rattle.row_changes.specs.Touched.{touched}
use Rattle.operator_changes.proofs.FootLemmas.{local_of, toward_laws}
use Rattle.operator_changes.proofs.LocalLemmas.{local_footprint}
use Rattle.operator_changes.proofs.local.changes_over.Goals as goal

pub changes_by-requires-clause-foot : goal.changes_by-requires-clause-foot
changes_by-requires-clause-foot g c =
    let b = c.args.backward in
    let o = g.O.Operator.meaning c.args.operator.now in
    let m = toward b o in
    let laws = toward_laws b o (g.met.O.Operator.laws c.args.operator.now) in
    let here = local_of b o (g.met.O.Operator.laws c.args.operator.now) c.requires.local in
    let near = c.args.near.now.tables in
    let p = ahead b (g.V.PairRead.pair c.args.old.now) in
    let n = c.args.ids.now.next in
    let ids = c.as_slice-2.ensures ∙ c.in_ok-touched.ensures.value ∙ ap (λ (cs : TableChanges). touched cs) c.as_slice.ensures in
    subst (λ (l : List ℕ). IsFootprint m near p n l) (sym ids) (local_footprint m laws here near p n c.requires.may)
