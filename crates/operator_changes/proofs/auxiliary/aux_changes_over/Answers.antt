use Rattle.std.proofs.Common.{List, ℕ, length, ap, sym, ◌∙◌, subst}
use Rattle.op_law.specs.Calls.{seen, tables_of}
use Rattle.op_law.specs.Meaning.{PairState}
use Rattle.op_law.specs.Premises.{SomePair}
use Rattle.op_law.specs.Tables.{Tables, contents}
use Rattle.row_changes.specs.Differences.{AreDifferences}
use Rattle.row_changes.specs.Picked.{PicksEach}
use Rattle.operator_changes.specs.AuxCalls.{changed_pair}
use Rattle.operator_changes.specs.Calls.{ahead, toward}
use Rattle.operator_changes.proofs.AuxLemmas.{aux_is, aux_many, far_fits, near_fits, part_pair, part_steps}
use Rattle.operator_changes.proofs.FootLemmas.{local_of, toward_laws, toward_local}
use Rattle.operator_changes.proofs.LoopLemmas.{contents_long}
use Rattle.operator_changes.proofs.auxiliary.aux_changes_over.Goals as goal

pub read_changed-requires-clause-near : goal.read_changed-requires-clause-near
read_changed-requires-clause-near g c =
    let b = c.args.backward in
    let o = g.O.Operator.meaning c.args.operator.now in
    let own = g.met.O.Operator.laws c.args.operator.now in
    let near = c.args.near.now.tables in
    let far = c.args.far.now.tables in
    let p = ahead b (g.V.PairRead.pair c.args.old.now) in
    near_fits (toward b o) (toward_laws b o own) (local_of b o own c.requires.local) near far p c.requires.may c.as_slice.result.now (c.as_slice.ensures ∙ c.in_ok-ids.ensures.value)

pub read_changed-requires-clause-far : goal.read_changed-requires-clause-far
read_changed-requires-clause-far g c =
    let b = c.args.backward in
    let o = g.O.Operator.meaning c.args.operator.now in
    let own = g.met.O.Operator.laws c.args.operator.now in
    let near = c.args.near.now.tables in
    let far = c.args.far.now.tables in
    let p = ahead b (g.V.PairRead.pair c.args.old.now) in
    far_fits (toward b o) (toward_laws b o own) (local_of b o own c.requires.local) near far p c.requires.may c.as_slice.result.now (c.as_slice.ensures ∙ c.in_ok-ids.ensures.value)

pub aux_over-requires : goal.aux_over-requires
aux_over-requires g c =
    let b = c.args.backward in
    let o = g.O.Operator.meaning c.args.operator.now in
    let own = g.met.O.Operator.laws c.args.operator.now in
    let near = c.args.near.now.tables in
    let far = c.args.far.now.tables in
    let p = ahead b (g.V.PairRead.pair c.args.old.now) in
    subst (λ (z : PairState). SomePair (toward b o) z) (sym c.in_ok-new.ensures.changed)
    (part_pair (toward b o) (toward_laws b o own) (local_of b o own c.requires.local) near far p c.requires.may c.as_slice.result.now (c.as_slice.ensures ∙ c.in_ok-ids.ensures.value))

pub returns-in_err-made-clause-steps : goal.returns-in_err-made-clause-steps
returns-in_err-made-clause-steps g c =
    let b = c.args.backward in
    let o = g.O.Operator.meaning c.args.operator.now in
    let own = g.met.O.Operator.laws c.args.operator.now in
    let near = c.args.near.now.tables in
    let far = c.args.far.now.tables in
    let p = ahead b (g.V.PairRead.pair c.args.old.now) in
    let ids = c.as_slice.result.now in
    let listed = c.as_slice.ensures ∙ c.in_ok-ids.ensures.value in
    part_steps (toward b o) (toward_laws b o own) (local_of b o own c.requires.local) near far p c.requires.may ids listed (ahead b (seen c.in_ok-new.new)) c.in_ok-new.ensures.changed
    (toward_local b o c.requires.local) c.args.steps.now c.aux_over.new.steps c.in_err-made.ensures.steps

pub returns-in_err-differences_at-clause-steps : goal.returns-in_err-differences_at-clause-steps
returns-in_err-differences_at-clause-steps g c =
    let b = c.args.backward in
    let o = g.O.Operator.meaning c.args.operator.now in
    let own = g.met.O.Operator.laws c.args.operator.now in
    let near = c.args.near.now.tables in
    let far = c.args.far.now.tables in
    let p = ahead b (g.V.PairRead.pair c.args.old.now) in
    let ids = c.as_slice.result.now in
    let listed = c.as_slice.ensures ∙ c.in_ok-ids.ensures.value in
    part_steps (toward b o) (toward_laws b o own) (local_of b o own c.requires.local) near far p c.requires.may ids listed (ahead b (seen c.in_ok-new.new)) c.in_ok-new.ensures.changed
    (toward_local b o c.requires.local) c.args.steps.now c.aux_over.new.steps c.in_ok-made.ensures.steps

pub returns-clause-steps : goal.returns-clause-steps
returns-clause-steps g c =
    let b = c.args.backward in
    let o = g.O.Operator.meaning c.args.operator.now in
    let own = g.met.O.Operator.laws c.args.operator.now in
    let near = c.args.near.now.tables in
    let far = c.args.far.now.tables in
    let p = ahead b (g.V.PairRead.pair c.args.old.now) in
    let ids = c.as_slice.result.now in
    let listed = c.as_slice.ensures ∙ c.in_ok-ids.ensures.value in
    part_steps (toward b o) (toward_laws b o own) (local_of b o own c.requires.local) near far p c.requires.may ids listed (ahead b (seen c.in_ok-new.new)) c.in_ok-new.ensures.changed
    (toward_local b o c.requires.local) c.args.steps.now c.aux_over.new.steps c.in_ok-made.ensures.steps

pub differences_at-requires-clause-many : goal.differences_at-requires-clause-many
differences_at-requires-clause-many g c =
    let b = c.args.backward in
    let o = g.O.Operator.meaning c.args.operator.now in
    let own = g.met.O.Operator.laws c.args.operator.now in
    let near = c.args.near.now.tables in
    let far = c.args.far.now.tables in
    let p = ahead b (g.V.PairRead.pair c.args.old.now) in
    let ids = c.as_slice.result.now in
    let listed = c.as_slice.ensures ∙ c.in_ok-ids.ensures.value in
    let made = c.in_ok-made.ensures.answer ∙ ap (λ (z : PairState). (toward b o).aux_at_source z) c.in_ok-new.ensures.changed in
    ap (λ (ts : List _). length ts) c.as_slice-3.ensures ∙ sym (contents_long c.args.aux.now.tables) ∙ ap (λ (ts : Tables). length ts) c.requires.aux
    ∙ aux_many (toward b o) (toward_laws b o own) (local_of b o own c.requires.local) near far p c.requires.may ids listed (tables_of c.in_ok-made.made) made
    ∙ contents_long c.in_ok-made.made.tables ∙ ap (λ (ts : List _). length ts) (sym c.as_slice-4.ensures)

pub returns-clause-answer : goal.returns-clause-answer
returns-clause-answer g c =
    let b = c.args.backward in
    let o = g.O.Operator.meaning c.args.operator.now in
    let own = g.met.O.Operator.laws c.args.operator.now in
    let near = c.args.near.now.tables in
    let far = c.args.far.now.tables in
    let p = ahead b (g.V.PairRead.pair c.args.old.now) in
    let ids = c.as_slice.result.now in
    let listed = c.as_slice.ensures ∙ c.in_ok-ids.ensures.value in
    let made = c.in_ok-made.ensures.answer ∙ ap (λ (z : PairState). (toward b o).aux_at_source z) c.in_ok-new.ensures.changed in
    let cs = c.in_ok-differences_at.field-0.tables in
    let first = subst (λ (l : List ℕ). PicksEach l (contents c.as_slice-3.result.now) (contents c.as_slice-4.result.now) cs) (c.as_slice-2.ensures ∙ sym c.as_slice.ensures) c.in_ok-differences_at.ensures in
    let second = subst (λ (ts : Tables). PicksEach c.as_slice.result.now ts (contents c.as_slice-4.result.now) cs) (ap contents c.as_slice-3.ensures ∙ c.requires.aux) first in
    let third = subst (λ (ts : Tables). PicksEach c.as_slice.result.now ((toward b o).aux_at_source p) ts cs) (ap contents c.as_slice-4.ensures) second in
    subst (λ (ts : Tables). AreDifferences ts ((toward b o).aux_at_source (changed_pair p near far)) cs) (sym c.requires.aux)
    (aux_is (toward b o) (toward_laws b o own) (local_of b o own c.requires.local) near far p c.requires.may ids listed (tables_of c.in_ok-made.made) cs made third)
