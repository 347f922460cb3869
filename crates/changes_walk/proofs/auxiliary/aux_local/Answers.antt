use Rattle.std.proofs.Common.{List, map, ap, ◌∙◌}
use Rattle.std.proofs.lemmas.Result.{IfOk-weaker}
use Rattle.row_store.specs.declared.change.Change.{Change}
use Rattle.op_law.specs.Calls.{tables_of}
use Rattle.version_model.specs.Calls.{crossing_of}
use Rattle.version_model.specs.declared.numbered.Numbered.{Numbered}
use Rattle.changes_walk.specs.Changing.{latest_changes}
use Rattle.changes_walk.proofs.AuxiliaryLemmas.{aux_given, aux_read, aux_steps, may_read}
use Rattle.changes_walk.proofs.StepLemmas.{toward_is}
use Rattle.changes_walk.proofs.auxiliary.aux_local.Goals as goal

pub aux_differences-requires-clause-may : goal.aux_differences-requires-clause-may
aux_differences-requires-clause-may g c =
    let meaning = g.O.Operator.meaning in
    let old = g.D.StateRead.state c.args.rows.now in
    let made = c.args.made.now in
    let p = crossing_of c.args.over.now in
    let near = c.in_ok-near.ensures ∙ ap (λ (items : List (Numbered (List Change))). map (latest_changes items) p.near) c.as_slice.ensures in
    let far = c.in_ok-far.ensures ∙ ap (λ (items : List (Numbered (List Change))). map (latest_changes items) p.far) c.as_slice-2.ensures in
    may_read meaning old made p c.requires.may (g.met.O.Operator.laws p.operator) c.requires.local _ c.in_ok-near.near.tables c.in_ok-far.far.tables _ (toward_is p.backward (meaning p.operator)) near far c.read_over-old.ensures

pub aux_differences-requires-clause-aux : goal.aux_differences-requires-clause-aux
aux_differences-requires-clause-aux g c =
    let meaning = g.O.Operator.meaning in
    let old = g.D.StateRead.state c.args.rows.now in
    let made = c.args.made.now in
    let p = crossing_of c.args.over.now in
    let near = c.in_ok-near.ensures ∙ ap (λ (items : List (Numbered (List Change))). map (latest_changes items) p.near) c.as_slice.ensures in
    let far = c.in_ok-far.ensures ∙ ap (λ (items : List (Numbered (List Change))). map (latest_changes items) p.far) c.as_slice-2.ensures in
    aux_given meaning old made p c.requires.may (g.met.O.Operator.laws p.operator) c.requires.local _ c.in_ok-near.near.tables c.in_ok-far.far.tables _ (toward_is p.backward (meaning p.operator)) near far c.read_over-old.ensures
    (tables_of c.args.aux.now) c.requires.aux

pub returns-clause-answer : goal.returns-clause-answer
returns-clause-answer g c =
    let meaning = g.O.Operator.meaning in
    let old = g.D.StateRead.state c.args.rows.now in
    let made = c.args.made.now in
    let p = crossing_of c.args.over.now in
    let near = c.in_ok-near.ensures ∙ ap (λ (items : List (Numbered (List Change))). map (latest_changes items) p.near) c.as_slice.ensures in
    let far = c.in_ok-far.ensures ∙ ap (λ (items : List (Numbered (List Change))). map (latest_changes items) p.far) c.as_slice-2.ensures in
    IfOk-weaker c.aux_differences.result _ _
    (λ changes answer. aux_read meaning old made p c.requires.may (g.met.O.Operator.laws p.operator) c.requires.local _ c.in_ok-near.near.tables c.in_ok-far.far.tables _ (toward_is p.backward (meaning p.operator)) near far c.read_over-old.ensures
    (tables_of c.args.aux.now) changes.tables answer)
    c.aux_differences.ensures.answer

pub returns-clause-steps : goal.returns-clause-steps
returns-clause-steps g c =
    let meaning = g.O.Operator.meaning in
    let made = c.args.made.now in
    let p = crossing_of c.args.over.now in
    let near = c.in_ok-near.ensures ∙ ap (λ (items : List (Numbered (List Change))). map (latest_changes items) p.near) c.as_slice.ensures in
    let far = c.in_ok-far.ensures ∙ ap (λ (items : List (Numbered (List Change))). map (latest_changes items) p.far) c.as_slice-2.ensures in
    aux_steps meaning made p c.in_ok-near.near.tables c.in_ok-far.far.tables c.args.steps.now c.aux_differences.new.steps near far c.aux_differences.ensures.steps
