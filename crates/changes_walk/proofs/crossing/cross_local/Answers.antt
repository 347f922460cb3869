use Rattle.std.proofs.Common.{List, Ok, Err, map, ap, ◌∙◌}
use Rattle.std.proofs.lemmas.Result.{err_from_is_err_and}
use Rattle.row_store.specs.declared.change.Change.{Change}
use Rattle.version_model.specs.Calls.{crossing_of}
use Rattle.version_model.specs.declared.numbered.Numbered.{Numbered}
use Rattle.changes_walk.specs.Changing.{latest_changes}
use Rattle.changes_walk.proofs.NamedLemmas.{local_names, local_steps}
use Rattle.changes_walk.proofs.SideLemmas.{differences_many}
use Rattle.changes_walk.proofs.StepLemmas.{crossed_local, local_read, may_read, refused_local, toward_is}
use Rattle.changes_walk.proofs.crossing.cross_local.Goals as goal

pub far_changes-requires-clause-may : goal.far_changes-requires-clause-may
far_changes-requires-clause-may g c =
    let meaning = g.O.Operator.meaning in
    let may = c.requires.may in
    let old = g.D.StateRead.state c.args.rows.now in
    let made = c.args.made.now in
    let p = crossing_of c.args.over.now in
    let near = c.in_ok-near.ensures ∙ ap (λ (items : List (Numbered (List Change))). map (latest_changes items) p.near) c.as_slice.ensures in
    may_read meaning old made p may _ c.in_ok-near.near.tables _ (toward_is p.backward (meaning p.operator)) near c.read_over-old.ensures

pub returns-in_err-far-clause-crosses : goal.returns-in_err-far-clause-crosses
returns-in_err-far-clause-crosses g c =
    let meaning = g.O.Operator.meaning in
    let may = c.requires.may in
    let old = g.D.StateRead.state c.args.rows.now in
    let made = c.args.made.now in
    let p = crossing_of c.args.over.now in
    let near = c.in_ok-near.ensures ∙ ap (λ (items : List (Numbered (List Change))). map (latest_changes items) p.near) c.as_slice.ensures in
    let answer = local_read meaning old made p may _ c.in_ok-near.near.tables _ (toward_is p.backward (meaning p.operator)) near c.read_over-old.ensures c.far_changes.new.ids (Err c.in_err-far.field-0.0) c.in_err-far.ensures.answer in
    let e = err_from_is_err_and c.from_residual-in_err-far.result c.from_residual-in_err-far.ensures.1 in
    rw (e.1, e.2) (refused_local meaning old made p may (g.met.O.Operator.laws p.operator) c.far_changes.new.ids (record { tables = made.tables; memories = made.memories; ids = c.far_changes.new.ids }) c.in_err-far.field-0.0 answer)

pub returns-in_err-far-clause-steps : goal.returns-in_err-far-clause-steps
returns-in_err-far-clause-steps g c =
    let meaning = g.O.Operator.meaning in
    let made = c.args.made.now in
    let p = crossing_of c.args.over.now in
    let near = c.in_ok-near.ensures ∙ ap (λ (items : List (Numbered (List Change))). map (latest_changes items) p.near) c.as_slice.ensures in
    local_steps meaning made p c.in_ok-near.near.tables c.args.steps.now c.far_changes.new.steps near c.in_err-far.ensures.steps

pub put_side-requires : goal.put_side-requires
put_side-requires g c =
    let meaning = g.O.Operator.meaning in
    let may = c.requires.may in
    let old = g.D.StateRead.state c.args.rows.now in
    let made = c.args.made.now in
    let p = crossing_of c.args.over.now in
    let near = c.in_ok-near.ensures ∙ ap (λ (items : List (Numbered (List Change))). map (latest_changes items) p.near) c.as_slice.ensures in
    let answer = local_read meaning old made p may _ c.in_ok-near.near.tables _ (toward_is p.backward (meaning p.operator)) near c.read_over-old.ensures c.far_changes.new.ids (Ok c.in_ok-far.far) c.in_ok-far.ensures.answer in
    differences_many old.tables p.far _ c.in_ok-far.far.side.tables answer.1.side

pub returns-in_err-put_side-clause-steps : goal.returns-in_err-put_side-clause-steps
returns-in_err-put_side-clause-steps g c =
    let meaning = g.O.Operator.meaning in
    let made = c.args.made.now in
    let p = crossing_of c.args.over.now in
    let near = c.in_ok-near.ensures ∙ ap (λ (items : List (Numbered (List Change))). map (latest_changes items) p.near) c.as_slice.ensures in
    local_steps meaning made p c.in_ok-near.near.tables c.args.steps.now c.far_changes.new.steps near c.in_ok-far.ensures.steps

pub returns-clause-crosses : goal.returns-clause-crosses
returns-clause-crosses g c =
    let meaning = g.O.Operator.meaning in
    let may = c.requires.may in
    let old = g.D.StateRead.state c.args.rows.now in
    let made = c.args.made.now in
    let p = crossing_of c.args.over.now in
    let near = c.in_ok-near.ensures ∙ ap (λ (items : List (Numbered (List Change))). map (latest_changes items) p.near) c.as_slice.ensures in
    let answer = local_read meaning old made p may _ c.in_ok-near.near.tables _ (toward_is p.backward (meaning p.operator)) near c.read_over-old.ensures c.far_changes.new.ids (Ok c.in_ok-far.far) c.in_ok-far.ensures.answer in
    crossed_local meaning old made p may (g.met.O.Operator.laws p.operator) c.requires.local c.in_ok-far.far c.far_changes.new.ids c.put_side.new.made answer c.in_ok-put_side.ensures

pub returns-clause-only : goal.returns-clause-only
returns-clause-only g c =
    let meaning = g.O.Operator.meaning in
    let may = c.requires.may in
    let old = g.D.StateRead.state c.args.rows.now in
    let made = c.args.made.now in
    let p = crossing_of c.args.over.now in
    let near = c.in_ok-near.ensures ∙ ap (λ (items : List (Numbered (List Change))). map (latest_changes items) p.near) c.as_slice.ensures in
    let answer = local_read meaning old made p may _ c.in_ok-near.near.tables _ (toward_is p.backward (meaning p.operator)) near c.read_over-old.ensures c.far_changes.new.ids (Ok c.in_ok-far.far) c.in_ok-far.ensures.answer in
    local_names meaning old made (record { tables = c.put_side.new.made; memories = made.memories; ids = c.far_changes.new.ids }) p may (g.met.O.Operator.laws p.operator) c.in_ok-far.far.side.tables answer.1.side c.in_ok-put_side.ensures

pub returns-clause-steps : goal.returns-clause-steps
returns-clause-steps g c =
    let meaning = g.O.Operator.meaning in
    let made = c.args.made.now in
    let p = crossing_of c.args.over.now in
    let near = c.in_ok-near.ensures ∙ ap (λ (items : List (Numbered (List Change))). map (latest_changes items) p.near) c.as_slice.ensures in
    local_steps meaning made p c.in_ok-near.near.tables c.args.steps.now c.far_changes.new.steps near c.in_ok-far.ensures.steps
