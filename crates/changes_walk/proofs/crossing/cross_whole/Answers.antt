use Rattle.std.proofs.Common.{List, Ok, Err, map, ap, ◌∙◌}
use Rattle.std.proofs.lemmas.Result.{err_from_is_err_and}
use Rattle.row_store.specs.declared.change.Change.{Change}
use Rattle.version_model.specs.Calls.{crossing_of}
use Rattle.version_model.specs.declared.numbered.Numbered.{Numbered}
use Rattle.changes_walk.specs.Changing.{latest_changes}
use Rattle.changes_walk.proofs.SideLemmas.{differences_many}
use Rattle.changes_walk.proofs.StepLemmas.{crossed_whole, fits_read, refused_whole, some_read, whole_read}
use Rattle.changes_walk.proofs.crossing.cross_whole.Goals as goal

pub whole_changes-requires-clause-fit : goal.whole_changes-requires-clause-fit
whole_changes-requires-clause-fit g c =
    let meaning = g.O.Operator.meaning in
    let may = c.requires in
    let old = g.D.StateRead.state c.args.rows.now in
    let made = c.args.made.now in
    let p = crossing_of c.args.over.now in
    let near = c.in_ok-near.ensures ∙ ap (λ (items : List (Numbered (List Change))). map (latest_changes items) p.near) c.as_slice.ensures in
    let pair = c.in_ok-old.ensures in
    fits_read meaning old made p may c.in_ok-near.near.tables _ near pair

pub whole_changes-requires-clause-may : goal.whole_changes-requires-clause-may
whole_changes-requires-clause-may g c =
    let meaning = g.O.Operator.meaning in
    let may = c.requires in
    let old = g.D.StateRead.state c.args.rows.now in
    let made = c.args.made.now in
    let p = crossing_of c.args.over.now in
    let near = c.in_ok-near.ensures ∙ ap (λ (items : List (Numbered (List Change))). map (latest_changes items) p.near) c.as_slice.ensures in
    let pair = c.in_ok-old.ensures in
    some_read meaning old made p may c.in_ok-near.near.tables _ near pair

pub returns-in_err-far : goal.returns-in_err-far
returns-in_err-far g c =
    let meaning = g.O.Operator.meaning in
    let may = c.requires in
    let old = g.D.StateRead.state c.args.rows.now in
    let made = c.args.made.now in
    let p = crossing_of c.args.over.now in
    let near = c.in_ok-near.ensures ∙ ap (λ (items : List (Numbered (List Change))). map (latest_changes items) p.near) c.as_slice.ensures in
    let pair = c.in_ok-old.ensures in
    let answer = whole_read meaning old made p may c.in_ok-near.near.tables _ near pair c.whole_changes.new.ids (Err c.in_err-far.field-0.0) c.in_err-far.ensures in
    let e = err_from_is_err_and c.from_residual-in_err-far.result c.from_residual-in_err-far.ensures.1 in
    rw (e.1, e.2) (refused_whole meaning old made p may c.whole_changes.new.ids (record { tables = made.tables; memories = made.memories; ids = c.whole_changes.new.ids }) c.in_err-far.field-0.0 answer)

pub put_side-requires : goal.put_side-requires
put_side-requires g c =
    let meaning = g.O.Operator.meaning in
    let may = c.requires in
    let old = g.D.StateRead.state c.args.rows.now in
    let made = c.args.made.now in
    let p = crossing_of c.args.over.now in
    let near = c.in_ok-near.ensures ∙ ap (λ (items : List (Numbered (List Change))). map (latest_changes items) p.near) c.as_slice.ensures in
    let pair = c.in_ok-old.ensures in
    let answer = whole_read meaning old made p may c.in_ok-near.near.tables _ near pair c.whole_changes.new.ids (Ok c.in_ok-far.far) c.in_ok-far.ensures in
    differences_many old.tables p.far _ c.in_ok-far.far.side.tables answer.1

pub returns : goal.returns
returns g c =
    let meaning = g.O.Operator.meaning in
    let may = c.requires in
    let old = g.D.StateRead.state c.args.rows.now in
    let made = c.args.made.now in
    let p = crossing_of c.args.over.now in
    let near = c.in_ok-near.ensures ∙ ap (λ (items : List (Numbered (List Change))). map (latest_changes items) p.near) c.as_slice.ensures in
    let pair = c.in_ok-old.ensures in
    let answer = whole_read meaning old made p may c.in_ok-near.near.tables _ near pair c.whole_changes.new.ids (Ok c.in_ok-far.far) c.in_ok-far.ensures in
    crossed_whole meaning old made p may c.in_ok-far.far c.whole_changes.new.ids c.put_side.new.made c.put_memory.new.made answer c.in_ok-put_side.ensures c.in_ok-put_memory.ensures
