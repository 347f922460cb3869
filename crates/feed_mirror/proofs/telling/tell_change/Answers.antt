use Rattle.std.proofs.Common.{List, refl, subst}
use Rattle.feed_mirror.specs.declared.tables.Shown.{Shown}
use Rattle.feed_mirror.specs.Padded.{IsPlace}
use Rattle.feed_mirror.proofs.TellLemmas.{change_here, change_leaves, old_here, room_here}
use Rattle.feed_mirror.proofs.PlaceLemmas.{get_same}
use Rattle.feed_mirror.proofs.telling.tell_change.Goals as goal

pub change_table-requires-clause-old : goal.change_table-requires-clause-old
change_table-requires-clause-old c =
    let ts = c.args.tables.now.items in
    let x = c.index_mut.result.now in
    let is : IsPlace c.args.change.now.table ts c.in-Some.at = subst (λ (us : List Shown). IsPlace c.args.change.now.table us c.in-Some.at) c.as_slice.ensures.value c.in-Some.ensures in
    old_here c.args.change.now ts c.in-Some.at x c.requires is (get_same ts c.in-Some.at is.which x is.stands c.index_mut.ensures.value)

pub change_table-requires-clause-room : goal.change_table-requires-clause-room
change_table-requires-clause-room c =
    let ts = c.args.tables.now.items in
    let x = c.index_mut.result.now in
    let is : IsPlace c.args.change.now.table ts c.in-Some.at = subst (λ (us : List Shown). IsPlace c.args.change.now.table us c.in-Some.at) c.as_slice.ensures.value c.in-Some.ensures in
    room_here c.args.change.now ts c.in-Some.at x c.requires is (get_same ts c.in-Some.at is.which x is.stands c.index_mut.ensures.value)

pub returns-clause-rows : goal.returns-clause-rows
returns-clause-rows c =
    let ts = c.args.tables.now.items in
    let x = c.index_mut.result.now in
    let is : IsPlace c.args.change.now.table ts c.in-Some.at = subst (λ (us : List Shown). IsPlace c.args.change.now.table us c.in-Some.at) c.as_slice.ensures.value c.in-Some.ensures in
    let y : Shown = record { name = x.name; table = c.change_table.new.table } in
    change_here c.args.change.now ts c.in-Some.at x y is (get_same ts c.in-Some.at is.which x is.stands c.index_mut.ensures.value) refl c.change_table.ensures.rows

pub returns-clause-left : goal.returns-clause-left
returns-clause-left c =
    let ts = c.args.tables.now.items in
    let x = c.index_mut.result.now in
    let is : IsPlace c.args.change.now.table ts c.in-Some.at = subst (λ (us : List Shown). IsPlace c.args.change.now.table us c.in-Some.at) c.as_slice.ensures.value c.in-Some.ensures in
    let y : Shown = record { name = x.name; table = c.change_table.new.table } in
    change_leaves c.args.change.now ts c.in-Some.at x y is (get_same ts c.in-Some.at is.which x is.stands c.index_mut.ensures.value) refl c.change_table.ensures.rows c.change_table.ensures.room
