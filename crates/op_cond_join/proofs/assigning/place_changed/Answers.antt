use Rattle.std.specs.Option.{option_map}
use Rattle.std.proofs.Common.{ap}
use Rattle.id_memory.specs.States.{CounterState}
use Rattle.pair_rows.specs.Given.{side_got}
use Rattle.pair_rows.proofs.GivenLaws.{later_below, same_below}
use Rattle.op_cond_join.proofs.AssigningLemmas.{side_rises, side_below}
use Rattle.op_cond_join.proofs.assigning.place_changed.Goals as goal

pub side_got-requires-2-clause-below : goal.side_got-requires-2-clause-below
side_got-requires-2-clause-below c =
    let before = option_map (λ row. row.now) c.get-before.result in
    later_below c.args.it.now.second.table.rows c.args.ids.now.next c.side_got.new.ids.next (side_got c.as_slice-first.result.now before c.first_of.result c.args.row.now.1 c.args.it.now.first.table.rows c.args.ids.now.next)
    (ap (λ (counter : CounterState). counter.next) c.in_ok-a.ensures.2) (side_rises c.as_slice-first.result.now before c.first_of.result c.args.row.now.1 c.args.it.now.first.table.rows c.args.ids.now.next) c.requires.below.1

pub got-requires-clause-below : goal.got-requires-clause-below
got-requires-clause-below c =
    let before = option_map (λ row. row.now) c.get-before.result in
    let one = side_got c.as_slice-first.result.now before c.first_of.result c.args.row.now.1 c.args.it.now.first.table.rows c.args.ids.now.next in
    let two = side_got c.as_slice-second.result.now before c.second_of.result c.args.row.now.1 c.args.it.now.second.table.rows c.side_got.new.ids.next in
    later_below c.side_got.new.rows.table.rows c.side_got.new.ids.next c.side_got-2.new.ids.next two
    (ap (λ (counter : CounterState). counter.next) c.in_ok-b.ensures.2) (side_rises c.as_slice-second.result.now before c.second_of.result c.args.row.now.1 c.args.it.now.second.table.rows c.side_got.new.ids.next)
    (same_below c.side_got.new.rows.table.rows c.side_got.new.ids.next one c.in_ok-a.ensures.1.table (ap (λ (counter : CounterState). counter.next) c.in_ok-a.ensures.2)
    (side_below c.as_slice-first.result.now before c.first_of.result c.args.row.now.1 c.args.it.now.first.table.rows c.args.ids.now.next c.requires.below.0))
