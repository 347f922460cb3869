use Rattle.std.proofs.Common.{refl, subst}
use Rattle.op_law.specs.Calls.{seen, IsMapped}
use Rattle.op_law.specs.Meaning.{Mapped}
use Rattle.outer_entries.specs.Showings.{joining_of}
use Rattle.outer_entries.specs.Placings.{placing_of}
use Rattle.op_outer_cond.proofs.BackwardLemmas.{kept_entries, start_ready, start_is, backward_entries, mapped_is}
use Rattle.op_outer_cond.proofs.mapping.backward_with.Goals as goal

pub start_of-requires-clause-rise : goal.start_of-requires-clause-rise
start_of-requires-clause-rise c =
    (kept_entries (joining_of c.args.join.now) c.args.near.now (seen c.args.old.now) c.args.ids.now.next c.table_in.result.now.rows c.table_in-new.result.now.rows c.requires c.table_in.ensures c.table_in-new.ensures).rises

pub start_of-requires-clause-one : goal.start_of-requires-clause-one
start_of-requires-clause-one c =
    (kept_entries (joining_of c.args.join.now) c.args.near.now (seen c.args.old.now) c.args.ids.now.next c.table_in.result.now.rows c.table_in-new.result.now.rows c.requires c.table_in.ensures c.table_in-new.ensures).one

pub far_from-requires-clause-ready : goal.far_from-requires-clause-ready
far_from-requires-clause-ready c =
    start_ready (joining_of c.args.join.now) c.args.near.now (seen c.args.old.now) c.args.ids.now.next c.table_in-s.result.now.rows c.table_in-t.result.now.rows c.table_in.result.now.rows c.table_in-new.result.now.rows c.in_ok-it.it
    c.requires c.table_in-s.ensures c.table_in-t.ensures c.in_ok-it.ensures.start c.in_ok-it.ensures.knows

pub far_from-requires-clause-rise : goal.far_from-requires-clause-rise
far_from-requires-clause-rise c =
    let n = c.args.ids.now.next in
    let d = placing_of c.in_ok-it.it n in
    let start = start_is (seen c.args.old.now) c.args.near.now n c.table_in-s.result.now.rows c.table_in-t.result.now.rows c.table_in.result.now.rows c.table_in-new.result.now.rows d
    c.table_in-s.ensures c.table_in-t.ensures c.table_in.ensures c.table_in-new.ensures (c.in_ok-it.ensures.start n) in
    (backward_entries (joining_of c.args.join.now) c.args.near.now (seen c.args.old.now) n d c.table_in.result.now.rows c.table_in-new.result.now.rows _ c.requires start c.table_in.ensures c.table_in-new.ensures refl).rises

pub far_from-requires-clause-one : goal.far_from-requires-clause-one
far_from-requires-clause-one c =
    let n = c.args.ids.now.next in
    let d = placing_of c.in_ok-it.it n in
    let start = start_is (seen c.args.old.now) c.args.near.now n c.table_in-s.result.now.rows c.table_in-t.result.now.rows c.table_in.result.now.rows c.table_in-new.result.now.rows d
    c.table_in-s.ensures c.table_in-t.ensures c.table_in.ensures c.table_in-new.ensures (c.in_ok-it.ensures.start n) in
    (backward_entries (joining_of c.args.join.now) c.args.near.now (seen c.args.old.now) n d c.table_in.result.now.rows c.table_in-new.result.now.rows _ c.requires start c.table_in.ensures c.table_in-new.ensures refl).one

pub returns : goal.returns
returns c =
    let n = c.args.ids.now.next in
    let d = placing_of c.in_ok-it.it n in
    let start = start_is (seen c.args.old.now) c.args.near.now n c.table_in-s.result.now.rows c.table_in-t.result.now.rows c.table_in.result.now.rows c.table_in-new.result.now.rows d
    c.table_in-s.ensures c.table_in-t.ensures c.table_in.ensures c.table_in-new.ensures (c.in_ok-it.ensures.start n) in
    subst (λ (to : Mapped). IsMapped to c.args.ids.now c.far_from.new.ids c.far_from.result)
    (mapped_is (joining_of c.args.join.now) c.args.near.now (seen c.args.old.now) n d c.table_in.result.now.rows c.table_in-new.result.now.rows start c.table_in.ensures c.table_in-new.ensures) c.far_from.ensures
