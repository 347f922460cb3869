use Rattle.std.proofs.Common.{◌∙◌, refl, subst}
use Rattle.op_law.specs.Calls.{seen, IsMapped}
use Rattle.op_law.specs.Meaning.{Mapped}
use Rattle.op_cond_join.specs.Joinings.{joining}
use Rattle.op_cond_join.specs.inner.Assignings.{assigning}
use Rattle.op_cond_join.proofs.MappingLemmas.{start_is, start_below, backward_entries, mapped_is}
use Rattle.op_cond_join.proofs.mapping.backward.Goals as goal

pub far_from-requires-clause-below : goal.far_from-requires-clause-below
far_from-requires-clause-below g c =
    let n = c.args.ids.now.next in
    let d = assigning c.in_ok-it.it n in
    let start = start_is n n c.in_ok-it.it.first.table.rows c.in_ok-it.it.second.table.rows c.table_in.result.now.rows c.table_in-new.result.now.rows c.args.old.now.memory.entries c.in_ok-it.it.taken.entries (seen c.args.old.now) c.args.near.now
    refl (c.in_ok-it.ensures.first ∙ c.table_in-first.ensures) (c.in_ok-it.ensures.second ∙ c.table_in-second.ensures) c.table_in.ensures c.table_in-new.ensures c.in_ok-it.ensures.taken in
    start_below (joining c.args.join.now) c.args.near.now (seen c.args.old.now) n d c.requires start

pub far_from-requires-clause-rise : goal.far_from-requires-clause-rise
far_from-requires-clause-rise g c =
    let n = c.args.ids.now.next in
    let d = assigning c.in_ok-it.it n in
    let start = start_is n n c.in_ok-it.it.first.table.rows c.in_ok-it.it.second.table.rows c.table_in.result.now.rows c.table_in-new.result.now.rows c.args.old.now.memory.entries c.in_ok-it.it.taken.entries (seen c.args.old.now) c.args.near.now
    refl (c.in_ok-it.ensures.first ∙ c.table_in-first.ensures) (c.in_ok-it.ensures.second ∙ c.table_in-second.ensures) c.table_in.ensures c.table_in-new.ensures c.in_ok-it.ensures.taken in
    (backward_entries (joining c.args.join.now) c.args.near.now (seen c.args.old.now) n d c.table_in.result.now.rows c.table_in-new.result.now.rows _ c.requires start c.table_in.ensures c.table_in-new.ensures refl).rises

pub far_from-requires-clause-one : goal.far_from-requires-clause-one
far_from-requires-clause-one g c =
    let n = c.args.ids.now.next in
    let d = assigning c.in_ok-it.it n in
    let start = start_is n n c.in_ok-it.it.first.table.rows c.in_ok-it.it.second.table.rows c.table_in.result.now.rows c.table_in-new.result.now.rows c.args.old.now.memory.entries c.in_ok-it.it.taken.entries (seen c.args.old.now) c.args.near.now
    refl (c.in_ok-it.ensures.first ∙ c.table_in-first.ensures) (c.in_ok-it.ensures.second ∙ c.table_in-second.ensures) c.table_in.ensures c.table_in-new.ensures c.in_ok-it.ensures.taken in
    (backward_entries (joining c.args.join.now) c.args.near.now (seen c.args.old.now) n d c.table_in.result.now.rows c.table_in-new.result.now.rows _ c.requires start c.table_in.ensures c.table_in-new.ensures refl).one

pub returns : goal.returns
returns g c =
    let n = c.args.ids.now.next in
    let d = assigning c.in_ok-it.it n in
    let start = start_is n n c.in_ok-it.it.first.table.rows c.in_ok-it.it.second.table.rows c.table_in.result.now.rows c.table_in-new.result.now.rows c.args.old.now.memory.entries c.in_ok-it.it.taken.entries (seen c.args.old.now) c.args.near.now
    refl (c.in_ok-it.ensures.first ∙ c.table_in-first.ensures) (c.in_ok-it.ensures.second ∙ c.table_in-second.ensures) c.table_in.ensures c.table_in-new.ensures c.in_ok-it.ensures.taken in
    subst (λ (to : Mapped). IsMapped to c.args.ids.now c.far_from.new.ids c.far_from.result)
    (mapped_is (joining c.args.join.now) c.args.near.now (seen c.args.old.now) n d c.table_in.result.now.rows c.table_in-new.result.now.rows start c.table_in.ensures c.table_in-new.ensures) c.far_from.ensures
