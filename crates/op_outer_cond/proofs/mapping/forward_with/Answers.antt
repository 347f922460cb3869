use Rattle.std.proofs.Common.{◌∙◌, ap}
use Rattle.id_memory.specs.States.{CounterState}
use Rattle.op_law.specs.Calls.{seen}
use Rattle.outer_entries.specs.Showings.{joining_of}
use Rattle.op_outer_cond.proofs.MappingLemmas.{forward_entries, near_from}
use Rattle.op_outer_cond.proofs.mapping.forward_with.Goals as goal

pub entries-requires-clause-from : goal.entries-requires-clause-from
entries-requires-clause-from g c =
    near_from (joining_of c.args.join.now) c.args.near.now (seen c.args.old.now) c.args.ids.now.next _ _ c.requires c.table_in-3.ensures c.table_in-4.ensures

pub memory_of-requires-clause-rise : goal.memory_of-requires-clause-rise
memory_of-requires-clause-rise g c =
    (forward_entries (joining_of c.args.join.now) c.args.near.now (seen c.args.old.now) c.args.ids.now.next c.copy-drawn.result.next _ _ _ _ c.as_slice.result.now c.requires
    (ap (λ (counter : CounterState). counter.next) c.copy-drawn.ensures) c.table_in.ensures c.table_in-2.ensures c.table_in-3.ensures c.table_in-4.ensures
    (c.as_slice.ensures ∙ c.in_ok-made.ensures.1)).rises

pub memory_of-requires-clause-one : goal.memory_of-requires-clause-one
memory_of-requires-clause-one g c =
    (forward_entries (joining_of c.args.join.now) c.args.near.now (seen c.args.old.now) c.args.ids.now.next c.copy-drawn.result.next _ _ _ _ c.as_slice.result.now c.requires
    (ap (λ (counter : CounterState). counter.next) c.copy-drawn.ensures) c.table_in.ensures c.table_in-2.ensures c.table_in-3.ensures c.table_in-4.ensures
    (c.as_slice.ensures ∙ c.in_ok-made.ensures.1)).one

pub shown-requires : goal.shown-requires
shown-requires g c =
    (forward_entries (joining_of c.args.join.now) c.args.near.now (seen c.args.old.now) c.args.ids.now.next c.copy-drawn.result.next _ _ _ _ c.as_slice-2.result.now c.requires
    (ap (λ (counter : CounterState). counter.next) c.copy-drawn.ensures) c.table_in.ensures c.table_in-2.ensures c.table_in-3.ensures c.table_in-4.ensures
    (c.as_slice-2.ensures ∙ c.in_ok-made.ensures.1)).rises
