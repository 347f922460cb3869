use Rattle.std.proofs.Common.{List, map, ap, ◌∙◌}
use Rattle.op_law.specs.Calls.{seen}
use Rattle.row_store.specs.States.{TableState}
use Rattle.version_model.specs.Steps.{directed}
use Rattle.version_model.specs.Kept.{rows_now}
use Rattle.version_model.specs.Calls.{crossing_of, seen_from}
use Rattle.version_model.specs.declared.numbered.Numbered.{Numbered}
use Rattle.version_model.proofs.RunLaws.{way_laws}
use Rattle.version_model.proofs.ProgressLaws.{made_long, crosses}
use Rattle.version_model.proofs.MakingLaws.{has_tables, has_memories}
use Rattle.version_model.proofs.progress.cross.Goals as goal

pub put_side-requires : goal.put_side-requires
put_side-requires g c =
    let over = c.args.over.now in
    let m = directed over.backward (g.O.Operator.meaning over.operator.now) in
    let laws = way_laws over.backward (g.O.Operator.meaning over.operator.now) (g.met.O.Operator.laws over.operator.now) in
    let kept = c.args.before.tables.now in
    let now = map (rows_now kept c.args.made.now.tables) over.near.now in
    let near = c.in_ok-near.ensures ∙ ap (λ (l : List (Numbered TableState)). map (rows_now kept l) over.near.now) c.as_slice.ensures in
    made_long m laws c.in_ok-near.near now c.in_ok-far.far.side (seen_from over.backward (seen c.args.old.now)) c.args.made.now.ids.next over.far.now near c.in_ok-far.ensures.mapped.1.0 c.requires.may c.requires.far

pub returns-clause-crosses : goal.returns-clause-crosses
returns-clause-crosses g c =
    let over = c.args.over.now in
    let kept = c.args.before.tables.now in
    let near = c.in_ok-near.ensures ∙ ap (λ (l : List (Numbered TableState)). map (rows_now kept l) over.near.now) c.as_slice.ensures in
    let mapped = c.in_ok-far.ensures.mapped in
    crosses g.O.Operator.meaning c.args.before c.args.made.now (record { tables = c.put_side.new.made; memories = c.put_memory.new.made; ids = c.map_over.new.ids })
    (crossing_of over) (seen_from over.backward (seen c.args.old.now)) c.in_ok-near.near c.in_ok-far.far.side c.in_ok-far.far.memory.entries
    near mapped.0 mapped.1.0 mapped.1.1 mapped.2 c.in_ok-put_side.ensures c.in_ok-put_memory.ensures

pub returns-clause-has : goal.returns-clause-has
returns-clause-has g c =
    let over = c.args.over.now in
    let m = directed over.backward (g.O.Operator.meaning over.operator.now) in
    let laws = way_laws over.backward (g.O.Operator.meaning over.operator.now) (g.met.O.Operator.laws over.operator.now) in
    let kept = c.args.before.tables.now in
    let now = map (rows_now kept c.args.made.now.tables) over.near.now in
    let near = c.in_ok-near.ensures ∙ ap (λ (l : List (Numbered TableState)). map (rows_now kept l) over.near.now) c.as_slice.ensures in
    let long = made_long m laws c.in_ok-near.near now c.in_ok-far.far.side (seen_from over.backward (seen c.args.old.now)) c.args.made.now.ids.next over.far.now near c.in_ok-far.ensures.mapped.1.0 c.requires.may c.requires.far in
    record {
      tables = has_tables c.args.made.now.tables c.put_side.new.made over.far.now c.in_ok-far.far.side long c.in_ok-put_side.ensures;
      memories = has_memories c.args.made.now.memories c.put_memory.new.made over.number c.in_ok-far.far.memory.entries c.in_ok-put_memory.ensures;
    }
