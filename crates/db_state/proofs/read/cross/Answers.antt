use Rattle.std.specs.Prelude.{◌≤◌}
use Rattle.std.proofs.Common.{length, sym, ap, subst}
use Rattle.version_graph.specs.Edges.{is_in}
use Rattle.version_graph.specs.Forest.{Crossing}
use Rattle.version_graph.specs.declared.parts.Step.{Step}
use Rattle.op_law.specs.Calls.{tables_of}
use Rattle.version_model.specs.Calls.{crossing_of}
use Rattle.version_model.specs.Kept.{rows_now}
use Rattle.version_model.specs.States.{headings}
use Rattle.storage_law.specs.Storage.{stored_way}
use Rattle.db_state.specs.Fields.{state_for}
use Rattle.db_state.specs.Parts.{seen_of}
use Rattle.db_state.specs.inner.Passes.{Settles}
use Rattle.db_state.proofs.BoundLaws.{LocalOver, crossed_within, local_over, seen_none}
use Rattle.db_state.proofs.CrossLemmas.{far_long, has_aux, has_memory, may_read, near_kept, near_within, settles}
use Rattle.db_state.proofs.read.cross.Goals as goal
use Rattle.db_state.proofs.FoundLaws.{none_kept, same_crossing, some_kept}

pub unreachable-requires-in_default-value_of : goal.unreachable-requires-in_default-value_of
unreachable-requires-in_default-value_of g c =
    let p = c.args.db.now in
    let n = ap (λ (s : Step). s.operator) c.requires.tells in
    has_aux g.O.Operator.meaning p c.graph.ensures.kept c.requires.over c.requires.lives c.args.step.operator n
    (none_kept c.value_of.result c.aux.result.now p.aux c.args.step.operator c.in_default-value_of.is c.value_of.ensures c.aux.ensures)

pub unreachable-requires-in_default-value_of-2 : goal.unreachable-requires-in_default-value_of-2
unreachable-requires-in_default-value_of-2 g c =
    let p = c.args.db.now in
    let n = ap (λ (s : Step). s.operator) c.requires.tells in
    has_memory g.O.Operator.meaning p c.graph.ensures.kept c.requires.over c.requires.lives c.args.step.operator n
    (none_kept c.value_of-2.result c.memories.result.now p.memories c.args.step.operator c.in_default-value_of-2.is c.value_of-2.ensures c.memories.ensures)

pub side_seen-requires-clause-few : goal.side_seen-requires-clause-few
side_seen-requires-clause-few g c =
    let p = c.args.db.now in
    let e = c.requires.over in
    let q = crossing_of c.in-Some.over in
    let over = same_crossing c.graph.result.now p.graph c.graph.ensures.graph c.args.step q (stored_way p.layout.operators e) c.in-Some.ensures c.requires.crosses c.requires.tells in
    subst (λ (x : Crossing _). length x.near ≤ 2) (sym over) (near_within g.O.Operator.meaning p c.graph.ensures.kept (is_in e.number p.layout.operators) e c.requires.lives)

pub read_far-requires : goal.read_far-requires
read_far-requires g c =
    let p = c.args.db.now in
    let e = c.requires.over in
    let q = crossing_of c.in-Some.over in
    let over = same_crossing c.graph.result.now p.graph c.graph.ensures.graph c.args.step q (stored_way p.layout.operators e) c.in-Some.ensures c.requires.crosses c.requires.tells in
    let near = near_kept c.args.sight c.stored.result.now p.stored c.as_slice.result.now c.args.made.now c.in_ok-near.near q.near c.in_ok-near.ensures c.stored.ensures c.as_slice.ensures in
    let aux = some_kept c.in-Some-value_of.aux.now c.aux.result.now p.aux c.args.step.operator c.in-Some-value_of.ensures c.aux.ensures in
    let memory = some_kept c.in-Some-value_of-2.memory.now c.memories.result.now p.memories c.args.step.operator c.in-Some-value_of-2.ensures c.memories.ensures in
    may_read g.O.Operator.meaning g.met.O.Operator.laws p c.graph.ensures.kept c.args.sight e c.requires.lives c.requires.sees q over (rows_now p.stored c.args.made.now) c.requires.near
    c.in_ok-near.near c.args.step.operator (ap (λ (s : Step). s.operator) c.requires.tells) c.in-Some-value_of.aux.now c.in_ok-beside.beside c.in-Some-value_of-2.memory.now c.in_ok-entries.entries
    near aux c.in_ok-beside.ensures memory c.in_ok-entries.ensures

pub put_side-requires : goal.put_side-requires
put_side-requires g c =
    let p = c.args.db.now in
    let e = c.requires.over in
    let q = crossing_of c.in-Some.over in
    let over = same_crossing c.graph.result.now p.graph c.graph.ensures.graph c.args.step q (stored_way p.layout.operators e) c.in-Some.ensures c.requires.crosses c.requires.tells in
    let near = near_kept c.args.sight c.stored.result.now p.stored c.as_slice.result.now c.args.made.now c.in_ok-near.near q.near c.in_ok-near.ensures c.stored.ensures c.as_slice.ensures in
    let aux = some_kept c.in-Some-value_of.aux.now c.aux.result.now p.aux c.args.step.operator c.in-Some-value_of.ensures c.aux.ensures in
    let memory = some_kept c.in-Some-value_of-2.memory.now c.memories.result.now p.memories c.args.step.operator c.in-Some-value_of-2.ensures c.memories.ensures in
    far_long g.O.Operator.meaning g.met.O.Operator.laws p c.graph.ensures.kept c.args.sight e c.requires.lives c.requires.sees q over (rows_now p.stored c.args.made.now) c.requires.near
    c.in_ok-near.near c.args.step.operator (ap (λ (s : Step). s.operator) c.requires.tells) c.in-Some-value_of.aux.now c.in_ok-beside.beside c.in-Some-value_of-2.memory.now c.in_ok-entries.entries
    near aux c.in_ok-beside.ensures memory c.in_ok-entries.ensures
    c.in_ok-far.far c.in_ok-far.ensures.far

pub returns-clause-passes : goal.returns-clause-passes
returns-clause-passes g c other crosses tells =
    let p = c.args.db.now in
    let e = c.requires.over in
    let q = crossing_of c.in-Some.over in
    let over = same_crossing c.graph.result.now p.graph c.graph.ensures.graph c.args.step q (stored_way p.layout.operators e) c.in-Some.ensures c.requires.crosses c.requires.tells in
    let same = same_crossing c.graph.result.now p.graph c.graph.ensures.graph c.args.step q other c.in-Some.ensures crosses tells in
    let near = near_kept c.args.sight c.stored.result.now p.stored c.as_slice.result.now c.args.made.now c.in_ok-near.near q.near c.in_ok-near.ensures c.stored.ensures c.as_slice.ensures in
    let aux = some_kept c.in-Some-value_of.aux.now c.aux.result.now p.aux c.args.step.operator c.in-Some-value_of.ensures c.aux.ensures in
    let memory = some_kept c.in-Some-value_of-2.memory.now c.memories.result.now p.memories c.args.step.operator c.in-Some-value_of-2.ensures c.memories.ensures in
    subst (λ (x : Crossing _). Settles (seen_of c.args.sight (state_for g.O.Operator.meaning p).tables) x.far (seen_of c.args.sight (rows_now p.stored c.args.made.now)) (seen_of c.args.sight (rows_now p.stored c.put_side.new.made))) same
    (settles g.O.Operator.meaning g.met.O.Operator.laws p c.graph.ensures.kept c.args.sight e c.requires.lives c.requires.sees q over (rows_now p.stored c.args.made.now) c.requires.near
    c.in_ok-near.near c.args.step.operator (ap (λ (s : Step). s.operator) c.requires.tells) c.in-Some-value_of.aux.now c.in_ok-beside.beside c.in-Some-value_of-2.memory.now c.in_ok-entries.entries
    near aux c.in_ok-beside.ensures memory c.in_ok-entries.ensures
    c.in_ok-far.far (rows_now p.stored c.put_side.new.made) c.in_ok-far.ensures.far (c.in_ok-put_side.ensures p.stored))

pub returns-in_err-far-clause-steps : goal.returns-in_err-far-clause-steps
returns-in_err-far-clause-steps g c =
    let p = c.args.db.now in
    let e = c.requires.over in
    let q = crossing_of c.in-Some.over in
    let over = same_crossing c.graph.result.now p.graph c.graph.ensures.graph c.args.step q (stored_way p.layout.operators e) c.in-Some.ensures c.requires.crosses c.requires.tells in
    let near = near_kept c.args.sight c.stored.result.now p.stored c.as_slice.result.now c.args.made.now c.in_ok-near.near q.near c.in_ok-near.ensures c.stored.ensures c.as_slice.ensures in
    let sees = subst (λ (x : Crossing _). LocalOver c.args.sight (g.O.Operator.meaning x.operator)) (sym over) (local_over g.O.Operator.meaning (headings p.graph.edges) (state_for g.O.Operator.meaning p) c.args.sight e c.requires.sees) in
    crossed_within c.args.sight (g.O.Operator.meaning q.operator) q.backward (rows_now p.stored c.args.made.now) q.near c.in_ok-near.near (tables_of c.in-Some-value_of.aux.now) (tables_of c.in_ok-beside.beside) c.args.steps.now c.read_far.new.steps c.requires.ascends sees
    near c.in_ok-beside.ensures c.in_err-far.ensures.steps

pub returns-in_err-put_side-clause-steps : goal.returns-in_err-put_side-clause-steps
returns-in_err-put_side-clause-steps g c =
    let p = c.args.db.now in
    let e = c.requires.over in
    let q = crossing_of c.in-Some.over in
    let over = same_crossing c.graph.result.now p.graph c.graph.ensures.graph c.args.step q (stored_way p.layout.operators e) c.in-Some.ensures c.requires.crosses c.requires.tells in
    let near = near_kept c.args.sight c.stored.result.now p.stored c.as_slice.result.now c.args.made.now c.in_ok-near.near q.near c.in_ok-near.ensures c.stored.ensures c.as_slice.ensures in
    let sees = subst (λ (x : Crossing _). LocalOver c.args.sight (g.O.Operator.meaning x.operator)) (sym over) (local_over g.O.Operator.meaning (headings p.graph.edges) (state_for g.O.Operator.meaning p) c.args.sight e c.requires.sees) in
    crossed_within c.args.sight (g.O.Operator.meaning q.operator) q.backward (rows_now p.stored c.args.made.now) q.near c.in_ok-near.near (tables_of c.in-Some-value_of.aux.now) (tables_of c.in_ok-beside.beside) c.args.steps.now c.read_far.new.steps c.requires.ascends sees
    near c.in_ok-beside.ensures c.in_ok-far.ensures.steps

pub returns-clause-steps : goal.returns-clause-steps
returns-clause-steps g c =
    let p = c.args.db.now in
    let e = c.requires.over in
    let q = crossing_of c.in-Some.over in
    let over = same_crossing c.graph.result.now p.graph c.graph.ensures.graph c.args.step q (stored_way p.layout.operators e) c.in-Some.ensures c.requires.crosses c.requires.tells in
    let near = near_kept c.args.sight c.stored.result.now p.stored c.as_slice.result.now c.args.made.now c.in_ok-near.near q.near c.in_ok-near.ensures c.stored.ensures c.as_slice.ensures in
    let sees = subst (λ (x : Crossing _). LocalOver c.args.sight (g.O.Operator.meaning x.operator)) (sym over) (local_over g.O.Operator.meaning (headings p.graph.edges) (state_for g.O.Operator.meaning p) c.args.sight e c.requires.sees) in
    crossed_within c.args.sight (g.O.Operator.meaning q.operator) q.backward (rows_now p.stored c.args.made.now) q.near c.in_ok-near.near (tables_of c.in-Some-value_of.aux.now) (tables_of c.in_ok-beside.beside) c.args.steps.now c.read_far.new.steps c.requires.ascends sees
    near c.in_ok-beside.ensures c.in_ok-far.ensures.steps

pub returns-in_err-near-clause-steps : goal.returns-in_err-near-clause-steps
returns-in_err-near-clause-steps g c = seen_none 2 c.args.sight 1 c.args.steps.now

pub returns-in_err-beside-clause-steps : goal.returns-in_err-beside-clause-steps
returns-in_err-beside-clause-steps g c = seen_none 2 c.args.sight 1 c.args.steps.now

pub returns-in_err-entries-clause-steps : goal.returns-in_err-entries-clause-steps
returns-in_err-entries-clause-steps g c = seen_none 2 c.args.sight 1 c.args.steps.now
