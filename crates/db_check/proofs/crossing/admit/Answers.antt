use Rattle.std.specs.Prelude.{◌≤◌}
use Rattle.std.proofs.Common.{ℕ, length, Option, refl, sym, ap, ◌∙◌, subst}
use Rattle.std.proofs.lemmas.Bool.{false≢true}
use Rattle.db_state.proofs.FoundLaws.{crosses, none_kept, same_crossing, some_kept}
use Rattle.op_law.specs.Tables.{Tables}
use Rattle.op_law.specs.Sound.{TablesSound}
use Rattle.op_law.specs.Calls.{tables_of, Admits as AdmitsFar}
use Rattle.version_model.specs.Steps.{directed}
use Rattle.version_graph.specs.Edges.{is_in}
use Rattle.version_graph.specs.Forest.{Crossing}
use Rattle.version_graph.specs.declared.parts.Step.{Step}
use Rattle.version_model.specs.Calls.{crossing_of}
use Rattle.version_model.specs.Kept.{rows_now}
use Rattle.storage_law.specs.Storage.{stored_way}
use Rattle.db_check.proofs.FoundLemmas.{near_kept}
use Rattle.db_check.specs.inner.Tests.{Tells}
use Rattle.db_check.specs.inner.Calls.{IsNone, IsOver}
use Rattle.db_check.proofs.StepLemmas.{far_long, has_aux, has_memory, is_over, near_within, none_over, some_near, unsound}
use Rattle.db_check.proofs.crossing.admit.Goals as goal

pub unreachable-requires-in_default-value_of : goal.unreachable-requires-in_default-value_of
unreachable-requires-in_default-value_of g c =
    let p = c.args.parts.now in
    has_aux g.O.Operator.meaning p c.requires.read c.requires.may.over c.requires.may.lives c.args.step.operator (ap (λ (s : Step). s.operator) c.requires.may.tells)
    (none_kept c.value_of.result c.as_slice.result.now p.aux c.args.step.operator c.in_default-value_of.is c.value_of.ensures c.as_slice.ensures)

pub unreachable-requires-in_default-value_of-2 : goal.unreachable-requires-in_default-value_of-2
unreachable-requires-in_default-value_of-2 g c =
    let p = c.args.parts.now in
    has_memory g.O.Operator.meaning p c.requires.read c.requires.may.over c.requires.may.lives c.args.step.operator (ap (λ (s : Step). s.operator) c.requires.may.tells)
    (none_kept c.value_of-2.result c.as_slice-2.result.now p.memories c.args.step.operator c.in_default-value_of-2.is c.value_of-2.ensures c.as_slice-2.ensures)

pub side_now-requires : goal.side_now-requires
side_now-requires g c =
    let p = c.args.parts.now in
    let e = c.requires.may.over in
    let q = crossing_of c.in-Some.over in
    let over = same_crossing p.graph p.graph refl c.args.step q (stored_way p.layout.operators e) c.in-Some.ensures c.requires.may.crosses c.requires.may.tells in
    subst (λ (x : Crossing _). length x.near ≤ 2) (sym over) (near_within g.O.Operator.meaning p c.requires.read (is_in e.number p.layout.operators) e c.requires.may.lives)

pub far_of-requires : goal.far_of-requires
far_of-requires g c =
    let p = c.args.parts.now in
    let e = c.requires.may.over in
    let q = crossing_of c.in-Some.over in
    let over = same_crossing p.graph p.graph refl c.args.step q (stored_way p.layout.operators e) c.in-Some.ensures c.requires.may.crosses c.requires.may.tells in
    let near = near_kept c.as_slice-3.result.now p.stored c.as_slice-4.result.now c.args.made.now c.in_ok-near.near q.near c.in_ok-near.ensures c.as_slice-3.ensures c.as_slice-4.ensures in
    some_near g.O.Operator.meaning p c.requires.read (rows_now p.stored c.args.made.now) c.requires.well e c.requires.may.lives q over c.in_ok-near.near near

pub returns-in_default-2 : goal.returns-in_default-2
returns-in_default-2 g c e at tells =
    let p = c.args.parts.now in
    let q = crossing_of c.in-Some.over in
    let over = same_crossing p.graph p.graph refl c.args.step q (stored_way p.layout.operators e) c.in-Some.ensures (crosses p.graph.edges c.requires.read.built.graph.edges e at (is_in e.number p.layout.operators)) tells in
    let near = near_kept c.as_slice-3.result.now p.stored c.as_slice-4.result.now c.args.made.now c.in_ok-near.near q.near c.in_ok-near.ensures c.as_slice-3.ensures c.as_slice-4.ensures in
    let aux = some_kept c.in-Some-value_of.aux.now c.as_slice.result.now p.aux c.args.step.operator c.in-Some-value_of.ensures c.as_slice.ensures in
    let memory = some_kept c.in-Some-value_of-2.memory.now c.as_slice-2.result.now p.memories c.args.step.operator c.in-Some-value_of-2.ensures c.as_slice-2.ensures in
    subst (λ (x : Crossing _). IsNone g.O.Operator.meaning p (rows_now p.stored c.args.made.now) x) over (none_over g.O.Operator.meaning p c.requires.read (rows_now p.stored c.args.made.now) c.requires.well e at q over c.in_ok-near.near near g.met.O.Operator.laws c.args.step.operator (ap (λ (s : Step). s.operator) tells) c.in-Some-value_of.aux.now c.in-Some-value_of-2.memory.now aux memory (subst (λ (o : Option Tables). AdmitsFar (directed q.backward (g.O.Operator.meaning q.operator)) c.in_ok-near.near (tables_of c.in-Some-value_of.aux.now) c.in-Some-value_of-2.memory.now.entries o) c.in_default-2.is c.in_ok-far.ensures))

pub returns-then-not-stands : goal.returns-then-not-stands
returns-then-not-stands g c e at tells =
    let p = c.args.parts.now in
    let q = crossing_of c.in-Some.over in
    let over = same_crossing p.graph p.graph refl c.args.step q (stored_way p.layout.operators e) c.in-Some.ensures (crosses p.graph.edges c.requires.read.built.graph.edges e at (is_in e.number p.layout.operators)) tells in
    let near = near_kept c.as_slice-3.result.now p.stored c.as_slice-4.result.now c.args.made.now c.in_ok-near.near q.near c.in_ok-near.ensures c.as_slice-3.ensures c.as_slice-4.ensures in
    let aux = some_kept c.in-Some-value_of.aux.now c.as_slice.result.now p.aux c.args.step.operator c.in-Some-value_of.ensures c.as_slice.ensures in
    let memory = some_kept c.in-Some-value_of-2.memory.now c.as_slice-2.result.now p.memories c.args.step.operator c.in-Some-value_of-2.ensures c.as_slice-2.ensures in
    let sound = subst (λ (n : ℕ). Tells c.stands.result (TablesSound n c.in-Some-2.far)) c.next.ensures.value c.stands.ensures in
    subst (λ (x : Crossing _). IsNone g.O.Operator.meaning p (rows_now p.stored c.args.made.now) x) over (unsound g.O.Operator.meaning p c.requires.read (rows_now p.stored c.args.made.now) c.requires.well e at q over c.in_ok-near.near near g.met.O.Operator.laws c.args.step.operator (ap (λ (s : Step). s.operator) tells) c.in-Some-value_of.aux.now c.in-Some-value_of-2.memory.now aux memory c.in-Some-2.far (subst (λ (o : Option Tables). AdmitsFar (directed q.backward (g.O.Operator.meaning q.operator)) c.in_ok-near.near (tables_of c.in-Some-value_of.aux.now) c.in-Some-value_of-2.memory.now.entries o) c.in-Some-2.is c.in_ok-far.ensures) (λ h. false≢true (sym c.if-not-stands.true ∙ sound.1 h)))

pub put_side-requires : goal.put_side-requires
put_side-requires g c =
    let p = c.args.parts.now in
    let e = c.requires.may.over in
    let q = crossing_of c.in-Some.over in
    let over = same_crossing p.graph p.graph refl c.args.step q (stored_way p.layout.operators e) c.in-Some.ensures c.requires.may.crosses c.requires.may.tells in
    let near = near_kept c.as_slice-3.result.now p.stored c.as_slice-4.result.now c.args.made.now c.in_ok-near.near q.near c.in_ok-near.ensures c.as_slice-3.ensures c.as_slice-4.ensures in
    let aux = some_kept c.in-Some-value_of.aux.now c.as_slice.result.now p.aux c.args.step.operator c.in-Some-value_of.ensures c.as_slice.ensures in
    let memory = some_kept c.in-Some-value_of-2.memory.now c.as_slice-2.result.now p.memories c.args.step.operator c.in-Some-value_of-2.ensures c.as_slice-2.ensures in
    far_long g.O.Operator.meaning p c.requires.read (rows_now p.stored c.args.made.now) c.requires.well e c.requires.may.lives q over c.in_ok-near.near near g.met.O.Operator.laws c.args.step.operator (ap (λ (s : Step). s.operator) c.requires.may.tells) c.in-Some-value_of.aux.now c.in-Some-value_of-2.memory.now aux memory c.in-Some-2.far (subst (λ (o : Option Tables). AdmitsFar (directed q.backward (g.O.Operator.meaning q.operator)) c.in_ok-near.near (tables_of c.in-Some-value_of.aux.now) c.in-Some-value_of-2.memory.now.entries o) c.in-Some-2.is c.in_ok-far.ensures)

pub returns : goal.returns
returns g c e at tells =
    let p = c.args.parts.now in
    let q = crossing_of c.in-Some.over in
    let over = same_crossing p.graph p.graph refl c.args.step q (stored_way p.layout.operators e) c.in-Some.ensures (crosses p.graph.edges c.requires.read.built.graph.edges e at (is_in e.number p.layout.operators)) tells in
    let near = near_kept c.as_slice-3.result.now p.stored c.as_slice-4.result.now c.args.made.now c.in_ok-near.near q.near c.in_ok-near.ensures c.as_slice-3.ensures c.as_slice-4.ensures in
    let aux = some_kept c.in-Some-value_of.aux.now c.as_slice.result.now p.aux c.args.step.operator c.in-Some-value_of.ensures c.as_slice.ensures in
    let memory = some_kept c.in-Some-value_of-2.memory.now c.as_slice-2.result.now p.memories c.args.step.operator c.in-Some-value_of-2.ensures c.as_slice-2.ensures in
    let sound = subst (λ (n : ℕ). Tells c.stands.result (TablesSound n c.in-Some-2.far)) c.next.ensures.value c.stands.ensures in
    subst (λ (x : Crossing _). IsOver g.O.Operator.meaning p (rows_now p.stored c.args.made.now) (rows_now p.stored c.put_side.new.made) x) over (is_over g.O.Operator.meaning p c.requires.read (rows_now p.stored c.args.made.now) c.requires.well e at q over c.in_ok-near.near near g.met.O.Operator.laws c.args.step.operator (ap (λ (s : Step). s.operator) tells) c.in-Some-value_of.aux.now c.in-Some-value_of-2.memory.now aux memory c.in-Some-2.far (subst (λ (o : Option Tables). AdmitsFar (directed q.backward (g.O.Operator.meaning q.operator)) c.in_ok-near.near (tables_of c.in-Some-value_of.aux.now) c.in-Some-value_of-2.memory.now.entries o) c.in-Some-2.is c.in_ok-far.ensures) (rows_now p.stored c.put_side.new.made) (c.in_ok-put_side.ensures p.stored) (sound.0 c.if-not-stands.false))
