use Rattle.std.proofs.Common.{ℕ, ap, refl, sym, subst, ◌∙◌}
use Rattle.std.proofs.lemmas.Result.{err_from_is_err_and}
use Rattle.id_memory.specs.Pairs.{Pairs, RiseFrom, IsOneToOne}
use Rattle.id_memory.specs.States.{CounterState}
use Rattle.op_cond_join.specs.Joinings.{joining}
use Rattle.op_cond_join.specs.inner.Assignings.{assigning, AreBelowNext, given_in, end_of, mapped_back}
use Rattle.op_cond_join.proofs.MappingLemmas.{given_mapped, given_refused}
use Rattle.op_cond_join.proofs.mapping.far_from.Goals as goal

pub assign-requires-clause-below : goal.assign-requires-clause-below
assign-requires-clause-below c = subst (λ (n : ℕ). AreBelowNext (assigning c.args.it.now n)) (sym (ap (λ (counter : CounterState). counter.next) c.copy-drawn.ensures)) c.requires.below

pub source_of-requires-clause-rise : goal.source_of-requires-clause-rise
source_of-requires-clause-rise c =
    let next = ap (λ (counter : CounterState). counter.next) c.copy-drawn.ensures in
    let same = ap (λ (n : ℕ). given_in c.args.join.now c.args.old.now (assigning c.args.it.now n) c.args.near.now.rows) next in
    subst (λ (es : Pairs). RiseFrom 0 es) (sym (c.as_slice.ensures ∙ c.in_ok-pairs.ensures.1.0 ∙ same)) c.requires.rise

pub source_of-requires-clause-one : goal.source_of-requires-clause-one
source_of-requires-clause-one c =
    let next = ap (λ (counter : CounterState). counter.next) c.copy-drawn.ensures in
    let same = ap (λ (n : ℕ). given_in c.args.join.now c.args.old.now (assigning c.args.it.now n) c.args.near.now.rows) next in
    subst (λ (es : Pairs). IsOneToOne es) (sym (c.as_slice.ensures ∙ c.in_ok-pairs.ensures.1.0 ∙ same)) c.requires.one

pub returns-in_err-pairs : goal.returns-in_err-pairs
returns-in_err-pairs c =
    let copy = c.copy-drawn.result in
    let next = ap (λ (counter : CounterState). counter.next) c.copy-drawn.ensures in
    let to = mapped_back c.args.join.now c.args.old.now (assigning c.args.it.now c.args.ids.now.next) c.args.near.now.rows in
    let end = end_of c.args.join.now c.args.old.now c.args.it.now copy.next c.args.near.now.rows in
    let same = ap (λ (n : ℕ). (end_of c.args.join.now c.args.old.now c.args.it.now n c.args.near.now.rows).next) next in
    let p = err_from_is_err_and c.from_residual.result c.from_residual.ensures.1 in
    rw (p.1, p.2) (given_refused to end.next c.args.ids.now copy c.in_err-pairs.field-0.0 c.copy-drawn.ensures same c.in_err-pairs.ensures)

pub returns : goal.returns
returns c =
    let copy = c.copy-drawn.result in
    let next = ap (λ (counter : CounterState). counter.next) c.copy-drawn.ensures in
    given_mapped (joining c.args.join.now) c.args.old.now.rows.now.rows c.args.near.now.rows c.args.old.now.memory.now.entries
    (assigning c.args.it.now c.args.ids.now.next) (assigning c.args.it.now copy.next) c.args.ids.now copy c.assign.new.ids (assigning c.assign.new.it c.assign.new.ids.next)
    c.in_ok-pairs.pairs c.in_ok-far.far.memory.entries _ _ c.in_ok-far.far.side
    c.copy-drawn.ensures (ap (λ (n : ℕ). assigning c.args.it.now n) next)
    c.in_ok-pairs.ensures.0 c.in_ok-pairs.ensures.1.0 c.in_ok-pairs.ensures.1.1 c.in_ok-pairs.ensures.2 (c.in_ok-far.ensures.memory ∙ c.as_slice.ensures) refl refl c.in_ok-far.ensures.side
