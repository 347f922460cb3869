use Rattle.std.proofs.Common.{ℕ, ap, refl, sym, subst, ◌∙◌}
use Rattle.std.proofs.lemmas.Result.{err_from_is_err_and}
use Rattle.id_memory.specs.Pairs.{Pairs, RiseFrom, IsOneToOne}
use Rattle.id_memory.specs.States.{CounterState}
use Rattle.outer_entries.specs.Showings.{joining_of}
use Rattle.outer_entries.specs.Placings.{placing_of, IsReady, placed_in, ending_in}
use Rattle.op_outer_cond.specs.inner.Mappings.{mapped_in}
use Rattle.op_outer_cond.proofs.BackwardLemmas.{placed_mapped, placed_refused}
use Rattle.op_outer_cond.proofs.mapping.far_from.Goals as goal

pub place-requires : goal.place-requires
place-requires c = subst (λ (n : ℕ). IsReady c.args.it.now n) (sym (ap (λ (counter : CounterState). counter.next) c.copy-drawn.ensures)) c.requires.ready

pub source_of-requires-clause-rise : goal.source_of-requires-clause-rise
source_of-requires-clause-rise c =
    let next = ap (λ (counter : CounterState). counter.next) c.copy-drawn.ensures in
    let same = ap (λ (n : ℕ). placed_in c.args.join.now c.args.old.now (placing_of c.args.it.now n) c.args.near.now.rows) next in
    subst (λ (es : Pairs). RiseFrom 0 es) (sym (c.as_slice.ensures ∙ c.in_ok-made.ensures.1.0 ∙ same)) c.requires.rise

pub source_of-requires-clause-one : goal.source_of-requires-clause-one
source_of-requires-clause-one c =
    let next = ap (λ (counter : CounterState). counter.next) c.copy-drawn.ensures in
    let same = ap (λ (n : ℕ). placed_in c.args.join.now c.args.old.now (placing_of c.args.it.now n) c.args.near.now.rows) next in
    subst (λ (es : Pairs). IsOneToOne es) (sym (c.as_slice.ensures ∙ c.in_ok-made.ensures.1.0 ∙ same)) c.requires.one

pub returns-in_err-made : goal.returns-in_err-made
returns-in_err-made c =
    let d = placing_of c.args.it.now c.args.ids.now.next in
    let copy = c.copy-drawn.result in
    let next = ap (λ (counter : CounterState). counter.next) c.copy-drawn.ensures in
    let to = mapped_in c.args.join.now c.args.old.now d c.args.near.now.rows in
    let end = ending_in c.args.join.now c.args.old.now (placing_of c.args.it.now copy.next) c.args.near.now.rows in
    let same = ap (λ (n : ℕ). (ending_in c.args.join.now c.args.old.now (placing_of c.args.it.now n) c.args.near.now.rows).next) next in
    let p = err_from_is_err_and c.from_residual.result c.from_residual.ensures.1 in
    rw (p.1, p.2) (placed_refused to end.next c.args.ids.now copy c.in_err-made.field-0.0 c.copy-drawn.ensures same c.in_err-made.ensures)

pub returns : goal.returns
returns c =
    let copy = c.copy-drawn.result in
    let next = ap (λ (counter : CounterState). counter.next) c.copy-drawn.ensures in
    placed_mapped (joining_of c.args.join.now) c.args.old.now.rows.now.rows c.args.near.now.rows c.args.old.now.memory.now.entries
    (placing_of c.args.it.now c.args.ids.now.next) (placing_of c.args.it.now copy.next) c.args.ids.now copy c.place.new.ids (placing_of c.place.new.it c.place.new.ids.next)
    c.in_ok-made.made c.in_ok-far.far.memory.entries _ _ c.in_ok-far.far.side
    c.copy-drawn.ensures (ap (λ (n : ℕ). placing_of c.args.it.now n) next)
    c.in_ok-made.ensures.0 c.in_ok-made.ensures.1.0 c.in_ok-made.ensures.1.1 c.in_ok-made.ensures.2 (c.in_ok-far.ensures.memory ∙ c.as_slice.ensures) refl refl c.in_ok-far.ensures.side
