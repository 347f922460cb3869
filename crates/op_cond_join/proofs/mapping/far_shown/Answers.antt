use Rattle.std.proofs.Common.{◌∙◌, ap, sym, subst}
use Rattle.id_memory.specs.Pairs.{Pairs, RiseFrom, IsOneToOne}
use Rattle.id_memory.specs.States.{CounterState}
use Rattle.op_cond_join.specs.inner.Calls.{shown_in}
use Rattle.op_cond_join.proofs.mapping.far_shown.Goals as goal

pub target_of-requires-clause-rise : goal.target_of-requires-clause-rise
target_of-requires-clause-rise g c =
    let same = ap (λ (counter : CounterState). shown_in c.args.it.now counter.next) c.copy-drawn.ensures in
    subst (λ (es : Pairs). RiseFrom 0 es) (sym (c.as_slice.ensures ∙ c.in_ok-pairs.ensures.1 ∙ same)) c.requires.rise

pub target_of-requires-clause-one : goal.target_of-requires-clause-one
target_of-requires-clause-one g c =
    let same = ap (λ (counter : CounterState). shown_in c.args.it.now counter.next) c.copy-drawn.ensures in
    subst (λ (es : Pairs). IsOneToOne es) (sym (c.as_slice.ensures ∙ c.in_ok-pairs.ensures.1 ∙ same)) c.requires.one
