use Rattle.std.proofs.Common.{◌∙◌, sym, subst}
use Rattle.id_memory.specs.Pairs.{Pairs, RiseFrom, IsOneToOne}
use Rattle.outer_entries.proofs.starting.full_memory.Goals as goal

pub memory_of-requires-clause-rise : goal.memory_of-requires-clause-rise
memory_of-requires-clause-rise c = subst (λ (es : Pairs). RiseFrom 0 es) (sym (c.as_slice.ensures ∙ c.in_ok-shown.ensures)) c.requires.rise

pub memory_of-requires-clause-one : goal.memory_of-requires-clause-one
memory_of-requires-clause-one c = subst (λ (es : Pairs). IsOneToOne es) (sym (c.as_slice.ensures ∙ c.in_ok-shown.ensures)) c.requires.one
