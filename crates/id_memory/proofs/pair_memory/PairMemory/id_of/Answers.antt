use Rattle.std.proofs.Common.{ap, ◌∙◌}
use Rattle.id_memory.specs.Pairs.{id_of}
use Rattle.id_memory.specs.States.{MemoryState}
use Rattle.id_memory.proofs.IndexLemmas.{looked_up}
use Rattle.id_memory.proofs.pair_memory.PairMemory.id_of.Goals as goal

pub returns : goal.returns
returns c =
    c.third_of.ensures ∙ looked_up c.self.inside.entries.entries c.self.inside.by_first.entries c.self.inside.by_second.entries c.self.invariant.0 c.args.s c.args.t
    ∙ ap (λ (memory : MemoryState). id_of memory.entries c.args.s c.args.t) c.self.view_is
