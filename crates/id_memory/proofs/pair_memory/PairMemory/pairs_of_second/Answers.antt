use Rattle.std.proofs.Common.{◌==◌, ap, ◌∙◌}
use Rattle.std.specs.Prelude.{min}
use Rattle.id_memory.specs.Pairs.{with_second}
use Rattle.id_memory.specs.States.{MemoryState}
use Rattle.id_memory.proofs.pair_memory.PairMemory.pairs_of_second.Goals as goal

pub returns : goal.returns
returns c =
    c.count_of.ensures ∙ ap (min c.args.most) (c.self.invariant.0.second_lists (λ x. x.0 == c.args.t))
    ∙ ap (λ (memory : MemoryState). min c.args.most (with_second c.args.t memory.entries)) c.self.view_is
