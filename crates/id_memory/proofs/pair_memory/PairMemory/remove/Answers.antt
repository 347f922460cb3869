use Rattle.std.proofs.Common.{None, ap, subst, sym, ◌∙◌, rules}
use Rattle.id_memory.specs.Pairs.{Pairs, IsWith}
use Rattle.id_memory.specs.States.{MemoryState}
use Rattle.id_memory.proofs.IdLemmas.{none_taken}
use Rattle.id_memory.proofs.IndexLemmas.{in_first, in_second}
use Rattle.id_memory.proofs.pair_memory.PairMemory.remove.Goals as goal

pub leave_both-requires-clause-first : goal.leave_both-requires-clause-first
leave_both-requires-clause-first c =
    let it = c.self.invariant.0 in
    record {
      rises = it.first_rises;
      there = in_first c.self.inside.entries.entries c.self.inside.by_first.entries c.self.inside.by_second.entries it c.args.p c.in-Some.s c.in-Some.t (search rules);
    }

pub leave_both-requires-clause-second : goal.leave_both-requires-clause-second
leave_both-requires-clause-second c =
    let it = c.self.invariant.0 in
    record {
      rises = it.second_rises;
      there = in_second c.self.inside.entries.entries c.self.inside.by_first.entries c.self.inside.by_second.entries it c.args.p c.in-Some.s c.in-Some.t (search rules);
    }

pub returns-in_default-clause-without : goal.returns-in_default-clause-without
returns-in_default-clause-without c =
    subst (λ (m : Pairs). IsWith m c.args.p None m) (ap (λ (memory : MemoryState). memory.entries) c.self.view_is)
    (none_taken c.self.inside.entries.entries c.args.p c.self.invariant.0.rises (sym c.find.ensures ∙ c.in_default.is))
