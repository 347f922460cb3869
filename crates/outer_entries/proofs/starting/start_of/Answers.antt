use Rattle.std.proofs.Common.{◌∙◌, ap, sym, subst}
use Rattle.id_memory.specs.Pairs.{Pairs, RiseFrom, IsOneToOne}
use Rattle.outer_law.specs.Placed.{full}
use Rattle.outer_entries.proofs.StartLemmas.{start_from}
use Rattle.outer_entries.proofs.starting.start_of.Goals as goal

pub full_memory-requires-clause-rise : goal.full_memory-requires-clause-rise
full_memory-requires-clause-rise c = subst (λ (es : Pairs). RiseFrom 0 es) (sym (ap full (c.as_slice.ensures ∙ c.in_ok-taken.ensures.entries))) c.requires.rise

pub full_memory-requires-clause-one : goal.full_memory-requires-clause-one
full_memory-requires-clause-one c = subst (λ (es : Pairs). IsOneToOne es) (sym (ap full (c.as_slice.ensures ∙ c.in_ok-taken.ensures.entries))) c.requires.one

pub returns-clause-start : goal.returns-clause-start
returns-clause-start c = λ n.
    let all = ap full (c.as_slice.ensures ∙ c.in_ok-taken.ensures.entries) in
    start_from c.args.s.now.rows c.args.t.now.rows c.args.old.now.rows.now.rows c.args.new.now.rows c.args.old.now.memory.now.entries c.in_ok-whole.whole.entries
    (record { first = c.in_ok-first.first; second = c.in_ok-second.second; taken = c.in_ok-taken.taken })
    c.in_ok-first.ensures.all c.in_ok-second.ensures.all c.in_ok-first.ensures.shared c.in_ok-second.ensures.shared c.in_ok-taken.ensures.entries (c.in_ok-whole.ensures ∙ all) n
