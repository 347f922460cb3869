use Rattle.std.proofs.Common.{is_some, ap, sym, ◌∙◌}
use Rattle.outer_entries.specs.inner.Calls.{is_full_in}
use Rattle.pair_rows.specs.Shown.{has}
use Rattle.outer_entries.proofs.FindingLemmas.{adds_none, not_new, not_full}
use Rattle.outer_entries.proofs.finding.add_if_new.Goals as goal

pub returns-then-is_some : goal.returns-then-is_some
returns-then-is_some g c =
    let it = c.args.it.now in
    let none = not_new (is_full_in it c.args.a c.args.b) (has it.memory.now.entries c.args.a c.args.b) (sym (c.is_some.ensures ∙ ap is_some c.id_of.ensures) ∙ c.if-is_some.true) in
    rw none (adds_none c.args.found.now)

pub returns-else-branch : goal.returns-else-branch
returns-else-branch g c =
    let it = c.args.it.now in
    let none = not_full (is_full_in it c.args.a c.args.b) (has it.memory.now.entries c.args.a c.args.b) (sym c.in_ok-is_full.ensures ∙ c.if-branch.false) in
    rw none (adds_none c.args.found.now)
