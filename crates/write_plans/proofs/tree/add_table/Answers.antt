use Rattle.std.proofs.Common.{sym, ap, ◌∙◌}
use Rattle.std.proofs.Common.{List, ℕ}
use Rattle.version_graph.specs.Edges.{is_in}
use Rattle.write_plans.proofs.SpreadLemmas.{adds_new, adds_old}
use Rattle.write_plans.proofs.tree.add_table.Goals as goal

pub returns-then-holds : goal.returns-then-holds
returns-then-holds c = adds_old c.args.tables.now c.args.table (sym (c.holds.ensures ∙ ap (λ (l : List ℕ). is_in c.args.table l) c.as_slice.ensures) ∙ c.if-holds.true)

pub returns-in_ok-push : goal.returns-in_ok-push
returns-in_ok-push c =
    adds_new c.args.tables.now c.push.new.self c.args.table (sym (c.holds.ensures ∙ ap (λ (l : List ℕ). is_in c.args.table l) c.as_slice.ensures) ∙ c.if-holds.false) c.in_ok-push.ensures.ok
