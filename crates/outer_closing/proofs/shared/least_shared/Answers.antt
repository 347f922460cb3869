use Rattle.std.proofs.Common.{sym, ◌∙◌}
use Rattle.table_keys.specs.States.{behind}
use Rattle.outer_closing.proofs.SharedLemmas.{none_of, passed_on, shared_found, shared_lost}
use Rattle.outer_closing.proofs.shared.least_shared.Goals as goal

pub loop-id-preserved : goal.loop-id-preserved
loop-id-preserved c =
    passed_on c.args.half c.args.memory.now.entries c.args.replaced.now c.args.keys.now.rows c.args.values.now (behind c.loop-id.after) c.loop-id.invariant
    c.least_with.result c.in-Some.id c.in-Some.is c.least_with.ensures (sym c.is_shared.ensures ∙ c.if-is_shared.false)

pub returns-then-is_shared : goal.returns-then-is_shared
returns-then-is_shared c =
    shared_found c.args.half c.args.memory.now.entries c.args.replaced.now c.args.keys.now.rows c.args.values.now (behind c.loop-id.after) c.loop-id.invariant
    c.least_with.result c.in-Some.id c.in-Some.is c.least_with.ensures (sym c.is_shared.ensures ∙ c.if-is_shared.true) c.get.ensures.rise

pub returns : goal.returns
returns c =
    shared_lost c.args.half c.args.memory.now.entries c.args.replaced.now c.args.keys.now.rows c.args.values.now (behind c.loop-id.after) c.loop-id.invariant
    c.least_with.result (none_of c.least_with.result c.in_default.not-Some) c.least_with.ensures c.get.ensures.rise
