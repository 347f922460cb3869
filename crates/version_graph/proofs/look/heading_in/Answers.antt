use Rattle.std.proofs.Common.{ℕ, ◌<◌, List, length, get_or, arith, ap, sym, ◌∙◌}
use Rattle.version_graph.proofs.LookLemmas.{found_here, found_later}
use Rattle.version_graph.proofs.look.heading_in.Goals as goal

pub returns-then-table-made : goal.returns-then-table-made
returns-then-table-made g c =
    let ns = c.args.placed.now.tables in
    let i = c.loop-at.at in
    let within : i < length ns = omega (arith, ap length c.as_slice-made-items.ensures) in
    c.get.ensures.value
    ∙ sym (found_here c.args.table ns c.args.placed.now.edge.targets i within c.requires (c.if-table-made.true ∙ ap (λ (l : List ℕ). get_or l i 0) c.as_slice-made-items.ensures))
    ∙ c.loop-at.invariant

pub loop-at-preserved : goal.loop-at-preserved
loop-at-preserved g c =
    let ns = c.args.placed.now.tables in
    let i = c.loop-at.at in
    let within : i < length ns = omega (arith, ap length c.as_slice-made-items.ensures) in
    sym (found_later c.args.table ns c.args.placed.now.edge.targets i within c.requires (λ same. c.if-table-made.false (same ∙ ap (λ (l : List ℕ). get_or l i 0) (sym c.as_slice-made-items.ensures))))
    ∙ c.loop-at.invariant
