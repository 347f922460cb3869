use Rattle.std.proofs.Common.{◌+◌, [], ◌∷◌, ◌++◌, map, drop, Ok, sym, ap, ◌∙◌}
use Rattle.std.proofs.lemmas.List.{drop_more}
use Rattle.statements.specs.Views.{op_view}
use Rattle.par_base.specs.Checked.{◌then◌}
use Rattle.engine_versions.specs.Evolve.{edges_on, target_count, with_one}
use Rattle.engine_versions.proofs.EdgeLemmas.{edges_step}
use Rattle.engine_versions.proofs.edges.edges_from.Goals as goal

pub loop-text-preserved : goal.loop-text-preserved
loop-text-preserved c =
    let texts = c.args.texts.now in
    let at = c.loop-text.text-index in
    let next = c.args.next in
    let here = drop_more texts at c.text-item.result c.loop-text-test.true ∙ ap (λ x. x ∷ drop (at + 1) texts) (sym c.text-item.is) in
    let step = edges_step c.loop-text.set c.loop-text.reached next (op_view c.text-item.result) (map op_view (drop (at + 1) texts)) c.loop-text.edges c.in_ok-edge.edge c.in_ok-reached.ensures.gives (rw c.as_slice.ensures at c.in_ok-edge.ensures) in
    c.loop-text.invariant
    ∙ ap (λ l. (edges_on c.loop-text.set c.loop-text.reached next (map op_view l)) then λ rest. Ok (c.loop-text.edges ++ rest)) here
    ∙ step
    ∙ ap (λ s. (edges_on s (with_one c.loop-text.reached (target_count (op_view c.text-item.result))) next (map op_view (drop (at + 1) texts))) then λ rest. Ok ((c.loop-text.edges ++ c.in_ok-edge.edge ∷ []) ++ rest)) (sym c.in-Ok.ensures)
    ∙ ap (λ r. (edges_on c.in-Ok.after r next (map op_view (drop (at + 1) texts))) then λ rest. Ok ((c.loop-text.edges ++ c.in_ok-edge.edge ∷ []) ++ rest)) (sym c.in_ok-reached.ensures.more)
    ∙ ap (λ es. (edges_on c.in-Ok.after c.in_ok-reached.reached next (map op_view (drop (at + 1) texts))) then λ rest. Ok (es ++ rest)) (sym c.in_ok-push.ensures.ok)
