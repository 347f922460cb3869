use Rattle.std.proofs.Common.{◌++◌, ◌∷◌, [], List, ℕ, false, take, get_or, sym, ap, ◌∙◌}
use Rattle.std.proofs.lemmas.List.{take_all}
use Rattle.version_graph.specs.declared.parts.Step.{Step}
use Rattle.version_graph.proofs.SetLaws.{each_at}
use Rattle.version_graph.proofs.WalkStepLaws.{in_at}
use Rattle.version_model.specs.Calls.{IsCrossing}
use Rattle.changes_walk.proofs.PlaceLaws.{told_at, no_more_told}
use Rattle.write_plans.specs.Trees.{touched_of, touches}
use Rattle.write_plans.proofs.SpreadLemmas.{touched_more, touched_past}
use Rattle.write_plans.proofs.tree.touched.Goals.{then-touches+in_ok-push, else-touches}
use Rattle.write_plans.proofs.tree.touched.Goals as goal

pub way_at-requires : goal.way_at-requires
way_at-requires g c =
    let ps = c.requires.0 in
    let told = c.requires.1 in
    let i = c.loop-step.step-index in
    let first : Step = record { operator = 0; backward = false } in
    let at = told_at c.args.walk.now ps i first told.told c.loop-step-test.true in
    (get_or ps i at.0, each_at (IsCrossing c.args.graph.now.edges) ps (get_or ps i at.0) (in_at ps i at.0 at.1) told.crossings, sym at.2)

pub loop-step-preserved : goal.loop-step-preserved
loop-step-preserved g c ps told =
    let tables = c.args.tables.now in
    let i = c.loop-step.step-index in
    let first : Step = record { operator = 0; backward = false } in
    let at = told_at c.args.walk.now ps i first told.told c.loop-step-test.true in
    let p = get_or ps i at.0 in
    let over = c.way_at.ensures p (each_at (IsCrossing c.args.graph.now.edges) ps p (in_at ps i at.0 at.1) told.crossings) (sym at.2) in
    let test = c.touches.ensures ∙ ap (touches tables) over in
    elim c.if-touches.branch [
      | then-touches+in_ok-push w ↦
          rw w.made-is
          (w.in_ok-push.ensures.ok ∙ ap (λ (l : List ℕ). l ++ (get_or c.args.walk.now i first).operator ∷ []) (c.loop-step.invariant ps told) ∙ ap (λ (n : ℕ). touched_of tables (take i ps) ++ n ∷ []) (ap (λ (s : Step). s.operator) at.2) ∙ sym (touched_more tables ps i at.0 at.1 (sym test ∙ w.if-touches.true)))
      | else-touches w ↦ rw w.made-is (c.loop-step.invariant ps told ∙ sym (touched_past tables ps i at.0 at.1 (sym test ∙ w.if-touches.false)))
    ]

pub returns : goal.returns
returns g c ps told =
    c.loop-step.invariant ps told ∙ ap (touched_of c.args.tables.now) (take_all c.loop-step.step-index ps (no_more_told c.args.walk.now ps c.loop-step.step-index told.told c.loop-step-test.false))
