use Rattle.std.proofs.Common.{◌||◌, ◌+◌, List, Bool, false, take, get_or, sym, subst}
use Rattle.std.proofs.lemmas.List.{take_all, take_more}
use Rattle.version_graph.specs.Forest.{Crossing}
use Rattle.version_graph.specs.declared.parts.Step.{Step}
use Rattle.version_graph.proofs.SetLaws.{each_at}
use Rattle.version_graph.proofs.WalkStepLaws.{in_at}
use Rattle.version_model.specs.Calls.{IsCrossing}
use Rattle.changes_walk.proofs.PlaceLaws.{told_at, no_more_told}
use Rattle.write_plans.specs.Trees.{Spreads, SpreadsOver}
use Rattle.write_plans.proofs.SpreadLemmas.{spreads_more, spreads_none}
use Rattle.write_plans.proofs.tree.spread.Goals as goal

pub loop-step-init : goal.loop-step-init
loop-step-init g c ps told = spreads_none c.args.tables.now

pub way_at-over-requires : goal.way_at-over-requires
way_at-over-requires g c =
    let ps = c.requires.0 in
    let told = c.requires.1 in
    let i = c.loop-step.step-index in
    let first : Step = record { operator = 0; backward = false } in
    let at = told_at c.args.walk.now ps i first told.told c.loop-step-test.true in
    (get_or ps i at.0, each_at (IsCrossing c.args.graph.now.edges) ps (get_or ps i at.0) (in_at ps i at.0 at.1) told.crossings, sym at.2)

pub loop-step-preserved : goal.loop-step-preserved
loop-step-preserved g c ps told =
    let i = c.loop-step.step-index in
    let first : Step = record { operator = 0; backward = false } in
    let at = told_at c.args.walk.now ps i first told.told c.loop-step-test.true in
    let p = get_or ps i at.0 in
    let over = c.way_at-over.ensures p (each_at (IsCrossing c.args.graph.now.edges) ps p (in_at ps i at.0 at.1) told.crossings) (sym at.2) in
    let last = subst (λ (q : Crossing _). SpreadsOver q c.loop-step.tables c.spread_over.new.tables c.in_ok-added.added) over c.in_ok-added.ensures in
    let more = c.loop-step.more || c.in_ok-added.added in
    subst (λ (b : Bool). Spreads (take (i + 1) ps) c.args.tables.now c.spread_over.new.tables b) (sym c.either-more.ensures)
    (subst (λ (l : List (Crossing _)). Spreads l c.args.tables.now c.spread_over.new.tables more) (sym (take_more ps i at.0 at.1))
    (spreads_more (take i ps) p c.args.tables.now c.loop-step.tables c.spread_over.new.tables c.loop-step.more c.in_ok-added.added (c.loop-step.invariant ps told) last))

pub returns : goal.returns
returns g c ps told =
    subst (λ (l : List (Crossing _)). Spreads l c.args.tables.now c.loop-step.tables c.loop-step.more) (take_all c.loop-step.step-index ps (no_more_told c.args.walk.now ps c.loop-step.step-index told.told c.loop-step-test.false))
    (c.loop-step.invariant ps told)
