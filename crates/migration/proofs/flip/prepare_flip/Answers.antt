use Rattle.std.proofs.Common.{ℕ, List, [], ◌∷◌, sym, ap, ◌∙◌, subst}
use Rattle.version_graph.specs.Edges.{Drawn, Rises}
use Rattle.layout_rules.specs.declared.layout.Layout.{Layout}
use Rattle.layout_rules.specs.Lookups.{numbers_up}
use Rattle.layout_rules.proofs.CloseLaws.{numbers_rise}
use Rattle.layout_rules.proofs.PassLaws.{rises_filter}
use Rattle.migration.specs.Sides.{changes_side, flipped_layout}
use Rattle.migration.proofs.TurnLemmas.{flip_turns, turns_if}
use Rattle.migration.proofs.flip.prepare_flip.Goals as goal

pub prepare-requires-clause-ascending : goal.prepare-requires-clause-ascending
prepare-requires-clause-ascending g c =
    let es = c.args.db.now.graph.edges in
    let sides = c.layout.result.now.operators in
    let is = c.in_ok-goal.ensures ∙ ap (λ (d : Drawn _). flipped_layout d.edges c.args.operator sides) c.graph.ensures.graph in
    subst (λ (l : List ℕ). Rises 0 l) (sym is) (rises_filter (changes_side sides (c.args.operator ∷ [])) 0 (numbers_up es) (numbers_rise es c.graph.ensures.kept.graph.edges))

pub returns-clause-turns : goal.returns-clause-turns
returns-clause-turns g c =
    let old = c.args.db.now in
    let n = c.args.operator in
    let es = old.graph.edges in
    let sides = old.layout.operators in
    let same = c.in_ok-goal.ensures ∙ ap (λ (d : Drawn _). flipped_layout d.edges n c.layout.result.now.operators) c.graph.ensures.graph ∙ ap (λ (l : Layout). flipped_layout es n l.operators) c.layout.ensures in
    turns_if c.prepare.result c.in_ok-goal.goal n sides (flipped_layout es n sides) same (flip_turns es n sides c.graph.ensures.kept.valid.live c.requires.lives) c.prepare.ensures.layout
