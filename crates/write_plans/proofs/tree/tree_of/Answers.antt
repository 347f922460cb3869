use Rattle.std.proofs.Common.{◌≡◌, ℕ, List, [], ◌∷◌, ◌++◌, inl, inr, refl, sym, ap, ◌∙◌, subst}
use Rattle.version_graph.specs.Sets.{In}
use Rattle.version_graph.specs.Tables.{table_numbers}
use Rattle.version_graph.specs.Edges.{made}
use Rattle.version_graph.specs.Forest.{forest, walk}
use Rattle.version_model.proofs.CrossingLaws.{walk_crosses_edges}
use Rattle.changes_walk.specs.Reach.{IsReach}
use Rattle.write_plans.specs.Trees.{AreTold, touched_of}
use Rattle.write_plans.proofs.SpreadLemmas.{InRoot, begins, is_reach, still_in_root, walk_live}
use Rattle.write_plans.proofs.tree.tree_of.Goals as goal

pub loop-tables-init : goal.loop-tables-init
loop-tables-init g c =
    let es = c.args.graph.now.edges in
    let table = c.args.table in
    let is : c.push.new.self ≡ table ∷ [] = c.in_ok-push.ensures.ok ∙ ap (λ (l : List ℕ). l ++ table ∷ []) c.new-tables.ensures in
    record {
      held = subst (λ (l : List ℕ). In table l) (sym is) (inl refl);
      from = λ t i.
          elim (subst (λ (l : List ℕ). In t l) is i) as (λ _. InRoot es c.args.set t) [
            | inl same ↦ subst (λ (k : ℕ). InRoot es c.args.set k) (sym same) (begins es c.requires.edges c.args.set table c.requires.table)
            | inr none ↦ absurd none
          ];
    }

pub spread-requires : goal.spread-requires
spread-requires g c =
    let es = c.args.graph.now.edges in
    (walk (forest es) c.args.set, record { crossings = walk_crosses_edges es c.requires.edges c.args.set; told = c.as_slice.ensures ∙ c.in_ok-walk.ensures })

pub loop-tables-smaller : goal.loop-tables-smaller
loop-tables-smaller g c =
    let es = c.args.graph.now.edges in
    let told : AreTold es c.as_slice.result.now (walk (forest es) c.args.set) = record { crossings = walk_crosses_edges es c.requires.edges c.args.set; told = c.as_slice.ensures ∙ c.in_ok-walk.ensures } in
    (c.in_ok-spread.ensures (walk (forest es) c.args.set) told).less c.if-branch.true (table_numbers (made es)) (walk_live es c.requires.edges c.args.set)

pub loop-tables-preserved : goal.loop-tables-preserved
loop-tables-preserved g c =
    let es = c.args.graph.now.edges in
    let told : AreTold es c.as_slice.result.now (walk (forest es) c.args.set) = record { crossings = walk_crosses_edges es c.requires.edges c.args.set; told = c.as_slice.ensures ∙ c.in_ok-walk.ensures } in
    let spreads = c.in_ok-spread.ensures (walk (forest es) c.args.set) told in
    let inv = c.loop-tables.invariant in
    record {
      held = spreads.stay c.args.table inv.held;
      from = still_in_root es c.requires.edges c.args.set c.loop-tables.tables c.spread.new.tables c.in_ok-spread.field-0 spreads inv.from;
    }

pub touched-requires : goal.touched-requires
touched-requires g c =
    let es = c.args.graph.now.edges in
    (walk (forest es) c.args.set, record { crossings = walk_crosses_edges es c.requires.edges c.args.set; told = c.as_slice-2.ensures ∙ c.in_ok-walk.ensures })

pub returns : goal.returns
returns g c =
    let es = c.args.graph.now.edges in
    let path = walk (forest es) c.args.set in
    let crossings = walk_crosses_edges es c.requires.edges c.args.set in
    let spreads = c.in_ok-spread.ensures path (record { crossings = crossings; told = c.as_slice.ensures ∙ c.in_ok-walk.ensures }) in
    let tables = c.spread.new.tables in
    let inv = c.loop-tables.invariant in
    let reach =
    is_reach es c.requires.edges c.args.set c.args.table tables (spreads.stay c.args.table inv.held)
    (still_in_root es c.requires.edges c.args.set c.loop-tables.tables tables c.in_ok-spread.field-0 spreads inv.from) (spreads.closed c.if-branch.false) in
    let operators = c.in_ok-operators.ensures path (record { crossings = crossings; told = c.as_slice-2.ensures ∙ c.in_ok-walk.ensures }) ∙ ap (λ (l : List ℕ). touched_of l path) c.as_slice-3.ensures in
    subst (λ (l : List ℕ). IsReach es c.args.set c.args.table l tables) (sym operators) reach
