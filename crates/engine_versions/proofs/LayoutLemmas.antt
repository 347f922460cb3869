-- The layout follows the graph, and a drop gives what the model says.
use Rattle.std.specs.Prelude.{Option, Some, None, Result, Ok, Err, OnErr, OnOk}
use Rattle.std.specs.Option.{IsSome}
use Rattle.std.proofs.Common.{◌≡◌, ℕ, List, refl, sym, ap, ◌∙◌, subst}
use Rattle.std.proofs.lemmas.Bool.{false≢true}
use Rattle.par_base.specs.declared.fault.Fault.{Fault}
use Rattle.par_base.specs.declared.fault.Fault.TheVariants.{Refused, Memory}
use Rattle.par_base.specs.declared.refusal.Refusal.{Refusal}
use Rattle.par_base.specs.declared.refusal.Refusal.TheVariants.{UnknownVersion}
use Rattle.version_graph.specs.Edges.{Drawn, set_named}
use Rattle.version_graph.specs.declared.parts.Edge.{Edge}
use Rattle.layout_rules.specs.Changes.{evolved_layout, layout_after}
use Rattle.layout_rules.specs.declared.layout.Layout.{Layout}
use Rattle.layout_rules.proofs.AfterLaws.{layout_dropped, layout_evolved, same_layout}
use Rattle.par_base.specs.Checked.{◌then◌, Gives}
use Rattle.op_any.specs.Operators.{AnyView, any_meaning}
use Rattle.version_model.specs.Databases.{Evolves, dropped_database, start_in}
use Rattle.db_state.specs.Fields.{IsDatabase, database_for}
use Rattle.db_state.specs.declared.parts.Parts.{Parts}
use Rattle.migration.specs.MoveAnswers.{Drops}
use Rattle.engine_state.specs.AnyDatabase.{AnyDatabase}
use Rattle.engine_state.specs.SharedChecks.{known_version}
use Rattle.engine_versions.specs.Evolve.{dropped_version}

module _ (p : Parts AnyView) (is : IsDatabase any_meaning p) where
  -- where nothing changes
  pub layout_stays : p.layout.operators ≡ layout_after p.layout.operators p.graph p.graph
  layout_stays = sym (same_layout p.graph is.graph p.layout.operators is.valid)

  abbrev Follows : Parts AnyView → Type 0
  Follows n = n.layout.operators ≡ layout_after p.layout.operators p.graph n.graph

  both_stay : (n : Parts AnyView) → n.layout ≡ p.layout → n.graph ≡ p.graph → Follows n
  both_stay n layout graph = ap (λ (l : Layout). l.operators) layout ∙ layout_stays ∙ ap (λ (g : Drawn AnyView). layout_after p.layout.operators p.graph g) (sym graph)

  -- after an evolution, or an error
  pub layout_grown : (n : Parts AnyView) (name : List ℕ) (from : Option (List ℕ)) (edges : List (Edge AnyView)) (r : Result (Unit {0}) (Fault Refusal)) → Evolves any_meaning (database_for any_meaning p) name from edges r (database_for any_meaning n)
      → OnOk r (n.layout.operators ≡ evolved_layout p.graph edges p.layout.operators) → OnErr r (n.layout ≡ p.layout) → Follows n
  layout_grown n name from edges (Ok done) evolves ok err =
      let graph = ap (λ (d : AnyDatabase). d.graph) evolves.2 in
      ok ∙ sym (layout_evolved p.graph is.graph p.layout.operators name (start_in (database_for any_meaning p) from) edges is.valid)
      ∙ ap (λ (g : Drawn AnyView). layout_after p.layout.operators p.graph g) (sym graph)
  layout_grown n name from edges (Err (Refused told)) evolves ok err = both_stay n err (ap (λ (d : AnyDatabase). d.graph) evolves.1)
  layout_grown n name from edges (Err (Memory memory)) evolves ok err = both_stay n err (ap (λ (d : AnyDatabase). d.graph) evolves)

  -- after a drop, or an error
  pub layout_cut : (n : Parts AnyView) (name : List ℕ) (r : Result (Unit {0}) (Fault Refusal)) → Drops any_meaning p name r n → Follows n
  layout_cut n name (Ok done) drops =
      let graph = ap (λ (d : AnyDatabase). d.graph) drops.1 in
      drops.2 ∙ sym (layout_dropped p.graph is.graph p.layout.operators name)
      ∙ ap (λ (g : Drawn AnyView). layout_after p.layout.operators p.graph g) (sym graph)
  layout_cut n name (Err (Refused told)) drops = subst (λ (x : Parts AnyView). Follows x) (sym drops.2) layout_stays
  layout_cut n name (Err (Memory memory)) drops = subst (λ (x : Parts AnyView). Follows x) (sym drops) layout_stays

-- ---- a drop

known_some : (name : List ℕ) (o : Option ℕ) (s : AnyDatabase) → IsSome o → (known_version name o then λ _. Ok s) ≡ Ok s
known_some name (Some set) s some = refl
known_some name None s some = absurd (false≢true some)

known_none : (name : List ℕ) (o : Option ℕ) (s : AnyDatabase) → o ≡ None → (known_version name o then λ _. Ok s) ≡ Err (UnknownVersion name)
known_none name (Some set) s none = let clash : Some set ≡ None = none in absurd (let no : ⊥ = cc in no)
known_none name None s none = refl

pub drop_gives : (p n : Parts AnyView) (name : List ℕ) (r : Result (Unit {0}) (Fault Refusal)) → Drops any_meaning p name r n → Gives (λ _. database_for any_meaning n) r (dropped_version (database_for any_meaning p) name)
drop_gives p n name (Ok done) drops =
    known_some name (set_named p.graph.versions name) (dropped_database (database_for any_meaning p) name) drops.0 ∙ ap (λ (s : AnyDatabase). Ok s) (sym drops.1)
drop_gives p n name (Err (Refused told)) drops =
    known_none name (set_named p.graph.versions name) (dropped_database (database_for any_meaning p) name) drops.0 ∙ ap (λ (r : Refusal). Err r) (sym drops.1)
drop_gives p n name (Err (Memory memory)) drops = tt

pub drop_same : (p n : Parts AnyView) (name : List ℕ) (r : Result (Unit {0}) (Fault Refusal)) → Drops any_meaning p name r n → OnErr r (database_for any_meaning n ≡ database_for any_meaning p)
drop_same p n name (Ok done) drops = tt
drop_same p n name (Err (Refused told)) drops = ap (λ (x : Parts AnyView). database_for any_meaning x) drops.2
drop_same p n name (Err (Memory memory)) drops = ap (λ (x : Parts AnyView). database_for any_meaning x) drops
