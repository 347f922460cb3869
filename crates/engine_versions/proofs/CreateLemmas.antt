-- What an evolution of a database gives is what the model says of a new version.
use Rattle.std.proofs.Common.{◌≡◌, ℕ, ◌<◌, ◌≤◌, List, [], ◌∷◌, length, Bool, Option, Some, None, Result, Ok, Err, refl, sym, ap, subst, ◌∙◌, arith}
use Rattle.std.specs.Prelude.{if◌then◌else◌, unwrap_or}
use Rattle.std.proofs.lemmas.Bool.{le-ltb, lt-ltb}
use Rattle.par_base.specs.declared.fault.Fault.{Fault}
use Rattle.par_base.specs.declared.fault.Fault.TheVariants.{Refused, Memory}
use Rattle.par_base.specs.declared.refusal.Refusal.{Refusal}
use Rattle.par_base.specs.declared.refusal.Refusal.TheVariants.{IdsSpent}
use Rattle.statements.specs.Views.{OpView}
use Rattle.version_graph.specs.Sets.{Each}
use Rattle.version_graph.specs.Tables.{headings_of, FitInOrder}
use Rattle.version_graph.specs.Edges.{Drawn, IsGraph, set_named, working}
use Rattle.version_graph.specs.Evolve.{limit_passed, refusal_of, start_of, MayEvolve}
use Rattle.version_graph.specs.Calls.{CanGrow}
use Rattle.version_graph.specs.declared.parts.Edge.{Edge}
use Rattle.version_graph.proofs.EvolveLaws.{can_evolve, no_refusal}
use Rattle.version_graph.proofs.GrowLaws.{grown_can}
use Rattle.version_graph.proofs.HeadingLaws.{headings_well}
use Rattle.op_law.specs.Calls.{first_refused}
use Rattle.par_base.specs.Checked.{◌then◌, Gives}
use Rattle.op_any.specs.Operators.{AnyView, any_laws, any_meaning}
use Rattle.op_any.specs.Texts.{TextsFit}
use Rattle.version_model.specs.Sound.{IsSound}
use Rattle.version_model.specs.Evolving.{AreBuilt, grown_state}
use Rattle.version_model.proofs.EvolveLaws.{MayGrow, evolution_keeps}
use Rattle.version_model.specs.Databases.{counter_of, evolved_state, start_in, Evolves, MayEvolveTo, RefusesEvolution}
use Rattle.engine_state.specs.AnyDatabase.{AnyDatabase}
use Rattle.engine_state.specs.SharedChecks.{known_version, enough_ids}
use Rattle.engine_versions.specs.Evolve.{counts_of, created, edges_on, start_at, state_after, unused}
use Rattle.engine_versions.specs.Plans.{IsPlanned, OnEach, PlansEdges}
use Rattle.engine_versions.proofs.ChainLaws.{then_fails, then_is}
use Rattle.engine_versions.proofs.EdgeLemmas.{few_tables, fit_in_order, limits_kept, numbers_fit, some_edges}
use Rattle.engine_versions.proofs.BuiltLemmas.{are_built}

known_is : (name : List ℕ) (o : Option ℕ) (set : ℕ) → known_version name o ≡ Ok set → o ≡ Some set
known_is name None set e = absurd (cc)
known_is name (Some n) set e = let same : n ≡ set = cc in ap (λ (m : ℕ). Some m) same

starts : (versions : List (List ℕ × ℕ)) (from : Option (List ℕ)) (set : ℕ) → start_at versions from ≡ Ok set → start_of versions from ≡ Some set
starts versions None set e = let same : 0 ≡ set = cc in ap (λ (m : ℕ). Some m) same
starts versions (Some name) set e = known_is name (set_named versions name) set e

is_free : (name : List ℕ) (o : Option ℕ) → unused name o ≡ Ok tt → o ≡ None
is_free name None e = refl
is_free name (Some n) e = absurd (cc)

some_one : (m n : ℕ) → Some m ≡ Some n → m ≡ n
some_one m n e = cc

-- all checks but the last one have passed, while `next` is the next identifier
pub record Passes (g : Drawn AnyView) (next : ℕ) (name : List ℕ) (from : Option (List ℕ)) (texts : List OpView) (set : ℕ) (edges : List (Edge AnyView)) : Type 0 where
  pub start : start_at g.versions from ≡ Ok set
  pub free : unused name (set_named g.versions name) ≡ Ok tt
  pub built : edges_on (headings_of (working g.edges set)) (counts_of g) next texts ≡ Ok edges

module _ (d : AnyDatabase) (name : List ℕ) (from : Option (List ℕ)) (texts : List OpView) (set : ℕ) (edges : List (Edge AnyView))
    (graph : IsGraph d.graph) (passes : Passes d.graph d.state.next name from texts set edges) (some : 0 < length texts) (fit : Each TextsFit texts)
  where
    start : start_at d.graph.versions from ≡ Ok set
    start = passes.start

    free : unused name (set_named d.graph.versions name) ≡ Ok tt
    free = passes.free

    built : edges_on (headings_of (working d.graph.edges set)) (counts_of d.graph) d.state.next texts ≡ Ok edges
    built = passes.built

    starts_there : start_of d.graph.versions from ≡ Some set
    starts_there = starts d.graph.versions from set start

    none_passed : limit_passed (length d.graph.edges) d.graph.last_operator d.graph.last_table edges ≡ None
    none_passed = limits_kept (headings_of (working d.graph.edges set)) (counts_of d.graph) d.state.next texts edges built

    some_built : 0 < length edges
    some_built = some_edges (headings_of (working d.graph.edges set)) (counts_of d.graph) d.state.next texts edges some built

    fits_there : MayEvolve d.graph from edges
    fits_there w e =
        subst (λ (n : ℕ). FitInOrder (headings_of (working d.graph.edges n)) edges) (some_one set w (sym starts_there ∙ e))
        (fit_in_order (headings_of (working d.graph.edges set)) (counts_of d.graph) d.state.next texts edges (headings_well d.graph.edges graph.edges set) built)

    can : CanGrow d.graph.edges set d.graph.last_operator d.graph.last_table edges
    can = by edges some_built none_passed fits_there
      where
        by : (l : List (Edge AnyView)) → 0 < length l → limit_passed (length d.graph.edges) d.graph.last_operator d.graph.last_table l ≡ None → MayEvolve d.graph from l → CanGrow d.graph.edges set d.graph.last_operator d.graph.last_table l
        by [] more none may = absurd (omega (arith, more))
        by (e ∷ es) more none may =
            let n = numbers_fit (length d.graph.edges) d.graph.last_operator d.graph.last_table e es none in
            can_evolve d.graph graph from (e ∷ es) set may starts_there (omega (arith, n.0)) (omega (arith, n.1))

    -- the database may evolve so
    may : MayEvolveTo any_meaning d from edges
    may = record {
      fits = fits_there;
      few = few_tables (headings_of (working d.graph.edges set)) (counts_of d.graph) d.state.next texts edges built;
      built = λ w e.
          subst (λ (n : ℕ). AreBuilt any_meaning d.graph.edges n d.graph.last_operator d.graph.last_table edges d.state.next) (some_one set w (sym starts_there ∙ e))
          (are_built d.graph.edges set d.graph.last_operator d.graph.last_table d.state.next (counts_of d.graph) texts edges built can fit);
    }

    -- no identifier is free again
    pub next_rises : IsSound any_meaning d.graph.edges d.state → d.state.next ≤ (state_after d name set edges).state.next
    next_rises sound =
        let grows : MayGrow any_meaning d.graph.edges set d.graph.last_operator d.graph.last_table edges d.state d.state.next = record {
          all = (grown_can d.graph.edges set d.graph.last_operator d.graph.last_table edges can).1.edges;
          sound = sound;
          built = are_built d.graph.edges set d.graph.last_operator d.graph.last_table d.state.next (counts_of d.graph) texts edges built can fit;
          drawn = omega arith;
        } in
        (evolution_keeps any_meaning any_laws d.graph.edges set d.graph.last_operator d.graph.last_table edges d.state d.state.next grows).rises

    start_is : start_in d from ≡ set
    start_is = ap (λ (o : Option ℕ). unwrap_or o 0) starts_there

    -- what is left of the model's checks is that of identifiers
    last_check : created d name from texts ≡ (enough_ids d (state_after d name set edges).state.next then λ _. Ok (state_after d name set edges))
    last_check =
        then_is (start_at d.graph.versions from) _ set start
        ∙ then_is (unused name (set_named d.graph.versions name)) _ tt free
        ∙ then_is (edges_on (headings_of (working d.graph.edges set)) (counts_of d.graph) d.state.next texts) _ edges built

    not_refused : refusal_of d.graph name from edges ≡ None
    not_refused = no_refusal d.graph name from edges set starts_there (is_free name (set_named d.graph.versions name) free) none_passed

    same_end : evolved_state any_meaning d from edges ≡ (state_after d name set edges).state
    same_end = ap (λ (n : ℕ). grown_state any_meaning d.graph.edges n d.graph.last_operator d.graph.last_table edges d.state) start_is

    -- it is there
    created_then : (new : AnyDatabase) → Evolves any_meaning d name from edges (Ok tt) new → created d name from texts ≡ Ok new
    created_then new e =
        let is : new ≡ state_after d name set edges = e.2 ∙ ap (λ (n : ℕ). state_after d name n edges) start_is in
        let within : (state_after d name set edges).state.next ≤ first_refused (counter_of d) = subst (λ s. s.next ≤ first_refused (counter_of d)) same_end e.1 in
        last_check
        ∙ ap (λ (b : Bool). (if b then Err (IdsSpent (first_refused (counter_of d)) d.limit) else Ok tt) then λ _. Ok (state_after d name set edges))
        (le-ltb (first_refused (counter_of d)) (state_after d name set edges).state.next within)
        ∙ ap (λ (s : AnyDatabase). Ok s) (sym is)

    -- or an identifier would be above the limit
    spent_then : (told : Refusal) (new : AnyDatabase) → Evolves any_meaning d name from edges (Err (Refused told)) new → created d name from texts ≡ Err told
    spent_then told new e =
        let why : RefusesEvolution None (evolved_state any_meaning d from edges).next (counter_of d) told =
        subst (λ o. RefusesEvolution o (evolved_state any_meaning d from edges).next (counter_of d) told) not_refused e.0 in
        let above : first_refused (counter_of d) < (state_after d name set edges).state.next = subst (λ s. first_refused (counter_of d) < s.next) same_end why.0 in
        last_check
        ∙ ap (λ (b : Bool). (if b then Err (IdsSpent (first_refused (counter_of d)) d.limit) else Ok tt) then λ _. Ok (state_after d name set edges))
        (lt-ltb (first_refused (counter_of d)) (state_after d name set edges).state.next above)
        ∙ ap (λ (r : Refusal). Err r) (sym why.1)

    gives_then : (result : Result (Unit {0}) (Fault Refusal)) (new : AnyDatabase) → Evolves any_meaning d name from edges result new → Gives (λ _. new) result (created d name from texts)
    gives_then (Ok done) new e = created_then new e
    gives_then (Err (Refused told)) new e = spent_then told new e
    gives_then (Err (Memory memory)) new e = tt

    planned : IsPlanned d name from texts edges
    planned = record { some = some_built; may = may; gives = gives_then }

-- ---- what the checks of a graph say of every database that has it

module _ (g : Drawn AnyView) (next : ℕ) (name : List ℕ) (from : Option (List ℕ)) (texts : List OpView) where
  refused_edges : (set : ℕ) (r : Refusal) → start_at g.versions from ≡ Ok set → unused name (set_named g.versions name) ≡ Ok tt
      → edges_on (headings_of (working g.edges set)) (counts_of g) next texts ≡ Err r → OnEach g next (λ d. created d name from texts ≡ Err r)
  refused_edges set r start free e d graph counter =
      let built : edges_on (headings_of (working d.graph.edges set)) (counts_of d.graph) d.state.next texts ≡ Err r =
      ap (λ (n : ℕ). edges_on (headings_of (working d.graph.edges set)) (counts_of d.graph) n texts) counter
      ∙ ap (λ (h : Drawn AnyView). edges_on (headings_of (working h.edges set)) (counts_of h) next texts) graph ∙ e in
      then_is (start_at d.graph.versions from) _ set (ap (λ (h : Drawn AnyView). start_at h.versions from) graph ∙ start)
      ∙ then_is (unused name (set_named d.graph.versions name)) _ tt (ap (λ (h : Drawn AnyView). unused name (set_named h.versions name)) graph ∙ free)
      ∙ then_fails (edges_on (headings_of (working d.graph.edges set)) (counts_of d.graph) d.state.next texts) _ r built

  planned_edges : IsGraph g → 0 < length texts → Each TextsFit texts → (set : ℕ) (edges : List (Edge AnyView)) → Passes g next name from texts set edges
      → OnEach g next (λ d. IsPlanned d name from texts edges)
  planned_edges is some fit set edges passes d graph counter =
      planned d name from texts set edges (subst (λ (h : Drawn AnyView). IsGraph h) (sym graph) is)
      (subst (λ (n : ℕ). Passes d.graph n name from texts set edges) (sym counter) (subst (λ (h : Drawn AnyView). Passes h next name from texts set edges) (sym graph) passes))
      some fit

  -- what is built, once there is a version to start from and the name is free
  pub plans_built : IsGraph g → 0 < length texts → Each TextsFit texts → (set : ℕ) → start_at g.versions from ≡ Ok set → unused name (set_named g.versions name) ≡ Ok tt
      → (r : Result (List (Edge AnyView)) (Fault Refusal)) → Gives (λ edges. edges) r (edges_on (headings_of (working g.edges set)) (counts_of g) next texts) → PlansEdges g next name from texts r
  plans_built is some fit set start free (Ok edges) gives = planned_edges is some fit set edges (record { start = start; free = free; built = gives })
  plans_built is some fit set start free (Err (Refused r)) gives = refused_edges set r start free gives
  plans_built is some fit set start free (Err (Memory memory)) gives = tt

  -- an error is the model's, whatever is there then
  pub edges_fail : (f : Fault Refusal) → PlansEdges g next name from texts (Err f) → (d new : AnyDatabase) → d.graph ≡ g → d.state.next ≡ next → Gives {X = Unit {0}} (λ _. new) (Err f) (created d name from texts)
  edges_fail (Refused r) plans d new graph counter = plans d graph counter
  edges_fail (Memory memory) plans d new graph counter = tt
