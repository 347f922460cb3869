-- What the calls of an evolution give.
use Rattle.std.proofs.Common.{◌≡◌, ℕ, List, Option, None, Result, Ok, Err, length, sym, ap, subst}
use Rattle.par_base.specs.declared.fault.Fault.{Fault}
use Rattle.par_base.specs.declared.fault.Fault.TheVariants.{Refused, Memory as OutOfMemory}
use Rattle.par_base.specs.declared.refusal.IdsSpent.{IdsSpent}
use Rattle.par_base.specs.declared.refusal.Refusal.{Refusal}
use Rattle.row_store.specs.States.{TableState}
use Rattle.version_graph.specs.Edges.{AreEdges, Drawn, IsGraph}
use Rattle.version_graph.specs.Evolve.{EvolvesGraph, evolved, refusal_of}
use Rattle.version_graph.specs.Finished.{IsFinished}
use Rattle.version_graph.specs.declared.parts.Edge.{Edge}
use Rattle.op_law.specs.Meaning.{Meaning}
use Rattle.op_law.specs.Laws.{Laws}
use Rattle.layout_rules.specs.Changes.{evolved_layout}
use Rattle.version_model.specs.Databases.{Evolves, MayEvolveTo, start_in}
use Rattle.version_model.specs.Making.{refusal_for}
use Rattle.version_model.specs.declared.numbered.Numbered.{Numbered}
use Rattle.db_state.specs.Fields.{IsDatabase, database_for, state_for}
use Rattle.db_state.specs.declared.parts.Parts.{Parts}
use Rattle.db_evolution.specs.Calls.{Fills, Installs, MayFill}
use Rattle.db_evolution.specs.Sources.{AreSources}
use Rattle.db_evolution.specs.declared.contents.Contents.{Contents}
use Rattle.db_evolution.proofs.EvolutionLemmas.{evolution_done, evolution_refused, evolved_database, may_fill, operators_after}

module _ {O : Type 0} (meaning : O → Meaning) (laws : (o : O) → Laws (meaning o)) (p : Parts O) (kept : IsDatabase meaning p) (name : List ℕ) (from : Option (List ℕ)) (edges : List (Edge O)) (may : MayEvolveTo meaning (database_for meaning p) from edges)
    (read : List (Numbered TableState)) (sources : AreSources p.graph (state_for meaning p) from edges read) (none : refusal_of p.graph name from edges ≡ None) where
  abbrev graph_after : Drawn O
  graph_after = evolved p.graph name (start_in (database_for meaning p) from) edges

  abbrev grown_parts : Parts O
  grown_parts = record p { graph = graph_after }

  module _ (g : Drawn O) (first : ℕ) (is : g ≡ graph_after) (count : first ≡ length p.graph.edges) where
    edges_of : AreEdges g.edges → AreEdges graph_after.edges
    edges_of all = subst (λ (x : Drawn O). AreEdges x.edges) is all

    -- THE NEW OPERATORS MAY BE MADE
    pub may_fill_then : AreEdges g.edges → MayFill meaning (record p { graph = g }) first read
    may_fill_then all =
        subst (λ (x : Drawn O). MayFill meaning (record p { graph = x }) first read) (sym is)
        (subst (λ (n : ℕ). MayFill meaning grown_parts n read) (sym count) (may_fill meaning laws p kept name from edges may read sources none (edges_of all)))

    fills_then : (result : Result Contents (Fault IdsSpent)) → Fills meaning (record p { graph = g }) first read result → Fills meaning grown_parts (length p.graph.edges) read result
    fills_then result fills =
        subst (λ (n : ℕ). Fills meaning grown_parts n read result) count
        (subst (λ (x : Drawn O). Fills meaning (record p { graph = x }) first read result) is fills)

    module _ (graph : IsGraph g) (c : Contents) (fills : Fills meaning (record p { graph = g }) first read (Ok c)) (q : Parts O) (installs : Installs (record p { graph = g }) c q) where
      installs_then : Installs grown_parts c q
      installs_then = subst (λ (x : Drawn O). Installs (record p { graph = x }) c q) is installs

      graph_then : IsGraph graph_after
      graph_then = subst (λ (x : Drawn O). IsGraph x) is graph

      pub database_then : (IsFinished p.graph → IsFinished g) → IsDatabase meaning q
      database_then finished = (evolved_database meaning laws p kept name from edges may read sources none graph_then.edges graph_then (subst (λ (x : Drawn O). IsFinished x) is (finished kept.finished)) c (fills_then (Ok c) fills) q installs_then).0

      pub evolves_then : (IsFinished p.graph → IsFinished g) → Evolves meaning (database_for meaning p) name from edges (Ok tt) (database_for meaning q)
      evolves_then finished = evolution_done meaning laws p kept name from edges may read sources none graph_then.edges graph_then (subst (λ (x : Drawn O). IsFinished x) is (finished kept.finished)) c (fills_then (Ok c) fills) q installs_then

      pub layout_then : (IsFinished p.graph → IsFinished g) → q.layout.operators ≡ evolved_layout p.graph edges p.layout.operators
      layout_then finished = operators_after meaning laws p kept name from edges may read sources none graph_then.edges graph_then (subst (λ (x : Drawn O). IsFinished x) is (finished kept.finished)) c (fills_then (Ok c) fills) q installs_then

    pub refused_then : IsGraph g → (fault : Fault IdsSpent) → Fills meaning (record p { graph = g }) first read (Err fault) → (back : Drawn O) → back ≡ p.graph → Evolves meaning (database_for meaning p) name from edges (Err (refusal_for fault)) (database_for meaning (record p { graph = back }))
    refused_then graph fault fills back same =
        evolution_refused meaning laws p kept name from edges may read sources none (edges_of graph.edges) fault (fills_then (Err fault) fills) (record p { graph = back }) (ap (λ (x : Drawn O). record p { graph = x }) same)

-- after an error the fields are a database as before
pub still_database : {O : Type 0} (meaning : O → Meaning) (p : Parts O) → IsDatabase meaning p → (back : Drawn O) → back ≡ p.graph → IsDatabase meaning (record p { graph = back })
still_database {O} meaning p kept back same = subst (λ (x : Drawn O). IsDatabase meaning (record p { graph = x })) (sym same) kept

-- a refused evolution leaves the graph
pub graph_left : {O : Type 0} (g : Drawn O) (name : List ℕ) (from : Option (List ℕ)) (edges : List (Edge O)) (fault : Fault Refusal) (new : Drawn O) → EvolvesGraph g name from edges (Err fault) new → new ≡ g
graph_left g name from edges (Refused reason) new h = h.1
graph_left g name from edges (OutOfMemory memory) new h = h
