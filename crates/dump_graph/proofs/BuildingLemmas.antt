-- A graph that is built of lines, and where none is.
use Rattle.std.specs.Prelude.{◌≤◌, Err}
use Rattle.std.proofs.Common.{◌≡◌, ℕ, List, [], map, sym, ap, subst, ◌∙◌}
use Rattle.par_base.specs.declared.fault.Fault.{Fault}
use Rattle.par_base.specs.declared.fault.Fault.TheVariants.{Refused, Memory}
use Rattle.bidel_parser.specs.Laws.{OneOperator}
use Rattle.bidel_text.specs.Laws.{OperatorsAreSaid}
use Rattle.version_graph.specs.Edges.{Drawn, IsGraph}
use Rattle.version_graph.specs.Finished.{IsFinished}
use Rattle.version_graph.specs.Placing.{CanEnd, with_last}
use Rattle.op_any.specs.Operators.{AnyView}
use Rattle.dump_values.specs.declared.lines.OperatorLine.{OperatorLine}
use Rattle.dump_values.specs.declared.lines.VersionLine.{VersionLine}
use Rattle.dump_values.specs.declared.dumps.GraphLines.{GraphLines}
use Rattle.dump_graph.specs.Told.{version_line}
use Rattle.dump_graph.specs.Graphs.{BuildsGraph, IsToldBy}
use Rattle.dump_graph.specs.inner.Placing.{ArePlaced, PlacesLines}
use Rattle.dump_graph.specs.inner.Naming.{AreNamed, NamesLines}
use Rattle.dump_graph.specs.declared.refused.DumpRefused.{DumpRefused}
use Rattle.dump_graph.proofs.GraphLemmas.{last_operator_fits, last_table_fits, sketch, top_number, top_table}
use Rattle.dump_graph.proofs.ToldLemmas.{IsDrawnOf, IsNamedOf, drawn_on, lines_of, named_back, named_behind, placed_back}
use Rattle.dump_graph.proofs.OneLemmas.{same_edges, same_versions}

-- a graph without edges and versions
pub new_is : (g : Drawn AnyView) → g.edges ≡ [] → g.versions ≡ [] → (g.last_operator ≡ 0) × (g.last_table ≡ 0) → g ≡ sketch [] []
new_is g edges versions last = λ i. record { edges = edges i; versions = versions i; last_operator = last.0 i; last_table = last.1 i }

module _ (next : ℕ) (lines : GraphLines) where
  -- ---- where lines tell of a graph

  module _ (g : Drawn AnyView) (graph : IsGraph g) (is : IsToldBy next lines g) where
    operators_told : lines_of g.edges ≡ lines.operators
    operators_told = ap (λ (ls : GraphLines). ls.operators) is.told

    versions_told : map version_line g.versions ≡ lines.versions
    versions_told = ap (λ (ls : GraphLines). ls.versions) is.told

    -- its operators are placed
    operators_placed : ArePlaced next (sketch [] []) lines.operators (sketch g.edges [])
    operators_placed =
        subst (λ (ls : List OperatorLine). ArePlaced next (sketch [] []) ls (sketch g.edges [])) operators_told (placed_back next g.edges graph.edges graph.few is.texts)

    -- then its versions are named
    versions_named : AreNamed (sketch g.edges []) lines.versions (sketch g.edges g.versions)
    versions_named =
        subst (λ (ls : List VersionLine). AreNamed (sketch g.edges []) ls (sketch g.edges g.versions)) versions_told (named_back g.edges [] g.versions graph.named is.names graph.names_once graph.sets_once)

    -- and then its last numbers may be given
    may_end : CanEnd (sketch g.edges g.versions) lines.last_operator lines.last_table
    may_end = record {
      operators = subst (λ n. top_number g.edges ≤ n) (ap (λ (ls : GraphLines). ls.last_operator) is.told) (last_operator_fits g graph);
      tables = subst (λ n. top_table g.edges ≤ n) (ap (λ (ls : GraphLines). ls.last_table) is.told) (last_table_fits g graph);
      finished = is.finished;
    }

  -- lines whose operators can't be placed tell of no graph
  none_placed : (first : Drawn AnyView) → first ≡ sketch [] [] → ((other : Drawn AnyView) → ArePlaced next first lines.operators other → ⊥)
      → (g : Drawn AnyView) → IsGraph g → IsToldBy next lines g → ⊥
  none_placed first empty none g graph is = none (sketch g.edges []) (subst (λ f. ArePlaced next f lines.operators (sketch g.edges [])) (sym empty) (operators_placed g graph is))

  -- so the error of placing them is the answer
  pub unplaced : (first new : Drawn AnyView) (fault : Fault DumpRefused) → first ≡ sketch [] [] → PlacesLines next first lines.operators (Err fault) new → BuildsGraph next lines (Err fault)
  unplaced first new (Refused r) empty places = none_placed first empty places
  unplaced first new (Memory memory) empty places = tt

  -- ---- what is placed and named

  module _ (first mid : Drawn AnyView) (empty : first ≡ sketch [] []) (placed : ArePlaced next first lines.operators mid) where
    is_drawn : IsDrawnOf next lines.operators mid
    is_drawn = drawn_on next [] lines.operators mid (tt, tt) (subst (λ f. ArePlaced next f lines.operators mid) empty placed)

    is_named : (new : Drawn AnyView) → AreNamed mid lines.versions new → IsNamedOf is_drawn.edges lines.versions new
    is_named new named = named_behind is_drawn.edges [] lines.versions new tt (subst (λ m. AreNamed m lines.versions new) is_drawn.is named)

    -- THE GRAPH IS BUILT
    pub is_built : (named new : Drawn AnyView) → AreNamed mid lines.versions named → new ≡ with_last named lines.last_operator lines.last_table → IsFinished new → IsToldBy next lines new
    is_built named new names last finished =
        let n = is_named named names in
        let final : Drawn AnyView = record { edges = is_drawn.edges; versions = n.versions; last_operator = lines.last_operator; last_table = lines.last_table } in
        let same : new ≡ final = last ∙ ap (λ h. with_last h lines.last_operator lines.last_table) n.is in
        subst (λ h. IsToldBy next lines h) (sym same) (record {
          told = λ i. record { operators = is_drawn.told i; versions = n.told i; last_operator = lines.last_operator; last_table = lines.last_table };
          texts = is_drawn.texts;
          names = n.names;
          finished = subst (λ h. IsFinished h) same finished;
        })

    module _ (said : OperatorsAreSaid) (one : OneOperator) (g : Drawn AnyView) (graph : IsGraph g) (is : IsToldBy next lines g) where
      edges_are : is_drawn.edges ≡ g.edges
      edges_are = same_edges said one next is_drawn.edges g.edges is_drawn.texts is.texts (is_drawn.told ∙ sym (operators_told g graph is))

      -- lines whose versions can't be named tell of no graph
      none_named : ((other : Drawn AnyView) → AreNamed mid lines.versions other → ⊥) → ⊥
      none_named none =
          none (sketch g.edges g.versions) (subst (λ m. AreNamed m lines.versions (sketch g.edges g.versions)) (sym (is_drawn.is ∙ ap (λ es. sketch es []) edges_are)) (versions_named g graph is))

      -- nor do lines whose last numbers can't be given
      none_ended : (named : Drawn AnyView) → AreNamed mid lines.versions named → (CanEnd named lines.last_operator lines.last_table → ⊥) → ⊥
      none_ended named names cant =
          let n = is_named named names in
          let versions_are : n.versions ≡ g.versions = same_versions n.versions g.versions (n.told ∙ sym (versions_told g graph is)) in
          let same : named ≡ sketch g.edges g.versions = n.is ∙ ap (λ es. sketch es n.versions) edges_are ∙ ap (λ vs. sketch g.edges vs) versions_are in
          cant (subst (λ h. CanEnd h lines.last_operator lines.last_table) (sym same) (may_end g graph is))

    module _ (said : OperatorsAreSaid) (one : OneOperator) where
      -- so the error of naming them is the answer
      pub unnamed : (new : Drawn AnyView) (fault : Fault DumpRefused) → NamesLines mid lines.versions (Err fault) new → BuildsGraph next lines (Err fault)
      unnamed new (Refused r) names = λ g graph is. none_named said one g graph is names
      unnamed new (Memory memory) names = tt

      -- and that of giving the last numbers
      pub unended : (named : Drawn AnyView) → AreNamed mid lines.versions named → (CanEnd named lines.last_operator lines.last_table → ⊥) → (g : Drawn AnyView) → IsGraph g → IsToldBy next lines g → ⊥
      unended named names cant g graph is = none_ended said one g graph is named names cant
