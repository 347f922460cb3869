-- The operators of a graph that is built from texts are built for their tables, and closed for the next identifier.
use Rattle.std.proofs.Common.{◌≡◌, ℕ, List, [], ◌∷◌, map, sym, ap, subst, ◌∙◌, arith}
use Rattle.std.proofs.lemmas.List.{length-map}
use Rattle.version_graph.specs.Sets.{Each, Within}
use Rattle.version_graph.specs.Tables.{TableVersion, headings_of, table_numbers, taken}
use Rattle.version_graph.specs.Edges.{AreEdges, Follows, made, made_by_edge, working}
use Rattle.version_graph.specs.Forest.{Link, forest, link}
use Rattle.version_graph.specs.declared.parts.Heading.{Heading}
use Rattle.version_graph.specs.declared.parts.Placed.{Placed}
use Rattle.version_graph.proofs.SetLaws.{in_left, in_right}
use Rattle.version_graph.proofs.TableLaws.{headings_made, numbers_made, working_made}
use Rattle.version_graph.proofs.HeadingLaws.{headings_well, taken_few, taken_within}
use Rattle.version_model.specs.Kept.{HasSides}
use Rattle.version_model.specs.States.{as_seen, headings}
use Rattle.version_model.proofs.HeadingLaws.{seen_as}
use Rattle.op_any.specs.Operators.{AnyView, any_meaning}
use Rattle.op_any.specs.BuiltOn.{AreBuiltOn, IsBuiltOn}
use Rattle.op_build.specs.Laws.{headings_taken}
use Rattle.op_build.proofs.BuiltLaws.{built_suits}
use Rattle.op_build.proofs.TableListsLaws.{headings_taken-of}

-- an operator is built for its tables in a graph, and closed
pub record IsBuiltFor (next : ℕ) (all : List (Placed AnyView)) (e : Link AnyView) : Type 0 where
  pub sides : HasSides e
  pub fits : (any_meaning e.operator).Fits (map (headings all) e.sources) (map (headings all) e.targets)
  pub closed : (any_meaning e.operator).Closed next

module _ (next : ℕ) (all : List (Placed AnyView)) (edges : AreEdges all) where
  -- an operator that is built from its text on older ones
  built_for : (es : List (Placed AnyView)) (e : Placed AnyView) → Follows es e → AreEdges es → Within (made (e ∷ es)) (made all) → IsBuiltOn next es e.parent e.edge → IsBuiltFor next all (link es e)
  built_for es e follows older within on =
      let suits = built_suits (headings_of (working es e.parent)) next e.edge.operator.text e.edge on.built in
      let taken_set = taken (working es e.parent) e.edge.sources in
      let sources : map (headings all) (table_numbers taken_set) ≡ map as_seen (headings_taken (headings_of (working es e.parent)) e.edge.sources) =
      seen_as all edges taken_set (λ v i. within v (in_right v (made_by_edge e) (made es) (working_made es e.parent v (taken_within (working es e.parent) e.edge.sources v i))))
      ∙ ap (λ (hs : List Heading). map as_seen hs) (sym (headings_taken-of (working es e.parent) e.edge.sources)) in
      let targets : map (headings all) e.tables ≡ map as_seen e.edge.targets =
      ap (λ (ts : List ℕ). map (headings all) ts) (sym (numbers_made e.tables e.edge.targets follows.counted))
      ∙ seen_as all edges (made_by_edge e) (λ v i. within v (in_left v (made_by_edge e) (made es) i))
      ∙ ap (λ (hs : List Heading). map as_seen hs) (headings_made e.tables e.edge.targets follows.counted) in
      let fits = suits.fits (headings_well es older e.parent) in
      let few = taken_few (working es e.parent) e.edge.sources in
      let many = length-map taken_set (λ (v : TableVersion). v.number) in
      let counted = follows.counted in
      let most = suits.few in
      record {
        sides = (omega (arith, few, many, most.0), omega (arith, counted, most.1));
        fits = subst (λ hs. (any_meaning e.edge.operator).Fits (map (headings all) (table_numbers taken_set)) hs) (sym targets)
            (subst (λ hs. (any_meaning e.edge.operator).Fits hs (map as_seen e.edge.targets)) (sym sources) fits);
        closed = suits.closed on.texts;
      }

  -- so is each of a graph
  pub all_built : (es : List (Placed AnyView)) → AreEdges es → Within (made es) (made all) → AreBuiltOn next es → Each (IsBuiltFor next all) (forest es)
  all_built [] older within built = tt
  all_built (e ∷ es) older within built =
      (built_for es e older.0 older.1 within built.0, all_built es older.1 (λ v i. within v (in_right v (made_by_edge e) (made es) i)) built.1)
