-- The graphs that lines make, and the lines of a graph.
use Rattle.std.specs.Prelude.{◌≤◌}
use Rattle.std.proofs.Common.{◌≡◌, ℕ, List, [], ◌∷◌, ◌++◌, length, map, refl, sym, ap, subst, ◌∙◌, arith, append_assoc, append-nil}
use Rattle.std.proofs.lemmas.List.{map-append, reverse-append}
use mathlib.Core.List.{reverse}
use Rattle.version_graph.specs.Sets.{Distinct, Each, In}
use Rattle.version_graph.specs.Edges.{AreEdges, Drawn, numbers, operator_limit, version_names, version_sets}
use Rattle.version_graph.specs.declared.parts.Placed.{Placed}
use Rattle.version_graph.proofs.SetLaws.{each_append}
use Rattle.op_any.specs.Operators.{AnyView}
use Rattle.dump_values.specs.declared.lines.OperatorLine.{OperatorLine}
use Rattle.dump_values.specs.declared.lines.VersionLine.{VersionLine}
use Rattle.dump_graph.specs.Told.{operator_line, version_line}
use Rattle.dump_graph.specs.Texts.{AreFromTexts}
use Rattle.dump_graph.specs.Graphs.{AreNames}
use Rattle.dump_graph.specs.inner.Placing.{ArePlaced}
use Rattle.dump_graph.specs.inner.Naming.{AreNamed}
use Rattle.dump_graph.proofs.GraphLemmas.{can_place, named_on, sketch}
use Rattle.dump_graph.proofs.PlacingLemmas.{placed_next}

-- ---- operators

-- the lines of edges, in ascending order
abbrev pub lines_of : List (Placed AnyView) → List OperatorLine
lines_of es = map operator_line (reverse es)

-- the newest edge comes last
lines_next : (e : Placed AnyView) (es : List (Placed AnyView)) → lines_of (e ∷ es) ≡ lines_of es ++ operator_line e ∷ []
lines_next e es = ap (map operator_line) (reverse-append (e ∷ []) es) ∙ map-append operator_line (reverse es) (e ∷ [])

-- a graph of edges that are built from their texts, of which the lines tell
pub record IsDrawnOf (next : ℕ) (lines : List OperatorLine) (g : Drawn AnyView) : Type 0 where
  pub edges : List (Placed AnyView)
  pub is : g ≡ sketch edges []
  pub told : lines_of edges ≡ lines
  pub texts : AreFromTexts next edges

-- the lines that are placed tell of what they make, behind those of the edges that stood there
pub drawn_on : (next : ℕ) (es : List (Placed AnyView)) (lines : List OperatorLine) (new : Drawn AnyView)
    → AreFromTexts next es → ArePlaced next (sketch es []) lines new → IsDrawnOf next (lines_of es ++ lines) new
drawn_on next es [] new texts are = record { edges = es; is = are; told = sym (append-nil (lines_of es)); texts = texts }
drawn_on next es (line ∷ lines) new texts are =
    let e = are.0 in
    let is = are.1 in
    let here = drawn_on next (e ∷ es) lines new ((is.from.spelled, texts.0), (is.from.on, texts.1)) are.2 in
    record {
      edges = here.edges;
      is = here.is;
      told = here.told ∙ ap (λ (ls : List OperatorLine). ls ++ lines) (lines_next e es) ∙ append_assoc (lines_of es) (operator_line e ∷ []) lines ∙ ap (λ (l : OperatorLine). lines_of es ++ l ∷ lines) is.line_is;
      texts = here.texts;
    }

-- THE EDGES OF A GRAPH ARE PLACED AGAIN FROM THEIR LINES
pub placed_back : (next : ℕ) (es : List (Placed AnyView)) → AreEdges es → length es ≤ operator_limit → AreFromTexts next es → ArePlaced next (sketch [] []) (lines_of es) (sketch es [])
placed_back next [] edges few texts = refl
placed_back next (e ∷ es) edges few texts =
    subst (λ (ls : List OperatorLine). ArePlaced next (sketch [] []) ls (sketch (e ∷ es) [])) (sym (lines_next e es))
    (placed_next next (sketch [] []) (lines_of es) (operator_line e) (sketch es []) e
    (placed_back next es edges.1 (omega arith) (texts.0.1, texts.1.1))
    (record { line_is = refl; from = record { spelled = texts.0.0; on = texts.1.0 }; can = can_place e es edges few }))

-- ---- versions

-- a graph of these edges and of versions with names, of which the lines tell
pub record IsNamedOf (es : List (Placed AnyView)) (lines : List VersionLine) (g : Drawn AnyView) : Type 0 where
  pub versions : List (List ℕ × ℕ)
  pub is : g ≡ sketch es versions
  pub told : map version_line versions ≡ lines
  pub names : AreNames versions

-- the lines that are named tell of what they make, behind those of the versions that stood there
pub named_behind : (es : List (Placed AnyView)) (versions : List (List ℕ × ℕ)) (lines : List VersionLine) (new : Drawn AnyView)
    → AreNames versions → AreNamed (sketch es versions) lines new → IsNamedOf es (map version_line versions ++ lines) new
named_behind es versions [] new names are = record { versions = versions; is = are; told = sym (append-nil (map version_line versions)); names = names }
named_behind es versions (line ∷ lines) new names are =
    let here = named_behind es (versions ++ (line.name, line.set) ∷ []) lines new (each_append _ versions ((line.name, line.set) ∷ []) names (are.0.0, tt)) are.1 in
    record {
      versions = here.versions;
      is = here.is;
      told = here.told ∙ ap (λ (ls : List VersionLine). ls ++ lines) (map-append version_line versions ((line.name, line.set) ∷ [])) ∙ append_assoc (map version_line versions) (line ∷ []) lines;
      names = here.names;
    }

-- THE VERSIONS OF A GRAPH ARE NAMED AGAIN FROM THEIR LINES
pub named_back : (es : List (Placed AnyView)) (before versions : List (List ℕ × ℕ)) → Each (λ n. In n (numbers es)) (version_sets versions) → AreNames versions
    → Distinct (version_names (before ++ versions)) → Distinct (version_sets (before ++ versions)) → AreNamed (sketch es before) (map version_line versions) (sketch es (before ++ versions))
named_back es before [] live names once sets = ap (λ (vs : List (List ℕ × ℕ)). sketch es vs) (append-nil before)
named_back es before (v ∷ versions) live names once sets =
    let joined = append_assoc before (v ∷ []) versions in (
      (names.0, named_on es before versions v once sets live.0),
      subst (λ (vs : List (List ℕ × ℕ)). AreNamed (sketch es (before ++ v ∷ [])) (map version_line versions) (sketch es vs)) joined
          (named_back es (before ++ v ∷ []) versions live.1 names.1
          (subst (λ (vs : List (List ℕ × ℕ)). Distinct (version_names vs)) (sym joined) once)
          (subst (λ (vs : List (List ℕ × ℕ)). Distinct (version_sets vs)) (sym joined) sets)),
    )
