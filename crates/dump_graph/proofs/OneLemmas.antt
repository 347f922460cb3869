-- Lines tell of one graph.
use Rattle.std.specs.Prelude.{Ok}
use Rattle.std.proofs.Common.{◌≡◌, ℕ, List, [], ◌∷◌, ◌++◌, map, refl, sym, ap, subst, ◌∙◌}
use Rattle.std.proofs.lemmas.List.{map-append, reverse-append, reverse-reverse}
use mathlib.Core.List.{reverse}
use Rattle.bidel_parser.specs.Laws.{OneOperator}
use Rattle.bidel_text.specs.OperatorText.{operator_text}
use Rattle.bidel_text.specs.Laws.{OperatorsAreSaid}
use Rattle.statements.specs.Views.{OpView}
use Rattle.version_graph.specs.Tables.{headings_of}
use Rattle.version_graph.specs.Edges.{Drawn, working}
use Rattle.version_graph.specs.declared.parts.Edge.{Edge}
use Rattle.version_graph.specs.declared.parts.Placed.{Placed}
use Rattle.op_any.specs.Operators.{AnyView}
use Rattle.op_any.specs.Build.{built}
use Rattle.dump_values.specs.declared.lines.OperatorLine.{OperatorLine}
use Rattle.dump_values.specs.declared.lines.VersionLine.{VersionLine}
use Rattle.dump_values.specs.declared.dumps.GraphLines.{GraphLines}
use Rattle.dump_graph.specs.Told.{graph_told, operator_line, version_line}
use Rattle.dump_graph.specs.Texts.{AreFromTexts, IsFromText, IsSpelled}
use Rattle.dump_graph.specs.Graphs.{IsToldBy}
use Rattle.dump_graph.proofs.TextLemmas.{these_spell}
use Rattle.dump_graph.proofs.PlacingLemmas.{ok_is}
use Rattle.dump_graph.proofs.ToldLemmas.{lines_of}

-- ---- lists

module _ {X : Type 0} where
  first_is : (x y : X) (xs ys : List X) → x ∷ xs ≡ y ∷ ys → x ≡ y
  first_is x y xs ys e = cc

  rest_is : (x y : X) (xs ys : List X) → x ∷ xs ≡ y ∷ ys → xs ≡ ys
  rest_is x y xs ys e = cc

  none_is_some : (x : X) (xs : List X) → [] ≡ x ∷ xs → ⊥
  none_is_some x xs e = cc

map_reverse : {X Y : Type 0} (f : X → Y) (xs : List X) → map f (reverse xs) ≡ reverse (map f xs)
map_reverse f [] = refl
map_reverse {X} {Y} f (x ∷ xs) =
    ap (map f) (reverse-append (x ∷ []) xs) ∙ map-append f (reverse xs) (x ∷ []) ∙ ap (λ (ys : List Y). ys ++ f x ∷ []) (map_reverse f xs)
    ∙ sym (reverse-append (f x ∷ []) (map f xs))

-- what an ascending list tells, with the newest first
turned : {X Y : Type 0} (f : X → Y) (xs : List X) → map f xs ≡ reverse (map f (reverse xs))
turned {X} {Y} f xs = sym (reverse-reverse (map f xs)) ∙ ap (λ (ys : List Y). reverse ys) (sym (map_reverse f xs))

-- ---- versions

pub same_versions : (vs ws : List (List ℕ × ℕ)) → map version_line vs ≡ map version_line ws → vs ≡ ws
same_versions [] [] same = refl
same_versions [] (w ∷ ws) same = absurd (none_is_some _ _ same)
same_versions (v ∷ vs) [] same = absurd (none_is_some _ _ (sym same))
same_versions (v ∷ vs) (w ∷ ws) same =
    let first = first_is _ _ _ _ same in
    let name : v.0 ≡ w.0 = ap (λ (l : VersionLine). l.name) first in
    let set : v.1 ≡ w.1 = ap (λ (l : VersionLine). l.set) first in
    let version : v ≡ w = λ i. (name i, set i) in
    ap (λ u. u ∷ vs) version ∙ ap (λ us. w ∷ us) (same_versions vs ws (rest_is _ _ _ _ same))

-- ---- operators

module _ (said : OperatorsAreSaid) (one : OneOperator) where
  -- a canonical text is one operator's
  same_operator : (o other : OpView) → IsSpelled o → IsSpelled other → operator_text o ≡ operator_text other → o ≡ other
  same_operator o other spelled others same =
      let s = said o spelled.0 spelled.1 in
      one _ o other s.spelled (these_spell said (operator_text o) s.tokens other s.found (others, sym same))

  -- on a working set it builds one edge
  one_edge : (next : ℕ) (es : List (Placed AnyView)) (set : ℕ) (e f : Edge AnyView) → IsFromText next es set e → IsFromText next es set f
      → operator_text e.operator.text ≡ operator_text f.operator.text → e ≡ f
  one_edge next es set e f from other same =
      let texts : f.operator.text ≡ e.operator.text = same_operator f.operator.text e.operator.text other.spelled from.spelled (sym same) in
      let makes : built (headings_of (working es set)) next e.operator.text ≡ Ok f = subst (λ t. built (headings_of (working es set)) next t ≡ Ok f) texts other.on.built in
      ok_is (built (headings_of (working es set)) next e.operator.text) e f from.on.built makes

  -- a line is one placed edge's
  one_placed : (next : ℕ) (es : List (Placed AnyView)) (e f : Placed AnyView) → IsFromText next es e.parent e.edge → IsFromText next es f.parent f.edge → operator_line e ≡ operator_line f → e ≡ f
  one_placed next es e f from other same =
      let number : e.number ≡ f.number = ap (λ (l : OperatorLine). l.number) same in
      let parent : e.parent ≡ f.parent = ap (λ (l : OperatorLine). l.parent) same in
      let targets : e.tables ≡ f.tables = ap (λ (l : OperatorLine). l.targets) same in
      let written : operator_text e.edge.operator.text ≡ operator_text f.edge.operator.text = ap (λ (l : OperatorLine). l.text) same in
      let edge : e.edge ≡ f.edge = one_edge next es e.parent e.edge f.edge from (subst (λ p. IsFromText next es p f.edge) (sym parent) other) written in
      λ i. record { number = number i; parent = parent i; tables = targets i; edge = edge i }

  -- each line is one edge's on those before it
  edges_are_one : (next : ℕ) (es fs : List (Placed AnyView)) → AreFromTexts next es → AreFromTexts next fs → map operator_line es ≡ map operator_line fs → es ≡ fs
  edges_are_one next [] [] texts others same = refl
  edges_are_one next [] (f ∷ fs) texts others same = absurd (none_is_some _ _ same)
  edges_are_one next (e ∷ es) [] texts others same = absurd (none_is_some _ _ (sym same))
  edges_are_one next (e ∷ es) (f ∷ fs) texts others same =
      let older : es ≡ fs = edges_are_one next es fs (texts.0.1, texts.1.1) (others.0.1, others.1.1) (rest_is _ _ _ _ same) in
      let from : IsFromText next es e.parent e.edge = record { spelled = texts.0.0; on = texts.1.0 } in
      let other : IsFromText next fs f.parent f.edge = record { spelled = others.0.0; on = others.1.0 } in
      let newest : e ≡ f = one_placed next es e f from (subst (λ gs. IsFromText next gs f.parent f.edge) (sym older) other) (first_is _ _ _ _ same) in
      ap (λ x. x ∷ es) newest ∙ ap (λ xs. f ∷ xs) older

  -- THE SAME LINES TELL OF THE SAME EDGES
  pub same_edges : (next : ℕ) (es fs : List (Placed AnyView)) → AreFromTexts next es → AreFromTexts next fs → lines_of es ≡ lines_of fs → es ≡ fs
  same_edges next es fs texts others same =
      edges_are_one next es fs texts others (turned operator_line es ∙ ap (λ (ls : List OperatorLine). reverse ls) same ∙ sym (turned operator_line fs))

  -- AND OF ONE GRAPH
  pub one_graph : (next : ℕ) (lines : GraphLines) (g h : Drawn AnyView) → IsToldBy next lines g → IsToldBy next lines h → g ≡ h
  one_graph next lines g h is other =
      let same : graph_told g ≡ graph_told h = is.told ∙ sym other.told in
      let edges : g.edges ≡ h.edges = same_edges next g.edges h.edges is.texts other.texts (ap (λ (ls : GraphLines). ls.operators) same) in
      let versions : g.versions ≡ h.versions = same_versions g.versions h.versions (ap (λ (ls : GraphLines). ls.versions) same) in
      let operator : g.last_operator ≡ h.last_operator = ap (λ (ls : GraphLines). ls.last_operator) same in
      let table : g.last_table ≡ h.last_table = ap (λ (ls : GraphLines). ls.last_table) same in
      λ i. record { edges = edges i; versions = versions i; last_operator = operator i; last_table = table i }
