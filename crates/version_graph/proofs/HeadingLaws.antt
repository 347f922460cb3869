-- The headings of the tables in working sets, and the tables that an edge takes from one.
use Rattle.std.specs.Prelude.{◌==◌, option_to_list}
use Rattle.std.proofs.Common.{◌≡◌, ℕ, ◌≤◌, List, [], ◌∷◌, length, true, false, cond, Option, Some, None, inl, inr, refl, sym, subst, arith}
use Rattle.std.proofs.lemmas.List.{length-append}
use Rattle.version_graph.specs.Sets.{In, Each, Within}
use Rattle.version_graph.specs.Tables.{FitsSet, IsHeading, TableVersion, headings_after, headings_of, headings_passing, table_named, taken}
use Rattle.version_graph.specs.Edges.{AreEdges, set_after, working}
use Rattle.version_graph.specs.declared.parts.Edge.{Edge}
use Rattle.version_graph.specs.declared.parts.Heading.{Heading}
use Rattle.version_graph.specs.declared.parts.Placed.{Placed}
use Rattle.version_graph.proofs.SetLaws.{each_append, each_at, each_of, in_append}
use Rattle.version_graph.proofs.TableLaws.{headings_next, in_filter}
use Rattle.version_graph.proofs.TakenLaws.{found_passes}

-- the tables that are taken from a set are in it
pub taken_within : (set : List TableVersion) (names : List (List ℕ)) → Within (taken set names) set
taken_within set [] v i = absurd i
taken_within set (name ∷ names) v i =
    elim (in_append v (option_to_list (table_named set name)) (taken set names) i) as (λ _. In v set) [
      | inl here ↦ one (table_named set name) refl here
      | inr there ↦ taken_within set names v there
    ]
  where
    one : (o : Option TableVersion) → table_named set name ≡ o → In v (option_to_list o) → In v set
    one None e j = absurd j
    one (Some u) e (inl same) = subst (λ x. In x set) (sym same) (found_passes _ set u e).0
    one (Some u) e (inr none) = absurd none

-- there are no more of them than names
pub taken_few : (set : List TableVersion) (names : List (List ℕ)) → length (taken set names) ≤ length names
taken_few set [] = omega arith
taken_few set (name ∷ names) =
    let rest = taken_few set names in
    let both = length-append (option_to_list (table_named set name)) (taken set names) in
    let one = at_most (table_named set name) in
    omega (arith, rest, both, one)
  where
    at_most : (o : Option TableVersion) → length (option_to_list o) ≤ 1
    at_most None = omega arith
    at_most (Some u) = omega arith

-- tables that stay and new ones have headings as tables may have them
pub headings_stay : {O : Type 0} (set : List Heading) (e : Edge O) → Each IsHeading set → FitsSet set e → Each IsHeading (headings_after set e)
headings_stay set e all fits =
    each_append IsHeading (headings_passing set e.sources) e.targets
    (each_of IsHeading (headings_passing set e.sources) (λ h i. each_at IsHeading set h (in_filter _ h set i) all)) fits.columns

-- each table of a graph has a heading as tables may have them
pub headings_well : {O : Type 0} (es : List (Placed O)) → AreEdges es → (w : ℕ) → Each IsHeading (headings_of (working es w))
headings_well [] edges w = tt
headings_well (e ∷ es) edges w =
    elim (w == e.number) as (λ b. Each IsHeading (headings_of (cond b (set_after (working es e.parent) e) (working es w)))) [
      | true ↦ subst (λ hs. Each IsHeading hs) (sym (headings_next (working es e.parent) e edges.0.counted))
          (headings_stay (headings_of (working es e.parent)) e.edge (headings_well es edges.1 e.parent) edges.0.fits)
      | false ↦ headings_well es edges.1 w
    ]
