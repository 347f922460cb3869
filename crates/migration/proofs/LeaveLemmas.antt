-- The layout before a drop.
use Rattle.std.proofs.Common.{◌≡◌, ℕ, List, [], ◌∷◌, Bool, true, false, cond, filter, inl, inr, refl, sym, ap, ◌∙◌, subst}
use Rattle.std.proofs.lemmas.Bool.{cond-false, cond-true, false≢true}
use Rattle.version_graph.specs.Sets.{In}
use Rattle.version_graph.specs.Edges.{AreEdges, Drawn, is_in, numbers, version_sets}
use Rattle.version_graph.specs.Dropped.{doomed, other_versions, staying}
use Rattle.version_graph.specs.Forest.{Link, forest}
use Rattle.version_graph.specs.declared.parts.Placed.{Placed}
use Rattle.version_graph.proofs.SetLaws.{in_of_test, is_in_true}
use Rattle.version_graph.proofs.TableLaws.{in_filter, passes}
use Rattle.version_graph.proofs.UnneededLaws.{goes_taken, taken_goes}
use Rattle.layout_rules.specs.Changes.{is_empty}
use Rattle.layout_rules.specs.Layouts.{IsCreate, IsValid}
use Rattle.layout_rules.specs.Lookups.{sources_or_none}
use Rattle.layout_rules.proofs.ChangeLaws.{filter_in, link_number}
use Rattle.layout_rules.proofs.LinkLaws.{in_or_out}
use Rattle.layout_rules.proofs.LookupLaws.{sources_link}
use Rattle.storage_law.specs.Changes.{GoFromSources, LeavesTo}
use Rattle.storage_law.proofs.DropLaws.{leaving_valid}
use Rattle.storage_law.proofs.LinkLaws.{not_in_false}
use Rattle.migration.specs.Sides.{keeps_side, leaving_layout}

-- what passes the first test passes the second one
twice_one : (p q : ℕ → Bool) (x : ℕ) (xs : List ℕ) (b c : Bool) → p x ≡ b → q x ≡ c → (p x ≡ true → q x ≡ true) → filter p (filter q xs) ≡ filter p xs → filter p (cond c (x ∷ filter q xs) (filter q xs)) ≡ cond b (x ∷ filter p xs) (filter p xs)
twice_one p q x xs true true a k h rest = cond-true (p x) (x ∷ filter p (filter q xs)) (filter p (filter q xs)) a ∙ ap (λ (l : List ℕ). x ∷ l) rest
twice_one p q x xs true false a k h rest = absurd (false≢true (sym k ∙ h a))
twice_one p q x xs false true a k h rest = cond-false (p x) (x ∷ filter p (filter q xs)) (filter p (filter q xs)) a ∙ rest
twice_one p q x xs false false a k h rest = rest

filter_twice : (p q : ℕ → Bool) → ((n : ℕ) → p n ≡ true → q n ≡ true) → (xs : List ℕ) → filter p (filter q xs) ≡ filter p xs
filter_twice p q h [] = refl
filter_twice p q h (x ∷ xs) = twice_one p q x xs (p x) (q x) refl refl (h x) (filter_twice p q h xs)

none_of : (xs : List ℕ) → is_empty xs ≡ true → xs ≡ []
none_of [] is = refl
none_of (x ∷ xs) is = absurd (false≢true is)

module _ {O : Type 0} (es : List (Placed O)) (needed : List ℕ) (edges : AreEdges es) (layout : List ℕ) where
  abbrev left : List (Placed O)
  left = staying needed es

  abbrev gone : List ℕ
  gone = doomed needed es

  abbrev test : ℕ → Bool
  test = keeps_side es gone

  stays_there : (n : ℕ) → (In n gone → ⊥) → test n ≡ true
  stays_there n out = cond-false (is_in n gone) (is_empty (sources_or_none es n)) true (not_in_false n gone out)

  -- an operator keeps its side where it is a CREATE TABLE, if it goes
  keeps : (e : Link O) → In e (forest es) → ((In e.number (numbers left) → ⊥) → IsCreate e) → test e.number ≡ true
  keeps e i create =
      elim (in_or_out e.number gone) as (λ _. test e.number ≡ true) [
        | inl j ↦
            cond-true (is_in e.number gone) (is_empty (sources_or_none es e.number)) true (is_in_true e.number gone j)
            ∙ ap (λ (l : List ℕ). is_empty l) (sources_link es edges e i ∙ create (taken_goes es needed e.number edges j).1)
        | inr out ↦ stays_there e.number out
      ]

  kept : (e : Link O) → In e (forest es) → test e.number ≡ true → (In e.number (numbers left) → ⊥) → IsCreate e
  kept e i is out =
      let j = goes_taken es needed e.number (link_number es e i) out in
      sym (sources_link es edges e i) ∙ none_of (sources_or_none es e.number) (sym (cond-true (is_in e.number gone) (is_empty (sources_or_none es e.number)) true (is_in_true e.number gone j)) ∙ is)

  leaves_to : IsValid (forest es) layout → LeavesTo es left layout (leaving_layout es gone layout)
  leaves_to valid n = (
    (λ i. (in_filter test n layout i, (λ e j same out. kept e j (ap test (sym same) ∙ passes test n layout i) (λ k. out (subst (λ (m : ℕ). In m (numbers left)) (sym same) k))))),
    (λ h.
        let l = valid.live n h.0 in
        filter_in test n layout h.0 (ap test l.2 ∙ keeps l.0 l.1 (λ out. h.1 l.0 l.1 l.2 (λ k. out (subst (λ (m : ℕ). In m (numbers left)) l.2 k))))),
  )

  -- it is valid, and what goes is on its source side
  pub leaving_right : IsValid (forest es) layout → IsValid (forest es) (leaving_layout es gone layout) × GoFromSources es left (leaving_layout es gone layout)
  leaving_right valid = leaving_valid es needed edges layout (leaving_layout es gone layout) valid (leaves_to valid)

  -- of what stays it is the old one
  pub same_left : filter (λ n. is_in n (numbers left)) (leaving_layout es gone layout) ≡ filter (λ n. is_in n (numbers left)) layout
  same_left =
      filter_twice (λ n. is_in n (numbers left)) test (λ n is. stays_there n (λ j. (taken_goes es needed n edges j).1 (in_of_test n (numbers left) is))) layout

-- the layout that a drop moves to, through what is the same
pub leaving_is : {O : Type 0} (g h : Drawn O) (name gone some layout made : List ℕ) → g ≡ h → gone ≡ doomed (version_sets (other_versions g.versions name)) g.edges → some ≡ layout → made ≡ leaving_layout g.edges gone some
    → made ≡ leaving_layout h.edges (doomed (version_sets (other_versions h.versions name)) h.edges) layout
leaving_is {O} g h name gone some layout made same doom sides is =
    let there : gone ≡ doomed (version_sets (other_versions h.versions name)) h.edges = doom ∙ ap (λ (d : Drawn O). doomed (version_sets (other_versions d.versions name)) d.edges) same in
    is ∙ (λ j. leaving_layout (same j).edges (there j) (sides j))
