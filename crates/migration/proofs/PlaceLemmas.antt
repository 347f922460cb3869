-- The tables that a move brings.
use Rattle.std.specs.Prelude.{◌<◌, ◌↔◌}
use Rattle.std.proofs.Common.{◌≡◌, ℕ, ◌+◌, List, [], ◌∷◌, ◌++◌, get_or, length, take, refl, sym, ap, ◌∙◌, subst}
use Rattle.std.proofs.lemmas.List.{map-append, take_more}
use Rattle.row_store.specs.States.{TableState}
use Rattle.version_graph.specs.Sets.{In, Each}
use Rattle.version_graph.specs.Edges.{Rises}
use Rattle.version_graph.specs.Forest.{forest}
use Rattle.version_graph.specs.declared.parts.Placed.{Placed}
use Rattle.version_graph.proofs.SetLaws.{each_append}
use Rattle.layout_rules.specs.Layouts.{IsStored}
use Rattle.version_model.specs.declared.numbered.Numbered.{Numbered}
use Rattle.version_model.specs.Kept.{numbers_in}
use Rattle.migration.specs.Places.{AddsPlace, ArePlaces, AreStoredPlaces, IsPlace}

-- no table yet
pub no_places : (kept read made : List (Numbered TableState)) → made ≡ [] → ArePlaces kept read [] made
no_places kept read made none = subst (λ (l : List (Numbered TableState)). ArePlaces kept read [] l) (sym none) (record { numbers = refl; each = tt })

-- one table more
pub places_next : (kept read : List (Numbered TableState)) (ns : List ℕ) (i : ℕ) (made new : List (Numbered TableState)) → i < length ns → ArePlaces kept read (take i ns) made → AddsPlace kept read (get_or ns i 0) made new → ArePlaces kept read (take (i + 1) ns) new
places_next kept read ns i made new within so_far adds =
    let item = adds.0 in
    let listed : numbers_in (made ++ item ∷ []) ≡ take (i + 1) ns =
    map-append (λ (j : Numbered TableState). j.number) made (item ∷ []) ∙ ap (λ (l : List ℕ). l ++ item.number ∷ []) so_far.numbers ∙ ap (λ (m : ℕ). take i ns ++ m ∷ []) adds.2 ∙ sym (take_more ns i 0 within) in
    record {
      numbers = ap (λ (l : List (Numbered TableState)). numbers_in l) adds.1 ∙ listed;
      each = subst (λ (l : List (Numbered TableState)). Each (IsPlace kept read) l) (sym adds.1) (each_append (IsPlace kept read) made (item ∷ []) so_far.each (adds.3, tt));
    }

-- the places of the stored tables
pub stored_places : {O : Type 0} (es : List (Placed O)) (layout : List ℕ) (kept read : List (Numbered TableState)) (ns : List ℕ) (made : List (Numbered TableState)) → ((t : ℕ) → In t ns ↔ IsStored (forest es) layout t) → Rises 0 ns → ArePlaces kept read ns made → AreStoredPlaces es layout kept read made
stored_places es layout kept read ns made stored rise places = record {
  numbers = λ t. (
    (λ i. (stored t).0 (subst (λ (l : List ℕ). In t l) places.numbers i)),
    (λ k. subst (λ (l : List ℕ). In t l) (sym places.numbers) ((stored t).1 k)),
  );
  ascending = subst (λ (l : List ℕ). Rises 0 l) (sym places.numbers) rise;
  each = places.each;
}
