-- What the calls before a crossing gave.
use Rattle.std.specs.Prelude.{◌≤◌}
use Rattle.std.specs.Option.{option_copied}
use Rattle.std.proofs.Common.{◌≡◌, ℕ, List, [], ◌∷◌, length, Bool, true, false, Bor, Option, Some, None, inl, inr, sym, ap, ◌∙◌, subst}
use Rattle.std.proofs.lemmas.Bool.{cases_eq, eq-eqb, ne_eqb}
use Rattle.version_graph.specs.Sets.{In}
use Rattle.version_graph.specs.Edges.{AreEdges, Drawn}
use Rattle.version_graph.specs.Forest.{Crossing, Link, crossing, forest, step_told}
use Rattle.version_graph.specs.declared.parts.Placed.{Placed}
use Rattle.version_graph.specs.declared.parts.Step.{Step}
use Rattle.version_graph.proofs.SetLaws.{each_at}
use Rattle.layout_rules.proofs.LinkLaws.{in_or_out}
use Rattle.version_model.specs.Calls.{IsCrossing, IsTold}
use Rattle.version_model.specs.Kept.{HasSides, value_of, numbers_in}
use Rattle.version_model.specs.declared.numbered.Numbered.{Numbered}
use Rattle.version_model.proofs.ToldLaws.{told_is}
use Rattle.version_model.proofs.CrossingLaws.{crossings_live}
use Rattle.version_model.proofs.NumberedLaws.{looked, value_of_first}
use Rattle.db_state.proofs.FieldLaws.{none_at}

-- ---- values under numbers

-- a value stands under a number that is listed
pub some_at : {T : Type 0} (items : List (Numbered T)) (n : ℕ) → In n (numbers_in items) → value_of items n ≡ None → ⊥
some_at [] n i none = i
some_at {T} (x ∷ xs) n i none =
    elim (cases_eq n x.number) as (λ _. ⊥) [
      | inl same ↦ (
          let clash : Some x.value ≡ None = sym (value_of_first x xs n ∙ ap (λ (b : Bool). looked b x (value_of xs n)) (eq-eqb n x.number same)) ∙ none in
          cc)
      | inr other ↦ some_at xs n (elim i as (λ _. In n (numbers_in xs)) [ inl same ↦ absurd (other same) | inr j ↦ j ])
          (sym (value_of_first x xs n ∙ ap (λ (b : Bool). looked b x (value_of xs n)) (ne_eqb n x.number other)) ∙ none)
    ]

-- the number of a value is listed
pub in_numbers : {T : Type 0} (items : List (Numbered T)) (n : ℕ) (x : T) → Some x ≡ value_of items n → In n (numbers_in items)
in_numbers items n x found =
    elim (in_or_out n (numbers_in items)) as (λ _. In n (numbers_in items)) [
      | inl i ↦ i
      | inr out ↦ (let clash : Some x ≡ None = found ∙ none_at items n out in absurd (let no : ⊥ = cc in no))
    ]

-- a value that isn't there
pub none_kept : {T : Type 0} (o : Option (Bor T)) (items kept : List (Numbered T)) (n : ℕ) → o ≡ None → option_copied o ≡ value_of items n → items ≡ kept → None ≡ value_of kept n
none_kept o items kept n none found same = ap (λ x. option_copied x) (sym none) ∙ found ∙ ap (λ l. value_of l n) same

-- a value that is there
pub some_kept : {T : Type 0} (x : T) (items kept : List (Numbered T)) (n : ℕ) → Some x ≡ value_of items n → items ≡ kept → Some x ≡ value_of kept n
some_kept x items kept n found same = found ∙ ap (λ l. value_of l n) same

-- ---- crossings

-- a live operator is crossed either way
pub crosses : {O : Type 0} (es : List (Placed O)) → AreEdges es → (e : Link O) → In e (forest es) → (back : Bool) → IsCrossing es (crossing back e)
crosses {O} es edges e i back =
    let both = each_at (λ (f : Link O). IsCrossing es (crossing true f) × IsCrossing es (crossing false f)) (forest es) e i (crossings_live es edges) in
    elim back as (λ b. IsCrossing es (crossing b e)) [ true ↦ both.0 | false ↦ both.1 ]

-- there are at most two tables on either side
pub few_on : {O : Type 0} (e : Link O) → HasSides e → (back : Bool) → (length (crossing back e).near ≤ 2) × (length (crossing back e).far ≤ 2)
few_on e sides true = (sides.1, sides.0)
few_on e sides false = sides

-- a step tells of one crossing
pub same_crossing : {O : Type 0} (g h : Drawn O) → g ≡ h → (step : Step) (q r : Crossing O) → IsTold g.edges step (Some q) → IsCrossing h.edges r → step_told r ≡ step → q ≡ r
same_crossing {O} g h same step q r tells crosses is = told_is h.edges step r q crosses is (subst (λ (d : Drawn O). IsTold d.edges step (Some q)) same tells)
