-- Facts of each item of a list, and values under their numbers.
use Rattle.std.specs.Prelude.{◌==◌}
use Rattle.std.specs.List.{find}
use Rattle.std.proofs.Common.{◌≡◌, ℕ, List, [], ◌∷◌, Bool, true, false, cond, filter, map, Option, Some, option_map, inl, inr, refl, sym, ap, ◌∙◌, subst, arith}
use Rattle.std.proofs.lemmas.Bool.{cond-false, cond-true, eq-eqb, ne_eqb}
use Rattle.std.proofs.lemmas.List.{reverse-reverse}
use mathlib.Core.List.{reverse}
use Rattle.version_graph.specs.Edges.{AreEdges, numbers}
use Rattle.version_graph.specs.Sets.{Distinct, In}
use Rattle.version_graph.specs.declared.parts.Placed.{Placed}
use Rattle.version_graph.proofs.SetLaws.{in_map, origin}
use Rattle.version_graph.proofs.TableLaws.{distinct_append}
use Rattle.version_graph.proofs.WalkStepLaws.{in_reverse}
use Rattle.version_model.specs.Kept.{value_of, numbers_in}
use Rattle.version_model.specs.declared.numbered.Numbered.{Numbered}
use Rattle.version_model.proofs.AscendingLaws.{reverse_first}
use Rattle.dump_values.specs.Laws.{AllFit}

-- ---- each item fits

pub fit_of : {A : Type 0} (P : A → Type 0) (xs : List A) → ((x : A) → In x xs → P x) → AllFit P xs
fit_of P [] each = tt
fit_of P (x ∷ xs) each = (each x (inl refl), fit_of P xs (λ y i. each y (inr i)))

pub fit_map : {A B : Type 0} (P : B → Type 0) (f : A → B) (xs : List A) → ((x : A) → In x xs → P (f x)) → AllFit P (map f xs)
fit_map P f xs each = fit_of P (map f xs) (λ y i. let o = origin f y xs i in subst P (sym o.2) (each o.0 o.1))

pub fit_filter : {A : Type 0} (P : A → Type 0) (test : A → Bool) (xs : List A) → AllFit P xs → AllFit P (filter test xs)
fit_filter P test [] fit = tt
fit_filter P test (x ∷ xs) fit =
    elim (test x) as (λ b. AllFit P (cond b (x ∷ filter test xs) (filter test xs))) [
      | true ↦ (fit.0, fit_filter P test xs fit.1)
      | false ↦ fit_filter P test xs fit.1
    ]

-- ---- numbers

pub of_reverse : {A : Type 0} (x : A) (xs : List A) → In x (reverse xs) → In x xs
of_reverse {A} x xs i = subst (λ (l : List A). In x l) (reverse-reverse xs) (in_reverse x (reverse xs) i)

-- no number of an operator stands twice
pub numbers_once : {O : Type 0} (es : List (Placed O)) → AreEdges es → Distinct (reverse (numbers es))
numbers_once [] edges = tt
numbers_once (e ∷ es) edges =
    subst (λ (l : List ℕ). Distinct l) (sym (reverse_first e.number (numbers es)))
    (distinct_append (reverse (numbers es)) (e.number ∷ []) (numbers_once es edges.1) ((λ i. i), tt) (λ n i j. elim j as (λ _. ⊥) [
      | inl same ↦ (let less = edges.0.newest n (inr (of_reverse n (numbers es) i)) in omega (arith, less, same))
      | inr out ↦ out
    ]))

-- a value stands under its own number
pub value_held : {T : Type 0} (items : List (Numbered T)) → Distinct (numbers_in items) → (x : Numbered T) → In x items → value_of items x.number ≡ Some x.value
value_held [] once x i = absurd i
value_held {T} (y ∷ ys) once x (inl same) =
    subst (λ (z : Numbered T). value_of (y ∷ ys) z.number ≡ Some z.value) (sym same)
    (ap (λ (o : Option (Numbered T)). option_map (λ (i : Numbered T). i.value) o)
    (cond-true (y.number == y.number) (Some y) (find (λ (i : Numbered T). y.number == i.number) ys) (eq-eqb y.number y.number refl)))
value_held {T} (y ∷ ys) once x (inr i) =
    let other : (x.number == y.number) ≡ false =
    ne_eqb x.number y.number (λ same. once.0 (subst (λ (k : ℕ). In k (numbers_in ys)) same (in_map (λ (z : Numbered T). z.number) x ys i))) in
    ap (λ (o : Option (Numbered T)). option_map (λ (z : Numbered T). z.value) o) (cond-false (x.number == y.number) (Some y) (find (λ (z : Numbered T). x.number == z.number) ys) other)
    ∙ value_held ys once.1 x i
