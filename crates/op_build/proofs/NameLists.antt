-- Lists without repetition, with one item more, one less, and one in another's place.
use Rattle.std.proofs.Common.{◌≡◌, ℕ, zero, suc, ◌<◌, List, [], ◌∷◌, ◌++◌, length, get_or, Bool, true, false, cond, Option, Some, None, inl, inr, refl, sym, ◌∙◌, ap, subst, arith}
use Rattle.std.specs.Prelude.{◌⊎◌, ◌||◌, MatchOption}
use Rattle.std.specs.List.{list_any, insert, remove}
use Rattle.std.specs.Str.{bytes_eq}
use Rattle.std.proofs.lemmas.Bool.{false≢true, or_parts}
use Rattle.std.proofs.lemmas.List.{append_assoc, append-nil}
use Rattle.version_graph.specs.Sets.{In, Apart, Distinct}
use Rattle.version_graph.proofs.SetLaws.{in_left, in_right}
use Rattle.version_graph.proofs.TableLaws.{distinct_append}
use Rattle.version_graph.proofs.NameLaws.{same_name, name_is}
use Rattle.op_checks.specs.NameChecks.{repeated}
use Rattle.op_build.specs.Laws.{IsFirstRepeated}

module _ {X : Type 0} where
  pub in_insert : (x y : X) (xs : List X) (place : ℕ) → In x (insert xs place y) → (x ≡ y) ⊎ In x xs
  in_insert x y [] zero i = i
  in_insert x y [] (suc place) i = i
  in_insert x y (z ∷ xs) zero i = i
  in_insert x y (z ∷ xs) (suc place) (inl e) = inr (inl e)
  in_insert x y (z ∷ xs) (suc place) (inr i) = elim (in_insert x y xs place i) as (λ _. (x ≡ y) ⊎ In x (z ∷ xs)) [ inl e ↦ inl e | inr there ↦ inr (inr there) ]

  pub in_remove : (x : X) (xs : List X) (place : ℕ) → In x (remove xs place) → In x xs
  in_remove x [] zero i = i
  in_remove x [] (suc place) i = i
  in_remove x (z ∷ xs) zero i = inr i
  in_remove x (z ∷ xs) (suc place) (inl e) = inl e
  in_remove x (z ∷ xs) (suc place) (inr i) = inr (in_remove x xs place i)

  pub distinct_insert : (xs : List X) (place : ℕ) (y : X) → Distinct xs → (In y xs → ⊥) → Distinct (insert xs place y)
  distinct_insert [] zero y once new = (new, tt)
  distinct_insert [] (suc place) y once new = (new, tt)
  distinct_insert (x ∷ xs) zero y once new = (new, once)
  distinct_insert (x ∷ xs) (suc place) y once new = (
    λ i. elim (in_insert x y xs place i) [ inl e ↦ new (inl (sym e)) | inr there ↦ once.0 there ],
    distinct_insert xs place y once.1 (λ i. new (inr i)),
  )

  pub distinct_remove : (xs : List X) (place : ℕ) → Distinct xs → Distinct (remove xs place)
  distinct_remove [] zero once = tt
  distinct_remove [] (suc place) once = tt
  distinct_remove (x ∷ xs) zero once = once.1
  distinct_remove (x ∷ xs) (suc place) once = (λ i. once.0 (in_remove x xs place i), distinct_remove xs place once.1)

  -- what is in front of a last item, and that it isn't there
  pub distinct_front : (xs : List X) (y : X) → Distinct (xs ++ y ∷ []) → Distinct xs × (In y xs → ⊥)
  distinct_front [] y once = (tt, λ i. i)
  distinct_front (x ∷ xs) y once =
      let rest = distinct_front xs y once.1 in
      ((λ i. once.0 (in_left x xs (y ∷ []) i), rest.0), λ i. elim i [ inl e ↦ once.0 (in_right x xs (y ∷ []) (inl (sym e))) | inr there ↦ rest.1 there ])

  -- an item that was taken away and put back
  pub insert-remove : (xs : List X) (place : ℕ) (d : X) → place < length xs → insert (remove xs place) place (get_or xs place d) ≡ xs
  insert-remove [] place d h = absurd (omega arith)
  insert-remove (x ∷ xs) zero d h = refl
  insert-remove (x ∷ xs) (suc place) d h = ap (λ (ys : List X). x ∷ ys) (insert-remove xs place d (omega arith))

-- a name that no test finds isn't there
pub not_member : (name : List ℕ) (names : List (List ℕ)) → list_any (bytes_eq name) names ≡ false → In name names → ⊥
not_member name [] e i = i
not_member name (n ∷ names) e (inl same) = false≢true (sym (or_parts _ _ e).0 ∙ name_is name n same)
not_member name (n ∷ names) e (inr i) = not_member name names (or_parts _ _ e).1 i

pub member : (name : List ℕ) (names : List (List ℕ)) → list_any (bytes_eq name) names ≡ true → In name names
member name [] e = absurd (false≢true e)
member name (n ∷ names) e =
    let P : Bool → Type 0 = λ b. bytes_eq name n ≡ b → (b || list_any (bytes_eq name) names) ≡ true → In name (n ∷ names) in
    let cases : P (bytes_eq name n) = elim (bytes_eq name n) as (λ b. P b) [
      | true ↦ λ is e. inl (same_name name n is)
      | false ↦ λ is e. inr (member name names e)
    ] in
    cases refl e

-- what is said of the names after one more is said of that one and them
one_before : (seen : List (List ℕ)) (n : List ℕ) (names : List (List ℕ)) (o : Option (List ℕ)) → MatchOption o (Distinct (seen ++ n ∷ [] ++ names)) (IsFirstRepeated (seen ++ n ∷ []) names) → MatchOption o (Distinct (seen ++ n ∷ names)) (IsFirstRepeated seen (n ∷ names))
one_before seen n names None once = subst (λ (xs : List (List ℕ)). Distinct xs) (append_assoc seen (n ∷ []) names) once
one_before seen n names (Some name) first = record {
  front = n ∷ first.front;
  rest = first.rest;
  there = ap (λ (xs : List (List ℕ)). n ∷ xs) first.there;
  once = subst (λ (xs : List (List ℕ)). Distinct xs) (append_assoc seen (n ∷ []) first.front) first.once;
  again = subst (λ (xs : List (List ℕ)). In name xs) (append_assoc seen (n ∷ []) first.front) first.again;
}

-- the first name that stands among those before it, or none where all are distinct
pub repeated-first : (seen names : List (List ℕ)) → Distinct seen → MatchOption (repeated seen names) (Distinct (seen ++ names)) (IsFirstRepeated seen names)
unfolding repeated
repeated-first seen [] once = subst (λ (xs : List (List ℕ)). Distinct xs) (sym (append-nil seen)) once
repeated-first seen (n ∷ names) once =
    let P : Bool → Type 0 = λ b. list_any (bytes_eq n) seen ≡ b → MatchOption (cond b (Some n) (repeated (seen ++ n ∷ []) names)) (Distinct (seen ++ n ∷ names)) (IsFirstRepeated seen (n ∷ names)) in
    let cases : P (list_any (bytes_eq n) seen) = elim (list_any (bytes_eq n) seen) as (λ b. P b) [
      | true ↦ λ is. record {
        front = [];
        rest = names;
        there = refl;
        once = subst (λ (xs : List (List ℕ)). Distinct xs) (sym (append-nil seen)) once;
        again = subst (λ (xs : List (List ℕ)). In n xs) (sym (append-nil seen)) (member n seen is);
      }
      | false ↦ λ is.
          let new : Apart seen (n ∷ []) = λ x i j. elim j [ inl e ↦ not_member n seen is (subst (λ y. In y seen) e i) | inr none ↦ none ] in
          one_before seen n names (repeated (seen ++ n ∷ []) names) (repeated-first (seen ++ n ∷ []) names (distinct_append seen (n ∷ []) once ((λ i. i), tt) new))
    ] in
    cases refl

-- names of which none stands among those before it are distinct
pub unrepeated_distinct : (seen names : List (List ℕ)) → repeated seen names ≡ None → Distinct seen → Distinct (seen ++ names)
unrepeated_distinct seen names none once =
    subst (λ (o : Option (List ℕ)). MatchOption o (Distinct (seen ++ names)) (IsFirstRepeated seen names)) none (repeated-first seen names once)
