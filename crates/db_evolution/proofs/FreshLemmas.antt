-- New operators, place by place.
use Rattle.std.specs.Prelude.{option_to_list, slice_get}
use Rattle.std.proofs.Common.{◌≡◌, ℕ, zero, suc, ◌+◌, ◌≤◌, true, false, cond, List, [], ◌∷◌, ◌++◌, Option, drop, length, refl, sym, ap, ◌∙◌, arith}
use Rattle.std.proofs.lemmas.List.{append-nil, append_assoc, drop_all}
use Rattle.version_graph.specs.Edges.{numbers}
use Rattle.version_graph.specs.declared.parts.Placed.{Placed}
use Rattle.layout_rules.specs.Changes.{is_empty}
use Rattle.db_evolution.specs.News.{AddsEdges, created_in, creates_in}
use Rattle.db_evolution.specs.declared.fresh.Fresh.{Fresh}

drop_suc : {X : Type 0} (xs : List X) (i : ℕ) → drop i xs ≡ option_to_list (slice_get xs i) ++ drop (suc i) xs
drop_suc [] zero = refl
drop_suc [] (suc i) = refl
drop_suc (x ∷ xs) zero = refl
drop_suc (x ∷ xs) (suc i) = drop_suc xs i

drop_next : {X : Type 0} (xs : List X) (i : ℕ) (found : Option X) → found ≡ slice_get xs i → drop i xs ≡ option_to_list found ++ drop (i + 1) xs
drop_next {X} xs i found is =
    let next : suc i ≡ i + 1 = omega arith in
    drop_suc xs i ∙ ap (λ (o : Option X). option_to_list o ++ drop (suc i) xs) (sym is) ∙ ap (λ (n : ℕ). option_to_list found ++ drop n xs) next

-- what is found among edges, one edge after the other
module _ {O : Type 0} where
  numbers_both : (xs ys : List (Placed O)) → numbers (xs ++ ys) ≡ numbers xs ++ numbers ys
  numbers_both [] ys = refl
  numbers_both (x ∷ xs) ys = ap (λ (l : List ℕ). x.number ∷ l) (numbers_both xs ys)

  creates_both : (xs ys : List (Placed O)) → creates_in (xs ++ ys) ≡ creates_in xs ++ creates_in ys
  creates_both [] ys = refl
  creates_both (x ∷ xs) ys =
      elim (is_empty x.edge.sources) as (λ b. cond b (x.number ∷ creates_in (xs ++ ys)) (creates_in (xs ++ ys)) ≡ cond b (x.number ∷ creates_in xs) (creates_in xs) ++ creates_in ys) [
        | true ↦ ap (λ (l : List ℕ). x.number ∷ l) (creates_both xs ys)
        | false ↦ creates_both xs ys
      ]

  created_both : (xs ys : List (Placed O)) → created_in (xs ++ ys) ≡ created_in xs ++ created_in ys
  created_both [] ys = refl
  created_both (x ∷ xs) ys =
      elim (is_empty x.edge.sources) as (λ b. cond b (x.tables ++ created_in (xs ++ ys)) (created_in (xs ++ ys)) ≡ cond b (x.tables ++ created_in xs) (created_in xs) ++ created_in ys) [
        | true ↦ ap (λ (l : List ℕ). x.tables ++ l) (created_both xs ys) ∙ sym (append_assoc x.tables (created_in xs) (created_in ys))
        | false ↦ created_both xs ys
      ]

  -- the edges from the first place to this one were added
  pub record IsBegun (xs : List (Placed O)) (first place : ℕ) (fresh : Fresh) : Type 0 where
    pub operators : fresh.operators ++ numbers (drop place xs) ≡ numbers (drop first xs)
    pub creates : fresh.creates ++ creates_in (drop place xs) ≡ creates_in (drop first xs)
    pub tables : fresh.tables ++ created_in (drop place xs) ≡ created_in (drop first xs)

  -- one edge more
  one_more : (of : List (Placed O) → List ℕ) → ((xs ys : List (Placed O)) → of (xs ++ ys) ≡ of xs ++ of ys) → (xs : List (Placed O)) (first place : ℕ) (old new : List ℕ) (found : Option (Placed O)) → found ≡ slice_get xs place → old ++ of (drop place xs) ≡ of (drop first xs) → new ≡ old ++ of (option_to_list found) → new ++ of (drop (place + 1) xs) ≡ of (drop first xs)
  one_more of both xs first place old new found is begun adds =
      ap (λ (l : List ℕ). l ++ of (drop (place + 1) xs)) adds ∙ append_assoc old (of (option_to_list found)) (of (drop (place + 1) xs))
      ∙ ap (λ (l : List ℕ). old ++ l) (sym (both (option_to_list found) (drop (place + 1) xs)) ∙ ap of (sym (drop_next xs place found is))) ∙ begun

  pub next_begun : (xs : List (Placed O)) (first place : ℕ) (old new : Fresh) (found : Option (Placed O)) → found ≡ slice_get xs place → IsBegun xs first place old → AddsEdges (option_to_list found) old new → IsBegun xs first (place + 1) new
  next_begun xs first place old new found is begun adds = record {
    operators = one_more numbers numbers_both xs first place old.operators new.operators found is begun.operators adds.operators;
    creates = one_more creates_in creates_both xs first place old.creates new.creates found is begun.creates adds.creates;
    tables = one_more created_in created_both xs first place old.tables new.tables found is begun.tables adds.tables;
  }

  at_end : (of : List (Placed O) → List ℕ) → of [] ≡ [] → (xs : List (Placed O)) (first place : ℕ) (old : List ℕ) → length xs ≤ place → old ++ of (drop place xs) ≡ of (drop first xs) → old ≡ of (drop first xs)
  at_end of none xs first place old past begun = sym (append-nil old) ∙ ap (λ (l : List ℕ). old ++ l) (sym (ap of (drop_all place xs past) ∙ none)) ∙ begun

  -- all edges were added
  pub all_begun : (xs : List (Placed O)) (first place : ℕ) (fresh : Fresh) → length xs ≤ place → IsBegun xs first place fresh → AddsEdges (drop first xs) (record { operators = []; creates = []; tables = [] }) fresh
  all_begun xs first place fresh past begun = record {
    operators = at_end numbers refl xs first place fresh.operators past begun.operators;
    creates = at_end creates_in refl xs first place fresh.creates past begun.creates;
    tables = at_end created_in refl xs first place fresh.tables past begun.tables;
  }
