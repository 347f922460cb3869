-- What is under a number, and what no changes do.
use Rattle.std.proofs.Common.{◌≡◌, ℕ, ◌==◌, List, [], ◌∷◌, Bool, Some, None, inl, inr, refl, sym, ap, ◌∙◌}
use Rattle.std.proofs.lemmas.Bool.{eq-eqb, ne_eqb, eqb-true}
use Rattle.version_graph.specs.Sets.{In}
use Rattle.op_law.specs.Tables.{Tables}
use Rattle.row_changes.specs.Changed.{changed_tables}
use Rattle.op_law.proofs.OnlyLaws.{by_test}
use Rattle.version_model.specs.Kept.{value_of, numbers_in}
use Rattle.version_model.specs.declared.numbered.Numbered.{Numbered}
use Rattle.version_model.proofs.NumberedLaws.{looked, value_of_first}

-- no changes leave the tables
pub no_changes : (ts : Tables) → changed_tables ts [] ≡ ts
no_changes [] = refl
no_changes (t ∷ ts) = refl

module _ {T : Type 0} where
  -- the first item, and those behind it
  pub value_first : (x : Numbered T) (xs : List (Numbered T)) (n : ℕ) → n ≡ x.number → value_of (x ∷ xs) n ≡ Some x.value
  value_first x xs n same = value_of_first x xs n ∙ ap (λ (b : Bool). looked b x (value_of xs n)) (eq-eqb n x.number same)

  pub value_rest : (x : Numbered T) (xs : List (Numbered T)) (n : ℕ) → (n ≡ x.number → ⊥) → value_of (x ∷ xs) n ≡ value_of xs n
  value_rest x xs n other = value_of_first x xs n ∙ ap (λ (b : Bool). looked b x (value_of xs n)) (ne_eqb n x.number other)

  -- nothing stands under a number that isn't listed
  pub value_unlisted : (items : List (Numbered T)) (n : ℕ) → (In n (numbers_in items) → ⊥) → value_of items n ≡ None
  value_unlisted [] n out = refl
  value_unlisted (x ∷ xs) n out = value_rest x xs n (λ same. out (inl same)) ∙ value_unlisted xs n (λ i. out (inr i))

  -- something stands under a number that is listed
  pub value_missing : (items : List (Numbered T)) (n : ℕ) → In n (numbers_in items) → value_of items n ≡ None → ⊥
  value_missing [] n i none = i
  value_missing (x ∷ xs) n (inl same) none = let some = value_first x xs n same in (let no : ⊥ = cc in no)
  value_missing (x ∷ xs) n (inr i) none =
      by_test (n == x.number)
      (λ e. let some = value_first x xs n (eqb-true n x.number e) in (let no : ⊥ = cc in no))
      (λ e. value_missing xs n i (sym (value_of_first x xs n ∙ ap (λ (b : Bool). looked b x (value_of xs n)) e) ∙ none))
