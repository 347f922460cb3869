-- Which tokens say operators.
use Rattle.std.proofs.Common.{◌≡◌, ℕ, List, [], ◌∷◌, Bool, true, false, refl, ap, ◌∙◌, sym, cond}
use Rattle.std.specs.Prelude.{Some, codes, bytes_eq}
use Rattle.expr_lang.specs.declared.tree.BinaryOp.{BinaryOp}
use Rattle.expr_lang.specs.declared.tree.BinaryOp.TheVariants.{Or, And}
use Rattle.bidel_expr.specs.Lexemes.{Lexeme, word, number, reference, «text», symbol}
use Rattle.bidel_expr.specs.Operators.{look_up, comparisons, sums, products, or_of, and_of, compare_of, sum_of, product_of}
use Rattle.bidel_expr.proofs.WordLaws.{when_some, same_bytes}

-- something holds of each symbol of a table
abbrev pub Each : {X : Type 0} → (Lexeme → X) → X → List (List ℕ × BinaryOp) → Type 0
Each g x [] = Unit {0}
Each g x (entry ∷ table) = (g (symbol entry.0) ≡ x) × Each g x table

by_table : {X : Type 0} (g : Lexeme → X) (x : X) (table : List (List ℕ × BinaryOp)) → Each g x table → (s : List ℕ) (o : BinaryOp) → look_up table s ≡ Some o → g (symbol s) ≡ x
by_table g x [] each s o h = cc
by_table {X} g x (entry ∷ table) each s o h = at (bytes_eq entry.0 s) refl h (by_table g x table each.1 s o)
  where
    at : (b : Bool) → bytes_eq entry.0 s ≡ b → cond b (Some entry.1) (look_up table s) ≡ Some o → (look_up table s ≡ Some o → g (symbol s) ≡ x) → g (symbol s) ≡ x
    at true e h further = ap (λ (u : List ℕ). g (symbol u)) (sym (same_bytes entry.0 s e)) ∙ each.0
    at false e h further = further h

pub by_compare : {X : Type 0} (g : Lexeme → X) (x : X) → Each g x comparisons → (t : Lexeme) (o : BinaryOp) → compare_of t ≡ Some o → g t ≡ x
by_compare g x each (symbol s) o h = by_table g x comparisons each s o h
by_compare g x each (word w) o h = cc
by_compare g x each (number n) o h = cc
by_compare g x each (reference n) o h = cc
by_compare g x each («text» b) o h = cc

pub by_sum : {X : Type 0} (g : Lexeme → X) (x : X) → Each g x sums → (t : Lexeme) (o : BinaryOp) → sum_of t ≡ Some o → g t ≡ x
by_sum g x each (symbol s) o h = by_table g x sums each s o h
by_sum g x each (word w) o h = cc
by_sum g x each (number n) o h = cc
by_sum g x each (reference n) o h = cc
by_sum g x each («text» b) o h = cc

pub by_product : {X : Type 0} (g : Lexeme → X) (x : X) → Each g x products → (t : Lexeme) (o : BinaryOp) → product_of t ≡ Some o → g t ≡ x
by_product g x each (symbol s) o h = by_table g x products each s o h
by_product g x each (word w) o h = cc
by_product g x each (number n) o h = cc
by_product g x each (reference n) o h = cc
by_product g x each («text» b) o h = cc

pub by_or : {X : Type 0} (g : Lexeme → X) (x : X) → g (word (codes "or")) ≡ x → (t : Lexeme) (o : BinaryOp) → or_of t ≡ Some o → g t ≡ x
by_or g x k (word w) o h = ap (λ (u : List ℕ). g (word u)) (sym (same_bytes (codes "or") w (when_some (bytes_eq (codes "or") w) Or o h).0)) ∙ k
by_or g x k (number n) o h = cc
by_or g x k (reference n) o h = cc
by_or g x k («text» b) o h = cc
by_or g x k (symbol s) o h = cc

pub by_and : {X : Type 0} (g : Lexeme → X) (x : X) → g (word (codes "and")) ≡ x → (t : Lexeme) (o : BinaryOp) → and_of t ≡ Some o → g t ≡ x
by_and g x k (word w) o h = ap (λ (u : List ℕ). g (word u)) (sym (same_bytes (codes "and") w (when_some (bytes_eq (codes "and") w) And o h).0)) ∙ k
by_and g x k (number n) o h = cc
by_and g x k (reference n) o h = cc
by_and g x k («text» b) o h = cc
by_and g x k (symbol s) o h = cc
