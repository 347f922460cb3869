-- The first name that stands among those before it, of two lists in turn.
use Rattle.std.proofs.Common.{◌≡◌, ℕ, List, [], ◌∷◌, ◌++◌, true, false, cond, Some, refl, sym, ◌∙◌, ap}
use Rattle.std.specs.List.{list_any}
use Rattle.std.specs.Option.{option_or}
use Rattle.std.specs.Str.{bytes_eq}
use Rattle.std.proofs.lemmas.List.{append_assoc, append-nil}
use Rattle.op_checks.specs.NameChecks.{repeated}

-- of two lists in turn
pub repeated_both : (seen xs ys : List (List ℕ)) → repeated seen (xs ++ ys) ≡ option_or (repeated seen xs) (repeated (seen ++ xs) ys)
unfolding repeated
repeated_both seen [] ys = ap (λ (l : List (List ℕ)). repeated l ys) (sym (append-nil seen))
repeated_both seen (x ∷ xs) ys =
    let more : repeated (seen ++ x ∷ []) (xs ++ ys) ≡ option_or (repeated (seen ++ x ∷ []) xs) (repeated (seen ++ x ∷ xs) ys) =
    repeated_both (seen ++ x ∷ []) xs ys ∙ ap (λ (l : List (List ℕ)). option_or (repeated (seen ++ x ∷ []) xs) (repeated l ys)) (append_assoc seen (x ∷ []) xs) in
    elim (list_any (bytes_eq x) seen) as (λ b. cond b (Some x) (repeated (seen ++ x ∷ []) (xs ++ ys)) ≡ option_or (cond b (Some x) (repeated (seen ++ x ∷ []) xs)) (repeated (seen ++ x ∷ xs) ys)) [
      | true ↦ refl
      | false ↦ more
    ]
