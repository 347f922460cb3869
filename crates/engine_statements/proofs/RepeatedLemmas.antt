-- The first SET of a column that is set before.
use Rattle.std.proofs.Common.{◌≡◌, ℕ, suc, ◌+◌, ◌<◌, List, [], ◌∷◌, ◌++◌, Bool, true, false, Some, length, get_or, take, drop, drop-cons, map, refl, sym, ◌∙◌, ap, arith}
use Rattle.std.specs.Prelude.{◌||◌}
use Rattle.std.specs.List.{list_any}
use Rattle.std.specs.Str.{bytes_eq}
use Rattle.std.proofs.lemmas.Bool.{cond-true, cond-false}
use Rattle.std.proofs.lemmas.List.{map-append, take_more}
use Rattle.statements.specs.declared.statement.Assignment.{Assignment}
use Rattle.statements.specs.Views.{assignment_view, AssignmentView}
use Rattle.op_checks.specs.NameChecks.{repeated}
use Rattle.engine_statements.specs.Statements.{set_columns}

abbrev pub columns_set : List Assignment → List (List ℕ)
columns_set assignments = set_columns (map assignment_view assignments)

any_set : (column : List ℕ) (assignments : List Assignment) → list_any (bytes_eq column) (columns_set assignments) ≡ list_any (λ (a : Assignment). bytes_eq column a.column) assignments
any_set column [] = refl
any_set column (a ∷ more) = ap (λ (b : Bool). bytes_eq column a.column || b) (any_set column more)

drop_at : (assignments : List Assignment) (at : ℕ) (a : Assignment) → at < length assignments → a ≡ get_or assignments at a → drop at assignments ≡ a ∷ drop (at + 1) assignments
drop_at assignments at a within is =
    let next : suc at ≡ at + 1 = omega arith in
    drop-cons assignments at a within ∙ ap (λ (n : ℕ). get_or assignments at a ∷ drop n assignments) next ∙ ap (λ (b : Assignment). b ∷ drop (at + 1) assignments) (sym is)

take_at : (assignments : List Assignment) (at : ℕ) (a : Assignment) → at < length assignments → a ≡ get_or assignments at a → columns_set (take (at + 1) assignments) ≡ columns_set (take at assignments) ++ a.column ∷ []
take_at assignments at a within is =
    ap columns_set (take_more assignments at a within ∙ ap (λ (b : Assignment). take at assignments ++ b ∷ []) (sym is))
    ∙ ap set_columns (map-append assignment_view (take at assignments) (a ∷ []))
    ∙ map-append (λ (v : AssignmentView). v.column) (map assignment_view (take at assignments)) (map assignment_view (a ∷ []))

-- a column that is set before
pub repeated_here : (assignments : List Assignment) (at : ℕ) (a : Assignment) → at < length assignments → a ≡ get_or assignments at a → list_any (λ (b : Assignment). bytes_eq a.column b.column) (take at assignments) ≡ true
    → repeated (columns_set (take at assignments)) (columns_set (drop at assignments)) ≡ Some a.column
unfolding repeated
repeated_here assignments at a within is among =
    let seen = columns_set (take at assignments) in
    let rest = columns_set (drop (at + 1) assignments) in
    ap (λ (l : List Assignment). repeated seen (columns_set l)) (drop_at assignments at a within is)
    ∙ cond-true (list_any (bytes_eq a.column) seen) (Some a.column) (repeated (seen ++ a.column ∷ []) rest) (any_set a.column (take at assignments) ∙ among)

-- a column that isn't
pub repeated_past : (assignments : List Assignment) (at : ℕ) (a : Assignment) → at < length assignments → a ≡ get_or assignments at a → list_any (λ (b : Assignment). bytes_eq a.column b.column) (take at assignments) ≡ false
    → repeated (columns_set (take at assignments)) (columns_set (drop at assignments)) ≡ repeated (columns_set (take (at + 1) assignments)) (columns_set (drop (at + 1) assignments))
unfolding repeated
repeated_past assignments at a within is among =
    let seen = columns_set (take at assignments) in
    let rest = columns_set (drop (at + 1) assignments) in
    ap (λ (l : List Assignment). repeated seen (columns_set l)) (drop_at assignments at a within is)
    ∙ cond-false (list_any (bytes_eq a.column) seen) (Some a.column) (repeated (seen ++ a.column ∷ []) rest) (any_set a.column (take at assignments) ∙ among)
    ∙ ap (λ (l : List (List ℕ)). repeated l rest) (sym (take_at assignments at a within is))
