-- When the value of a tracked column follows its expression, and when it is kept.
use Rattle.std.specs.Prelude.{◌≢◌, if◌then◌else◌}
use Rattle.std.specs.List.{insert}
use Rattle.std.specs.Option.{option_map}
use Rattle.std.proofs.Common.{◌≡◌, ℕ, ◌-◌, List, [], ◌∷◌, length, true, false, Option, Some, None, IsSome, refl, sym, ◌∙◌, ap, arith}
use Rattle.std.proofs.lemmas.Bool.{false≢true}
use Rattle.std.proofs.lemmas.List.Edits.{length-insert}
use Rattle.par_base.specs.declared.value.Value.{Value}
use Rattle.par_base.specs.SameRows.{same_value}
use Rattle.par_base.specs.inner.SameLaws.{value_equal, value_same}
use Rattle.expr_lang.specs.Terms.{Term}
use Rattle.expr_lang.specs.Val.{val}
use Rattle.op_rows.specs.Cells.{first_cell}
use Rattle.row_parts.specs.RowEdits.{value_at, value_at-insert}
use Rattle.op_column.specs.AddColumn.{without_column, added_value}
use Rattle.op_column.specs.AddTracked.{last_of, last_value, unless_same, deviating, tracked}
use Rattle.op_column.specs.TrackedFollows.{DeviatingValueKept, OtherValueFollows, EqualValueNotKept, DeviatingValuesBeside}

-- the value that a row got is its last one
last_put : (row : List Value) (v : Value) → last_value (insert row (length row) v) ≡ v
last_put row v =
    let long = length-insert row (length row) v (omega arith) in
    let at : length (insert row (length row) v) - 1 ≡ length row = omega (arith, long) in
    ap (λ (n : ℕ). value_at n (insert row (length row) v)) at ∙ value_at-insert row (length row) v (omega arith)

tracked_last : (e : Term ℕ) (row : List Value) (kept : Option (List Value)) → option_map last_value (tracked e (Some row) kept) ≡ Some (added_value 0 e kept row)
tracked_last e row kept = ap (λ (v : Value). Some v) (last_put row (added_value 0 e kept row))

-- values that differ are told apart, and others aren't
unless_other : (follows value : Value) → (value ≡ follows → ⊥) → unless_same follows value ≡ Some (value ∷ [])
unless_other follows value other = elim (same_value follows value) as (λ b. same_value follows value ≡ b → (if b then None else Some (value ∷ [])) ≡ Some (value ∷ [])) [
  | true ↦ λ same. absurd (other (sym (value_equal follows value same)))
  | false ↦ λ differs. refl
] refl

unless_equal : (follows value : Value) → value ≡ follows → unless_same follows value ≡ None
unless_equal follows value same =
    let told : same_value follows value ≡ true = ap (same_value follows) same ∙ value_same follows in
    rw told refl

-- the last value of a row with one
last_of_some : (v w : Value) → Some v ≡ Some w → v ≡ w
last_of_some v w same = cc

-- a related pair deviates, or has the expression's value, or no row
deviates : (e : Term ℕ) (c t : Option (List Value)) → c ≡ without_column (last_of t) t → option_map last_value t ≢ option_map (val e) c → deviating e c t ≡ option_map (λ value. value ∷ []) (option_map last_value t)
deviates e None None same other = refl
deviates e (Some row) None same other = absurd (cc)
deviates e None (Some target) same other = absurd (cc)
deviates e (Some row) (Some target) same other = unless_other (val e row) (last_value target) (λ is. other (ap (λ (v : Value). Some v) is))

follows : (e : Term ℕ) (c t : Option (List Value)) → option_map last_value t ≡ option_map (val e) c → deviating e c t ≡ None
follows e None t same = refl
follows e (Some row) None same = refl
follows e (Some row) (Some target) same = unless_equal (val e row) (last_value target) (last_of_some (last_value target) (val e row) same)

-- at one identifier
kept_at : (e : Term ℕ) (near c t : Option (List Value)) → c ≡ without_column (last_of t) t → IsSome near → option_map last_value t ≢ option_map (val e) c
    → option_map last_value (tracked e near (deviating e c t)) ≡ option_map last_value t
kept_at e None c t same has other = absurd (false≢true has)
kept_at e (Some row) c None same has other = let none : c ≡ None = same in absurd (other (ap (option_map (val e)) (sym none)))
kept_at e (Some row) c (Some target) same has other =
    let is = deviates e c (Some target) same other in
    ap (λ (kept : Option (List Value)). option_map last_value (tracked e (Some row) kept)) is ∙ tracked_last e row (Some (last_value target ∷ []))

follows_at : (e : Term ℕ) (near c t : Option (List Value)) → option_map last_value t ≡ option_map (val e) c
    → option_map last_value (tracked e near (deviating e c t)) ≡ option_map (val e) near
follows_at e None c t same = refl
follows_at e (Some row) c t same =
    ap (λ (kept : Option (List Value)). option_map last_value (tracked e (Some row) kept)) (follows e c t same) ∙ tracked_last e row None

-- in tables
pub deviating_kept : DeviatingValueKept
deviating_kept e hs ht near s t pair near_of has other = kept_at e (first_cell near) (first_cell s) (first_cell t) pair.related has other

pub other_follows : OtherValueFollows
other_follows e hs ht near s t pair near_of same = follows_at e (first_cell near) (first_cell s) (first_cell t) same

pub equal_not_kept : EqualValueNotKept
equal_not_kept e hs ht written near s t pair written_of near_of same = follows_at e (first_cell near) _ (first_cell written) same

pub deviating_beside : DeviatingValuesBeside
deviating_beside e hs ht s t pair = (
  λ same. ap (λ (c : Option (List Value)). c ∷ []) (follows e (first_cell s) (first_cell t) same),
  λ other. ap (λ (c : Option (List Value)). c ∷ []) (deviates e (first_cell s) (first_cell t) pair.related other),
)
