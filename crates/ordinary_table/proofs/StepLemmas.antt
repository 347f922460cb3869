-- What statements make of a table up to one more row.
use Rattle.std.specs.List.{filter}
use Rattle.std.proofs.Common.{◌≡◌, ◌∙◌, ℕ, zero, suc, ◌+◌, ◌*◌, ◌<◌, ◌≤◌, List, [], ◌∷◌, ◌++◌, Bool, true, false, cond, map, length, get_or, take, Option, refl, ap, append-nil, arith}
use Rattle.std.proofs.Math.Nat.{suc-mul}
use Rattle.std.proofs.lemmas.List.{map-append}
use Rattle.std.proofs.lemmas.List.Elements.{filter-append}
use Rattle.par_base.specs.declared.value.Value.{Value}
use Rattle.expr_lang.specs.Terms.{Term}
use Rattle.row_store.specs.Rows.{Rows}
use Rattle.ordinary_table.specs.Shown.{meets}
use Rattle.ordinary_table.specs.Selected.{listed, selected}
use Rattle.ordinary_table.specs.Written.{numbered}
use Rattle.ordinary_table.proofs.RowLemmas.{IsRowAt, take_row}

pub filter_row : (p : ℕ × List Value → Bool) (rows : Rows) (i : ℕ) (r : ℕ × List Value) → IsRowAt rows i r → filter p (take (i + 1) rows) ≡ filter p (take i rows) ++ cond (p r) (r ∷ []) []
filter_row p rows i r at = ap (filter p) (take_row rows i r at) ∙ filter-append p (take i rows) (r ∷ [])

-- a row that meets the condition is listed, and no other one
pub selected_met : (rows : Rows) (places : List ℕ) (condition : Option (Term ℕ)) (i : ℕ) (r : ℕ × List Value) → IsRowAt rows i r → meets condition r ≡ true
    → selected (take (i + 1) rows) places condition ≡ selected (take i rows) places condition ++ listed places r ∷ []
selected_met rows places condition i r at met =
    ap (map (listed places)) (filter_row (meets condition) rows i r at) ∙ rw met (map-append (listed places) (filter (meets condition) (take i rows)) (r ∷ []))

pub selected_unmet : (rows : Rows) (places : List ℕ) (condition : Option (Term ℕ)) (i : ℕ) (r : ℕ × List Value) → IsRowAt rows i r → meets condition r ≡ false
    → selected (take (i + 1) rows) places condition ≡ selected (take i rows) places condition
selected_unmet rows places condition i r at unmet =
    ap (map (listed places)) (filter_row (meets condition) rows i r at ∙ rw unmet (append-nil (filter (meets condition) (take i rows))))

-- the next new row comes last
pub numbered_suc : (next : ℕ) (new : List (List Value)) (i : ℕ) (d : List Value) → i < length new → numbered next (take (suc i) new) ≡ numbered next (take i new) ++ (next + i, get_or new i d) ∷ []
unfolding numbered
numbered_suc next [] i d within = absurd (omega arith)
numbered_suc next (row ∷ new) zero d within = let same : next + 0 ≡ next = omega arith in rw same refl
numbered_suc next (row ∷ new) (suc i) d within =
    let rest = numbered_suc (next + 1) new i d (omega arith) in
    let same : next + 1 + i ≡ next + suc i = omega arith in
    rw (rest, same) refl

-- the steps of one more row
pub steps_more : (start before now i many : ℕ) → before ≤ start + i * many → now ≤ before + many → now ≤ start + (i + 1) * many
steps_more start before now i many have more = omega (arith, suc-mul i many)
