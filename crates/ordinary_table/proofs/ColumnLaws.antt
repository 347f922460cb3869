-- What an UPDATE leaves at a column, and how many values a SELECT gives.
use Rattle.std.specs.Prelude.{slice_get}
use Rattle.std.specs.List.{All, filter}
use Rattle.std.specs.Option.{option_map}
use Rattle.std.proofs.Common.{◌≡◌, ◌≢◌, ◌∙◌, ℕ, zero, suc, ◌+◌, ◌<◌, ◌==◌, List, [], ◌∷◌, true, false, if◌then◌else◌, length, get_or, Option, Some, None, refl, ap, subst, arith}
use Rattle.std.proofs.lemmas.Bool.Decides.{nat_tests}
use Rattle.std.proofs.lemmas.List.{length-map}
use Rattle.std.proofs.lemmas.List.Elements.{All-map}
use Rattle.par_base.specs.declared.value.Value.{Value}
use Rattle.expr_lang.specs.Terms.{Term}
use Rattle.expr_lang.specs.Val.{val}
use Rattle.row_store.specs.Rows.{Rows}
use Rattle.ordinary_table.specs.Shown.{shown, meets}
use Rattle.ordinary_table.specs.Selected.{listed, selected}
use Rattle.ordinary_table.specs.Written.{SetTerm, value_after, values_after, set_row}
use Rattle.ordinary_table.specs.Laws.{AreApart}
use Rattle.ordinary_table.proofs.KeptLaws.{all_behind}

-- the value at a place of a row after SETs
value_at : (sets : List SetTerm) (before : List Value) (k m : ℕ) (values : List Value) → slice_get (values_after sets before k values) m ≡ option_map (value_after sets before (k + m)) (slice_get values m)
value_at sets before k m [] = refl
value_at sets before k zero (own ∷ values) = let same : k + zero ≡ k = omega arith in rw same refl
value_at sets before k (suc m) (own ∷ values) = let same : k + suc m ≡ k + 1 + m = omega arith in rw same (value_at sets before (k + 1) m values)

value_kept : (sets : List SetTerm) (before : List Value) (place : ℕ) (own : Value) → All (λ s. s.place ≢ place) sets → value_after sets before place own ≡ own
value_kept [] before place own apart = refl
value_kept (s ∷ sets) before place own apart =
    let differs : s.place ≢ place = apart 0 s (omega arith) in
    let other : (s.place == place) ≡ false = grind (arith, nat_tests, differs) in
    rw other (value_kept sets before place own (all_behind (λ (t : SetTerm). t.place ≢ place) s sets apart))

map_kept : (f : Value → Value) (found : Option Value) → ((v : Value) → f v ≡ v) → option_map f found ≡ found
map_kept f None same = refl
map_kept f (Some v) same = ap Some (same v)

pub columns_kept : (sets : List SetTerm) (r : ℕ × List Value) (place : ℕ) → All (λ s. s.place ≢ place) sets → slice_get (set_row sets r) place ≡ slice_get r.1 place
columns_kept sets r place apart =
    value_at sets (shown r) 0 place r.1 ∙ map_kept (value_after sets (shown r) (0 + place)) (slice_get r.1 place) (λ v. value_kept sets (shown r) (0 + place) v (subst (λ (p : ℕ). All (λ (s : SetTerm). s.place ≢ p) sets) (omega arith) apart))

value_set : (sets : List SetTerm) (before : List Value) (k : ℕ) (d : SetTerm) (own : Value) → AreApart sets → k < length sets → value_after sets before (get_or sets k d).place own ≡ val (get_or sets k d).value before
value_set [] before k d own apart within = absurd (omega arith)
value_set (s ∷ sets) before zero d own apart within =
    let same : (s.place == s.place) ≡ true = grind (arith, nat_tests) in
    rw same (value_kept sets before s.place (val s.value before) apart.0)
value_set (s ∷ sets) before (suc k) d own apart within = value_set sets before k d (if s.place == (get_or sets k d).place then val s.value before else own) apart.1 (omega arith)

map_found : (f : Value → Value) (v : Value) (values : List Value) (m : ℕ) → m < length values → ((w : Value) → f w ≡ v) → option_map f (slice_get values m) ≡ Some v
map_found f v [] m within is = absurd (omega arith)
map_found f v (w ∷ values) zero within is = ap Some (is w)
map_found f v (w ∷ values) (suc m) within is = map_found f v values m (omega arith) is

pub columns_set : (sets : List SetTerm) (r : ℕ × List Value) → AreApart sets → (k : ℕ) (d : SetTerm) → k < length sets → (get_or sets k d).place < length r.1 → slice_get (set_row sets r) (get_or sets k d).place ≡ Some (val (get_or sets k d).value (shown r))
columns_set sets r apart k d within column =
    let place : ℕ = (get_or sets k d).place in
    value_at sets (shown r) 0 (get_or sets k d).place r.1
    ∙ map_found (value_after sets (shown r) (0 + (get_or sets k d).place)) (val (get_or sets k d).value (shown r)) r.1 (get_or sets k d).place column
    (λ w. ap (λ (p : ℕ). value_after sets (shown r) p w) (omega arith) ∙ value_set sets (shown r) k d w apart within)

-- each row that is listed has a value for each place
pub selected_wide : (rows : Rows) (places : List ℕ) (condition : Option (Term ℕ)) → All (λ row. length row ≡ length places) (selected rows places condition)
selected_wide rows places condition = All-map (λ (row : List Value). length row ≡ length places) (listed places) (filter (meets condition) rows) (λ k d within. length-map places _)
