-- Edits of rows past their ends, and rows that are made value by value.
use Rattle.std.specs.Prelude.{slice_get}
use Rattle.std.proofs.Common.{◌≡◌, ℕ, zero, suc, ◌+◌, ◌<◌, ◌≤◌, ◌==◌, List, [], ◌∷◌, ◌++◌, length, drop, get_or, true, false, if◌then◌else◌, Some, None, refl, ap, sym, ◌∙◌, arith}
use Rattle.std.proofs.lemmas.Bool.Decides.{nat_tests}
use Rattle.std.proofs.lemmas.List.{drop_more}
use Rattle.std.proofs.Math.ListN.{drop_of_length-le}
use Rattle.par_base.specs.declared.value.Value.{Value}
use Rattle.par_base.specs.declared.value.Value.TheVariants.{Null}
use Rattle.row_parts.specs.Places.{filled, value_for}

slice_get-some : (vs : List Value) (i : ℕ) (d : Value) → i < length vs → slice_get vs i ≡ Some (get_or vs i d)
slice_get-some [] i d h = absurd (omega arith)
slice_get-some (v ∷ vs) zero d h = refl
slice_get-some (v ∷ vs) (suc i) d h = slice_get-some vs i d (omega arith)

-- what is left of places and values, one step on
pub value_for_more : (ps : List ℕ) (vs : List Value) (i place : ℕ) (d : Value) → i < length ps → i < length vs → value_for (drop i ps) (drop i vs) place ≡ (if get_or ps i 0 == place then Some (get_or vs i d) else value_for (drop (i + 1) ps) (drop (i + 1) vs) place)
value_for_more ps vs i place d h g = rw (drop_more ps i 0 h, drop_more vs i d g) refl

no_values : (ps : List ℕ) (place : ℕ) → value_for ps [] place ≡ None
no_values [] place = refl
no_values (p ∷ ps) place = refl

-- and where the values end first
pub value_for_end : (ps : List ℕ) (vs : List Value) (i place : ℕ) → length vs ≤ i → value_for (drop i ps) (drop i vs) place ≡ None
value_for_end ps vs i place h = ap (λ (rest : List Value). value_for (drop i ps) rest place) (drop_of_length-le vs h) ∙ no_values (drop i ps) place

pub value_for_next : (ps : List ℕ) (vs : List Value) (i place : ℕ) → i < length ps → i < length vs → (get_or ps i 0 ≡ place → ⊥) → value_for (drop (i + 1) ps) (drop (i + 1) vs) place ≡ value_for (drop i ps) (drop i vs) place
value_for_next ps vs i place h g apart =
    let other : (get_or ps i 0 == place) ≡ false = grind (arith, nat_tests, apart) in
    sym (value_for_more ps vs i place Null h g ∙ rw other refl)

pub value_for_here : (ps : List ℕ) (vs : List Value) (i place : ℕ) → i < length ps → i < length vs → get_or ps i 0 ≡ place → slice_get vs i ≡ value_for (drop i ps) (drop i vs) place
value_for_here ps vs i place h g own =
    let same : (get_or ps i 0 == place) ≡ true = grind (arith, nat_tests, own) in
    slice_get-some vs i Null g ∙ sym (value_for_more ps vs i place Null h g ∙ rw same refl)

-- one value more
filled_more : (count from : ℕ) (f : ℕ → Value) → filled (suc count) from f ≡ filled count from f ++ f (from + count) ∷ []
filled_more zero from f = ap (λ (i : ℕ). f i ∷ []) (omega arith)
filled_more (suc count) from f = ap (λ (vs : List Value). f from ∷ vs) (filled_more count (from + 1) f ∙ ap (λ (i : ℕ). filled count (from + 1) f ++ f i ∷ []) (omega arith))

length-filled : (count from : ℕ) (f : ℕ → Value) → length (filled count from f) ≡ count
length-filled zero from f = refl
length-filled (suc count) from f = ap suc (length-filled count (from + 1) f)

-- a value behind a row that is filled so far
pub filled_next : (row : List Value) (n count : ℕ) (v : Value) (f : ℕ → Value) → row ≡ filled count 0 f → n ≡ length row → v ≡ f n → row ++ v ∷ [] ≡ filled (count + 1) 0 f
filled_next row n count v f is long value =
    let m : n ≡ count = long ∙ ap length is ∙ length-filled count 0 f in
    let e : count + 1 ≡ suc count = omega arith in
    ap (λ (vs : List Value). vs ++ v ∷ []) is ∙ ap (λ (x : Value). filled count 0 f ++ x ∷ []) (value ∙ ap f (m ∙ omega arith)) ∙ sym (filled_more count 0 f) ∙ ap (λ (i : ℕ). filled i 0 f) (sym e)
