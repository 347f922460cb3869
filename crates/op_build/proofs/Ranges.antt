-- So many places from one on, and the two that divide the columns of a join's target.
use Rattle.std.proofs.Common.{◌≡◌, ℕ, zero, suc, ◌+◌, ◌<◌, ◌≤◌, List, [], ◌∷◌, ◌++◌, length, true, false, refl, sym, ◌∙◌, ap, subst, arith}
use Rattle.std.specs.Prelude.{◌==◌, slice_get, unwrap_or}
use Rattle.std.proofs.lemmas.Bool.{false≢true, eqb-true}
use Rattle.std.proofs.lemmas.Bool.Decides.{nat_tests}
use Rattle.std.proofs.lemmas.List.{append_assoc, append-nil, length-append}
use Rattle.std.proofs.lemmas.Option.{unwrap_or-slice_get}
use Rattle.std.proofs.Math.Seq.{get_or-append_seam}
use Rattle.row_parts.specs.RowCells.{by_test}
use Rattle.row_parts.specs.Places.{has_place, AreOnce, names_at}
use Rattle.row_parts.specs.Partition.{Divides, divides}
use Rattle.op_outer_cond.specs.Outerings.{places_from}

has_range : (from count q : ℕ) → has_place (places_from from count) q ≡ true → (from ≤ q) × (q < from + count)
unfolding places_from
has_range from zero q has = absurd (false≢true has)
has_range from (suc count) q has =
    by_test (from == q)
    (λ e. let same = eqb-true from q e in (omega (arith, same), omega (arith, same)))
    (λ e.
    let rest : has_place (places_from (from + 1) count) q ≡ true = rw e at has in
    let range = has_range (from + 1) count q rest in
    let low = range.0 in
    let high = range.1 in
    (omega (arith, low), omega (arith, high)))

in_range : (from count q : ℕ) → from ≤ q → q < from + count → has_place (places_from from count) q ≡ true
unfolding places_from
in_range from zero q low high = absurd (omega (arith, low, high))
in_range from (suc count) q low high =
    by_test (from == q)
    (λ e. rw e refl)
    (λ e. let more : from + 1 ≤ q = grind (arith, nat_tests, e, low) in rw e (in_range (from + 1) count q more (omega (arith, high))))

range_once : (from count : ℕ) → AreOnce (places_from from count)
unfolding places_from
range_once from zero = tt
range_once from (suc count) = (
  by_test (has_place (places_from (from + 1) count) from) (λ stands. let low = (has_range (from + 1) count from stands).0 in absurd (omega (arith, low))) (λ absent. absent),
  range_once (from + 1) count,
)

pub length-range : (from count : ℕ) → length (places_from from count) ≡ count
unfolding places_from
length-range from zero = refl
length-range from (suc count) = ap suc (length-range (from + 1) count)

range_append : (from a b : ℕ) → places_from from a ++ places_from (from + a) b ≡ places_from from (a + b)
unfolding places_from
range_append from zero b =
    let start : from + 0 ≡ from = omega arith in
    let many : b ≡ 0 + b = omega arith in
    ap (λ (n : ℕ). places_from n b) start ∙ ap (λ (n : ℕ). places_from from n) many
range_append from (suc a) b =
    let same : from + suc a ≡ (from + 1) + a = omega arith in
    let many : suc (a + b) ≡ suc a + b = omega arith in
    ap (λ (n : ℕ). from ∷ (places_from (from + 1) a ++ places_from n b)) same
    ∙ ap (λ (ps : List ℕ). from ∷ ps) (range_append (from + 1) a b)
    ∙ ap (λ (n : ℕ). places_from from n) many

range_last : (from count : ℕ) → places_from from (suc count) ≡ places_from from count ++ (from + count) ∷ []
unfolding places_from
range_last from zero = ap (λ (n : ℕ). n ∷ []) (omega arith)
range_last from (suc count) =
    let same : (from + 1) + count ≡ from + suc count = omega arith in
    ap (λ (ps : List ℕ). from ∷ ps) (range_last (from + 1) count) ∙ ap (λ (n : ℕ). from ∷ (places_from (from + 1) count ++ n ∷ [])) same

-- one place more
pub range_more : (from count : ℕ) → places_from from (count + 1) ≡ places_from from count ++ (from + count) ∷ []
range_more from count =
    let same : count + 1 ≡ suc count = omega arith in
    ap (λ (n : ℕ). places_from from n) same ∙ range_last from count

-- the places of the one and of the other
pub ranges_divide : (a b : ℕ) → Divides (places_from 0 a) (places_from a b) (a + b)
ranges_divide a b =
    let same : a ≡ 0 + a = omega arith in
    let are : places_from 0 a ++ places_from a b ≡ places_from 0 (a + b) = ap (λ (n : ℕ). places_from 0 a ++ places_from n b) same ∙ range_append 0 a b in
    divides (places_from 0 a) (places_from a b) (a + b)
    (subst (λ (ps : List ℕ). AreOnce ps) (sym are) (range_once 0 (a + b)))
    (λ q has. let high = (has_range 0 (a + b) q (subst (λ (ps : List ℕ). has_place ps q ≡ true) are has)).1 in omega (arith, high))
    (λ q below. subst (λ (ps : List ℕ). has_place ps q ≡ true) (sym are) (in_range 0 (a + b) q (omega arith) (omega (arith, below))))

names_range : (before columns after : List (List ℕ)) → names_at (places_from (length before) (length columns)) (before ++ (columns ++ after)) ≡ columns
unfolding places_from
names_range before [] after = refl
names_range before (c ∷ columns) after =
    let head : unwrap_or (slice_get (before ++ c ∷ (columns ++ after)) (length before)) [] ≡ c =
    unwrap_or-slice_get (before ++ c ∷ (columns ++ after)) (length before) [] ∙ get_or-append_seam before c (columns ++ after) [] in
    let long : length before + 1 ≡ length (before ++ c ∷ []) = sym (length-append before (c ∷ [])) in
    let tail : names_at (places_from (length before + 1) (length columns)) (before ++ c ∷ (columns ++ after)) ≡ columns =
    ap (λ (n : ℕ). names_at (places_from n (length columns)) (before ++ c ∷ (columns ++ after))) long
    ∙ ap (names_at (places_from (length (before ++ c ∷ [])) (length columns))) (sym (append_assoc before (c ∷ []) (columns ++ after)))
    ∙ names_range (before ++ c ∷ []) columns after in
    cc

-- the names at the one's places are its columns, and those at the other's its
pub first_names : (xs ys : List (List ℕ)) → names_at (places_from 0 (length xs)) (xs ++ ys) ≡ xs
first_names xs ys = names_range [] xs ys

pub second_names : (xs ys : List (List ℕ)) → names_at (places_from (length xs) (length ys)) (xs ++ ys) ≡ ys
second_names xs ys =
    ap (λ (l : List (List ℕ)). names_at (places_from (length xs) (length ys)) (xs ++ l)) (sym (append-nil ys)) ∙ names_range xs ys []
