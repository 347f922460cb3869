-- Rows that are chosen among those that may be shared, in a part and in the whole.
use Rattle.std.proofs.Common.{◌≡◌, ℕ, ◌+◌, ◌≤◌, ◌⊎◌, List, [], ◌∷◌, ◌++◌, filter, Bool, true, not, Option, Some, None, refl, ap, ◌∙◌, arith}
use mathlib.Core.Logic.{inl, inr}
use Rattle.par_base.specs.declared.value.Value.{Value}
use Rattle.row_store.specs.Rows.{Rows, RiseFrom}
use Rattle.op_law.specs.Local.{rows_only}
use Rattle.row_parts.specs.RowCells.{by_test}
use Rattle.pair_rows.specs.Given.{got, least, or_id}
use Rattle.cond_parts.proofs.GotLemmas.{LeastFrom, got_from, got_id, got_next, got_only, got_part, got_pass, got_rest, or_from, or_only}

-- what is chosen in a part, and in the whole, of the rows and of those that may be shared
pub record Chosen (P : ℕ → Bool) (n : ℕ) (base shared : Rows) (own : Option ℕ) (v : List Value) (rows : Rows) (k : ℕ) : Type 0 where
  pub is_part : got (or_id own (least (rows_only P shared) v)) (rows_only P rows) v k ≡ got_part P (got (or_id own (least shared v)) rows v k)
  pub shared_part : got (or_id own (least (rows_only P shared) v)) (rows_only P shared) v k ≡ got_part P (got (or_id own (least shared v)) shared v k)
  pub from : (or_id own (least base v) ≡ Some (got (or_id own (least shared v)) rows v k).id) ⊎ (n ≤ (got (or_id own (least shared v)) rows v k).id)
  pub pass : P (got (or_id own (least shared v)) rows v k).id ≡ true
  pub least_from : LeastFrom n base (got (or_id own (least shared v)) shared v k).rows
  pub rest : rows_only (λ q. not (P q)) (got (or_id own (least shared v)) rows v k).rows ≡ rows_only (λ q. not (P q)) rows
  pub next : k ≤ (got (or_id own (least shared v)) rows v k).next

pub chosen : (P : ℕ → Bool) (n : ℕ) (base shared : Rows) (own : Option ℕ) (v : List Value) (rows : Rows) (k : ℕ) → n ≤ k → ((q : ℕ) → n ≤ q → P q ≡ true) → LeastFrom n base shared → ((q : ℕ) → or_id own (least base v) ≡ Some q → P q ≡ true)
    → Chosen P n base shared own v rows k
chosen P n base shared own v rows k h high from found =
    let choice = or_id own (least shared v) in
    let passes : (q : ℕ) → choice ≡ Some q → P q ≡ true = λ q e. elim (or_from n base own shared v q from e) [ inl old ↦ found q old | inr new ↦ high q new ] in
    let drawn = high k h in
    let same = or_only P own shared v passes in
    record {
      is_part = ap (λ (o : Option ℕ). got o (rows_only P rows) v k) same ∙ got_only P choice rows v k drawn;
      shared_part = ap (λ (o : Option ℕ). got o (rows_only P shared) v k) same ∙ got_only P choice shared v k drawn;
      from = elim (got_id choice rows v k) [ inl e ↦ or_from n base own shared v (got choice rows v k).id from e | inr low ↦ inr (omega (arith, h, low)) ];
      pass = got_pass P choice rows v k drawn passes;
      least_from = got_from n base choice shared v k h from;
      rest = got_rest P choice rows v k drawn;
      next = got_next choice rows v k;
    }

-- each row has an identifier of which something holds
abbrev pub AllIds : (ℕ → Type 0) → Rows → Type 0
AllIds F [] = Unit {0}
AllIds F (r ∷ rs) = F r.0 × AllIds F rs

-- rows from 1 on
pub ids_from : (n : ℕ) (rows : Rows) → 1 ≤ n → RiseFrom n rows → AllIds (λ q. 1 ≤ q) rows
ids_from n [] h rise = tt
ids_from n (r ∷ rs) h rise = let low = rise.0 in (omega (arith, h, low), ids_from (r.0 + 1) rs (omega arith) rise.1)

-- with what was found or drawn
pub ids_got : (o : Option ℕ) (rows : Rows) (v : List Value) (k : ℕ) → 1 ≤ k → AllIds (λ q. 1 ≤ q) rows → AllIds (λ q. 1 ≤ q) (got o rows v k).rows
ids_got (Some id) rows v k h all = all
ids_got None rows v k h all = behind rows all
  where
    behind : (rs : Rows) → AllIds (λ q. 1 ≤ q) rs → AllIds (λ q. 1 ≤ q) (rs ++ (k, v) ∷ [])
    behind [] own = (h, tt)
    behind (x ∷ xs) own = (own.0, behind xs own.1)

-- rows that pass, among those that a test leaves
pub filter_in : (P test small : ℕ → Bool) (rows : Rows) → AllIds (λ q. 1 ≤ q) rows → ((q : ℕ) → 1 ≤ q → P q ≡ true → small q ≡ test q) → filter (λ r. small r.0) (rows_only P rows) ≡ rows_only P (filter (λ r. test r.0) rows)
filter_in P test small [] all same = refl
filter_in P test small (r ∷ rs) all same =
    let rest = filter_in P test small rs all.1 same in
    by_test (P r.0)
    (λ u.
    let here = same r.0 all.0 u in
    by_test (test r.0)
    (λ v. let own = here ∙ v in rw (u, v) (rw own (rw u (ap (λ (l : Rows). r ∷ l) rest))))
    (λ v. let own = here ∙ v in rw (u, v) (rw own rest)))
    (λ u. by_test (test r.0) (λ v. rw (u, v) (rw u rest)) (λ v. rw (u, v) rest))

-- those that pass one test, of those that pass another, the other way round
pub filter_swap : (P test : ℕ → Bool) (rows : Rows) → rows_only P (filter (λ r. test r.0) rows) ≡ filter (λ r. test r.0) (rows_only P rows)
filter_swap P test [] = refl
filter_swap P test (r ∷ rs) =
    let rest = filter_swap P test rs in
    by_test (P r.0)
    (λ u. by_test (test r.0) (λ v. rw (u, v) (rw u (ap (λ (l : Rows). r ∷ l) rest))) (λ v. rw (u, v) rest))
    (λ u. by_test (test r.0) (λ v. rw (u, v) (rw u rest)) (λ v. rw (u, v) rest))

-- rows that all pass a test
pub filter_stays : (P test : ℕ → Bool) (rows : Rows) → AllIds (λ q. P q ≡ true → test q ≡ true) rows → filter (λ r. test r.0) (rows_only P rows) ≡ rows_only P rows
filter_stays P test [] all = refl
filter_stays P test (r ∷ rs) all =
    let rest = filter_stays P test rs all.1 in
    by_test (P r.0)
    (λ u. let v = all.0 u in rw u (rw v (ap (λ (l : Rows). r ∷ l) rest)))
    (λ u. rw u rest)
