-- Entries and pairs of rows that pass, among those that a test leaves.
use Rattle.std.proofs.Common.{◌≡◌, ℕ, ◌+◌, ◌≤◌, List, [], ◌∷◌, ◌++◌, filter, Bool, true, false, not, refl, ap, ◌∙◌, arith}
use Rattle.row_store.specs.Rows.{Rows}
use Rattle.id_memory.specs.Pairs.{Pairs, has_pair}
use Rattle.op_law.specs.Local.{rows_only}
use Rattle.row_parts.specs.RowCells.{by_test}
use Rattle.pair_rows.specs.Shown.{all_pairs, has, numbered, pairs_with}
use Rattle.pair_rows.specs.inner.Lookups.{filter_append}
use Rattle.pair_rows.specs.inner.PairLemmas.{AllIn, all_in}
use Rattle.pair_parts.specs.Parts.{memory_only}
use Rattle.cond_parts.proofs.MemoryLemmas.{Each}

-- pairs of rows that pass, where a test passes no others, and another tells the same of them
module _ (P : ℕ → Bool) (test small : ℕ × ℕ → Bool) (alike : (a b : ℕ) → P a ≡ true → P b ≡ true → small (a, b) ≡ test (a, b)) (inside : (a b : ℕ) → test (a, b) ≡ true → (P a ≡ true) × (P b ≡ true)) where
  -- with one row that passes
  with_part : (a : ℕ) (t : Rows) → P a ≡ true → filter small (pairs_with a (rows_only P t)) ≡ filter test (pairs_with a t)
  with_part a [] pass = refl
  with_part a (r ∷ rs) pass =
      let rest = with_part a rs pass in
      by_test (P r.0)
      (λ e.
      let same = alike a r.0 pass e in
      rw e (by_test (test (a, r.0))
      (λ q. let here = same ∙ q in rw (here, q) (ap (λ (xs : List (ℕ × ℕ)). (a, r.0) ∷ xs) rest))
      (λ q. let here = same ∙ q in rw (here, q) rest)))
      (λ e.
      let none : test (a, r.0) ≡ false = by_test (test (a, r.0)) (λ q. let bad = (inside a r.0 q).1 in absurd (cc)) (λ q. q) in
      rw (e, none) rest)

  -- with one that doesn't
  with_none : (a : ℕ) (t : Rows) → P a ≡ false → filter test (pairs_with a t) ≡ []
  with_none a [] out = refl
  with_none a (r ∷ rs) out =
      let none : test (a, r.0) ≡ false = by_test (test (a, r.0)) (λ q. let bad = (inside a r.0 q).0 in absurd (cc)) (λ q. q) in
      rw none (with_none a rs out)

  -- among all
  pub pairs_part : (s t : Rows) → filter small (all_pairs (rows_only P s) (rows_only P t)) ≡ filter test (all_pairs s t)
  pairs_part [] t = refl
  pairs_part (r ∷ rs) t =
      let rest = pairs_part rs t in
      let whole = filter_append test (pairs_with r.0 t) (all_pairs rs t) in
      by_test (P r.0)
      (λ e.
      let part = filter_append small (pairs_with r.0 (rows_only P t)) (all_pairs (rows_only P rs) (rows_only P t)) in
      let row = with_part r.0 t e in
      rw e (part ∙ rw (whole, row, rest) refl))
      (λ e. let none = with_none r.0 t e in rw (e, whole, none) rest)

-- entries that pass, among those that a test leaves
pub filter_part : (P : ℕ → Bool) (test small : ℕ × ℕ × ℕ → Bool) (es : Pairs) → Each (λ e. P e.0 ≡ true → small e ≡ test e) es → filter small (memory_only P es) ≡ memory_only P (filter test es)
filter_part P test small [] all = refl
filter_part P test small (e ∷ es) all =
    let rest = filter_part P test small es all.1 in
    by_test (P e.0)
    (λ q.
    let same = all.0 q in
    by_test (test e)
    (λ u. let here = same ∙ u in rw (q, u) (rw here (rw q (ap (λ (fs : Pairs). e ∷ fs) rest))))
    (λ u. let here = same ∙ u in rw (q, u) (rw here rest)))
    (λ q. by_test (test e) (λ u. rw (q, u) (rw q rest)) (λ u. rw (q, u) rest))

-- what doesn't pass stays, where the test leaves it
pub filter_rest : (P : ℕ → Bool) (test : ℕ × ℕ × ℕ → Bool) (es : Pairs) → Each (λ e. P e.0 ≡ false → test e ≡ true) es → memory_only (λ q. not (P q)) (filter test es) ≡ memory_only (λ q. not (P q)) es
filter_rest P test [] all = refl
filter_rest P test (e ∷ es) all =
    let rest = filter_rest P test es all.1 in
    by_test (P e.0)
    (λ q. by_test (test e) (λ u. rw (q, u) (rw q rest)) (λ u. rw (q, u) rest))
    (λ q. let u = all.0 q in rw (q, u) (rw q (ap (λ (fs : Pairs). e ∷ fs) rest)))

-- what holds of each entry holds of each that is left
pub each_filter : (F : ℕ × ℕ × ℕ → Type 0) (test : ℕ × ℕ × ℕ → Bool) (es : Pairs) → Each F es → Each F (filter test es)
each_filter F test [] all = tt
each_filter F test (e ∷ es) all = by_test (test e) (λ q. rw q (all.0, each_filter F test es all.1)) (λ q. rw q (each_filter F test es all.1))

-- and of each of two lists
pub each_append : (F : ℕ × ℕ × ℕ → Type 0) (es fs : Pairs) → Each F es → Each F fs → Each F (es ++ fs)
each_append F [] fs one other = other
each_append F (e ∷ es) fs one other = (one.0, each_append F es fs one.1 other)

-- numbers that all pass
pub numbered_part : (P : ℕ → Bool) (n : ℕ) (xs : List (ℕ × ℕ)) → ((q : ℕ) → n ≤ q → P q ≡ true) → memory_only P (numbered n xs) ≡ numbered n xs
numbered_part P n [] high = refl
numbered_part P n (x ∷ xs) high =
    let e = high n (omega arith) in
    rw e (ap (λ (es : Pairs). (n, x.0, x.1) ∷ es) (numbered_part P (n + 1) xs (λ q h. high q (omega (arith, h)))))

-- so none is among the others
pub numbered_rest : (P : ℕ → Bool) (n : ℕ) (xs : List (ℕ × ℕ)) → ((q : ℕ) → n ≤ q → P q ≡ true) → memory_only (λ q. not (P q)) (numbered n xs) ≡ []
numbered_rest P n [] high = refl
numbered_rest P n (x ∷ xs) high = let e = high n (omega arith) in rw e (numbered_rest P (n + 1) xs (λ q h. high q (omega (arith, h))))

-- a pair whose entries pass is in the part where it is in the whole
pub has_part : (P : ℕ → Bool) (a b : ℕ) (es : Pairs) → Each (λ e. has_pair a b e ≡ true → P e.0 ≡ true) es → has (memory_only P es) a b ≡ has es a b
has_part P a b [] all = refl
has_part P a b (e ∷ es) all =
    let rest = has_part P a b es all.1 in
    by_test (has_pair a b e)
    (λ q. let pass = all.0 q in rw pass (rw q refl))
    (λ q. by_test (P e.0) (λ u. rw u (rw q rest)) (λ u. rw u (rw q rest)))

-- entries that pass are in the part
in_from : (P : ℕ → Bool) (m es : Pairs) → AllIn m (memory_only P es) → Each (λ e. P e.0 ≡ true → has m e.1 e.2 ≡ true) es
in_from P m [] all = tt
in_from P m (e ∷ es) all =
    by_test (P e.0)
    (λ q. let here : AllIn m (e ∷ memory_only P es) = rw q at all in ((λ u. here.0), in_from P m es here.1))
    (λ q. let rest : AllIn m (memory_only P es) = rw q at all in ((λ u. absurd (cc)), in_from P m es rest))

pub in_part : (P : ℕ → Bool) (m : Pairs) → Each (λ e. P e.0 ≡ true → has (memory_only P m) e.1 e.2 ≡ true) m
in_part P m = in_from P (memory_only P m) m (all_in (memory_only P m))

-- and all are in the whole
pub in_whole : (m es : Pairs) → AllIn m es → Each (λ e. has m e.1 e.2 ≡ true) es
in_whole m [] all = tt
in_whole m (e ∷ es) all = (all.0, in_whole m es all.1)
