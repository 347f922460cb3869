-- Identifiers of a footprint with those that were drawn.
use Rattle.std.specs.Prelude.{nat_lt, ◌||◌, ◌&&◌, ◌-◌}
use Rattle.std.proofs.Common.{◌≡◌, ℕ, zero, suc, ◌+◌, ◌<◌, ◌≤◌, ◌==◌, List, [], ◌∷◌, ◌++◌, Bool, true, false, not, length, take, get_or, refl, ap, sym, ◌∙◌, arith}
use Rattle.std.proofs.lemmas.Bool.{cases_lt, false≢true, eqb-true, or_cases, and_right, and_parts, or_right}
use Rattle.std.proofs.Math.Path.{fun_ext}
use Rattle.std.proofs.lemmas.Bool.Decides.{nat_tests}
use mathlib.Core.Logic.{inl, inr}
use Rattle.row_store.specs.Rows.{Rows}
use Rattle.op_law.specs.Local.{only, rows_only}
use Rattle.op_law.specs.Sound.{RowsSound, TablesSound}
use Rattle.op_law.specs.Tables.{Tables}
use Rattle.op_rows.specs.inner.CellLemmas.{has_id, IdsRise}
use Rattle.op_law.proofs.OnlyLaws.{by_test}
use Rattle.operator_changes.specs.Footprint.{drawn_from, ids_under, passes, with_drawn}

drawn_rise : (k n c : ℕ) → k ≤ n → IdsRise k (drawn_from c n)
drawn_rise k n zero h = tt
drawn_rise k n (suc c) h = (h, drawn_rise (n + 1) (n + 1) c (omega arith))

ids_weaker : (k j : ℕ) (ids : List ℕ) → k ≤ j → IdsRise j ids → IdsRise k ids
ids_weaker k j [] h rise = tt
ids_weaker k j (x ∷ xs) h rise = (omega (arith, rise.0), rise.1)

pub with_rise : (k n c : ℕ) (ids : List ℕ) → k ≤ n → IdsRise k ids → IdsRise k (ids_under n ids ++ drawn_from c n)
with_rise k n c [] h rise = drawn_rise k n c h
with_rise k n c (x ∷ xs) h rise =
    elim (cases_lt x n) [
      | inl less ↦
          let yes : nat_lt x n ≡ true = grind (arith, nat_tests) in
          rw yes (rise.0, with_rise (x + 1) n c xs (omega arith) rise.1)
      | inr more ↦
          let no : nat_lt x n ≡ false = grind (arith, nat_tests) in
          rw no (with_rise k n c xs h (ids_weaker k (x + 1) xs (omega (arith, rise.0)) rise.1))
    ]

or_no : (a : Bool) → a ≡ (a || not true)
or_no true = refl
or_no false = refl

has_append : (xs ys : List ℕ) (q : ℕ) → has_id (xs ++ ys) q ≡ (has_id xs q || has_id ys q)
has_append [] ys q = refl
has_append (x ∷ xs) ys q = by_test (x == q) (λ e. rw e refl) (λ e. rw e (has_append xs ys q))

has_under : (n : ℕ) (ids : List ℕ) (q : ℕ) → has_id (ids_under n ids) q ≡ (has_id ids q && nat_lt q n)
has_under n [] q = refl
has_under n (x ∷ xs) q =
    let rest = has_under n xs q in
    by_test (nat_lt x n)
    (λ a. by_test (x == q)
    (λ e. let s : nat_lt q n ≡ true = sym (ap (λ (k : ℕ). nat_lt k n) (eqb-true x q e)) ∙ a in rw (a, e, s) refl)
    (λ e. rw (a, e) rest))
    (λ a. by_test (x == q)
    (λ e. let s : nat_lt q n ≡ false = sym (ap (λ (k : ℕ). nat_lt k n) (eqb-true x q e)) ∙ a in rw (a, e, s) (rest ∙ and_right (has_id xs q) (nat_lt q n) s))
    (λ e. rw (a, e) rest))

has_drawn : (n c q : ℕ) → q < n + c → has_id (drawn_from c n) q ≡ not (nat_lt q n)
has_drawn n zero q h = let yes : nat_lt q n ≡ true = grind (arith, nat_tests) in rw yes refl
has_drawn n (suc c) q h =
    by_test (n == q)
    (λ e. let no : nat_lt q n ≡ false = grind (arith, nat_tests, eqb-true n q e) in rw (e, no) refl)
    (λ e.
    let rest = has_drawn (n + 1) c q (omega arith) in
    elim (cases_lt q n) [
      | inl less ↦
          let a : nat_lt q n ≡ true = grind (arith, nat_tests) in
          let b : nat_lt q (n + 1) ≡ true = grind (arith, nat_tests) in
          rw (e, a) (rest ∙ ap not b)
      | inr more ↦
          let apart : (n ≡ q) → ⊥ = λ s. let own : (n == q) ≡ true = grind (arith, nat_tests) in absurd (cc) in
          let a : nat_lt q n ≡ false = grind (arith, nat_tests) in
          let b : nat_lt q (n + 1) ≡ false = grind (arith, nat_tests, apart) in
          rw (e, a) (rest ∙ ap not b)
    ])

either : (a b : Bool) → ((a && b) || not b) ≡ (a || not b)
either true true = refl
either true false = refl
either false true = refl
either false false = refl

-- below the next identifier, these are the ones that pass
pub with_has : (ids : List ℕ) (n next q : ℕ) → n ≤ next → q < next → has_id (with_drawn ids n next) q ≡ passes ids n q
with_has ids n next q rises h =
    let c = next - n in
    let all : n + (next - n) ≡ next = omega arith in
    has_append (ids_under n ids) (drawn_from (next - n) n) q
    ∙ ap (λ (b : Bool). b || has_id (drawn_from (next - n) n) q) (has_under n ids q)
    ∙ ap (λ (b : Bool). (has_id ids q && nat_lt q n) || b) (has_drawn n (next - n) q (omega (arith, all)))
    ∙ either (has_id ids q) (nat_lt q n)

-- tables are restricted in the same way by tests that agree below the next identifier
only_row : (P Q : ℕ → Bool) (next : ℕ) (rows : Rows) → ((q : ℕ) → q < next → P q ≡ Q q) → RowsSound next rows → rows_only P rows ≡ rows_only Q rows
only_row P Q next [] same sound = refl
only_row P Q next (r ∷ rs) same sound =
    let rest = only_row P Q next rs same sound.1 in
    let here = same r.0 sound.0.0.1 in
    by_test (Q r.0)
    (λ e. let own : P r.0 ≡ true = here ∙ e in rw (own, e) (ap (λ (l : Rows). r ∷ l) rest))
    (λ e. let own : P r.0 ≡ false = here ∙ e in rw (own, e) rest)

pub only_same : (P Q : ℕ → Bool) (next : ℕ) (ts : Tables) → ((q : ℕ) → q < next → P q ≡ Q q) → TablesSound next ts → only P ts ≡ only Q ts
only_same P Q next [] same sound = refl
only_same P Q next (t ∷ ts) same sound = let a = only_row P Q next t same sound.0 in let b = only_same P Q next ts same sound.1 in cc

-- below n, those of the footprint are the ones that pass
pub under_passes : (ids : List ℕ) (n q : ℕ) → q < n → has_id ids q ≡ passes ids n q
under_passes ids n q h = let yes : nat_lt q n ≡ true = grind (arith, nat_tests) in rw yes (or_no (has_id ids q))

-- one identifier more
pub under_less : (n : ℕ) (ids : List ℕ) (i : ℕ) → i < length ids → get_or ids i 0 < n → ids_under n (take (i + 1) ids) ≡ ids_under n (take i ids) ++ get_or ids i 0 ∷ []
under_less n [] i h less = absurd (omega arith)
under_less n (x ∷ xs) zero h less = let yes : nat_lt x n ≡ true = grind (arith, nat_tests) in rw yes refl
under_less n (x ∷ xs) (suc i) h less =
    let e : suc i + 1 ≡ suc (i + 1) = omega arith in
    let rest = under_less n xs i (omega arith) less in
    rw e (by_test (nat_lt x n) (λ b. rw b (ap (λ (l : List ℕ). x ∷ l) rest)) (λ b. rw b rest))

pub under_more : (n : ℕ) (ids : List ℕ) (i : ℕ) → i < length ids → n ≤ get_or ids i 0 → ids_under n (take (i + 1) ids) ≡ ids_under n (take i ids)
under_more n [] i h more = absurd (omega arith)
under_more n (x ∷ xs) zero h more = let no : nat_lt x n ≡ false = grind (arith, nat_tests) in rw no refl
under_more n (x ∷ xs) (suc i) h more =
    let e : suc i + 1 ≡ suc (i + 1) = omega arith in
    let rest = under_more n xs i (omega arith) more in
    rw e (by_test (nat_lt x n) (λ b. rw b (ap (λ (l : List ℕ). x ∷ l) rest)) (λ b. rw b rest))

pub append_none : (xs : List ℕ) → xs ≡ xs ++ []
append_none [] = refl
append_none (x ∷ xs) = ap (λ (l : List ℕ). x ∷ l) (append_none xs)

pub no_drawn : (xs : List ℕ) (n : ℕ) → xs ≡ xs ++ drawn_from (n - n) n
no_drawn xs n = let e : n - n ≡ zero = omega arith in rw e (append_none xs)

drawn_last : (c n : ℕ) → drawn_from c n ++ (n + c) ∷ [] ≡ drawn_from (c + 1) n
drawn_last zero n = let e : n + 0 ≡ n = omega arith in rw e refl
drawn_last (suc c) n =
    let e : suc c + 1 ≡ suc (c + 1) = omega arith in
    let k : n + suc c ≡ (n + 1) + c = omega arith in
    rw (e, k) (ap (λ (l : List ℕ). n ∷ l) (drawn_last c (n + 1)))

pub append_assoc : (xs ys zs : List ℕ) → (xs ++ ys) ++ zs ≡ xs ++ (ys ++ zs)
append_assoc [] ys zs = refl
append_assoc (x ∷ xs) ys zs = ap (λ (l : List ℕ). x ∷ l) (append_assoc xs ys zs)

pub drawn_more : (xs : List ℕ) (n id : ℕ) → n ≤ id → (xs ++ drawn_from (id - n) n) ++ id ∷ [] ≡ xs ++ drawn_from ((id + 1) - n) n
drawn_more xs n id h =
    let e : (id + 1) - n ≡ (id - n) + 1 = omega arith in
    let k : id ≡ n + (id - n) = omega arith in
    append_assoc xs (drawn_from (id - n) n) (id ∷ []) ∙ ap (λ (l : List ℕ). xs ++ l) (ap (λ (j : ℕ). drawn_from (id - n) n ++ j ∷ []) k ∙ drawn_last (id - n) n ∙ ap (λ (c : ℕ). drawn_from c n) (sym e))

drawn_least : (n c q : ℕ) → has_id (drawn_from c n) q ≡ true → n ≤ q
drawn_least n zero q h = absurd (false≢true h)
drawn_least n (suc c) q h =
    by_test (n == q)
    (λ e. omega (arith, eqb-true n q e))
    (λ e. let rest : has_id (drawn_from c (n + 1)) q ≡ true = rw e at h in omega (arith, drawn_least (n + 1) c q rest))

-- these are of the footprint, or drawn
pub with_passes : (ids : List ℕ) (n next q : ℕ) → has_id (with_drawn ids n next) q ≡ true → passes ids n q ≡ true
with_passes ids n next q h =
    elim (or_cases (has_id (ids_under n ids) q) (has_id (drawn_from (next - n) n) q) (sym (has_append (ids_under n ids) (drawn_from (next - n) n) q) ∙ h)) [
      | inl under ↦ let own : has_id ids q ≡ true = (and_parts (has_id ids q) (nat_lt q n) (sym (has_under n ids q) ∙ under)).0 in rw own refl
      | inr drawn ↦
          let low = drawn_least n (next - n) q drawn in
          let no : nat_lt q n ≡ false = grind (arith, nat_tests) in
          or_right (has_id ids q) (not (nat_lt q n)) (ap not no)
    ]

or_yes : (a : Bool) → (a || not false) ≡ true
or_yes true = refl
or_yes false = refl

-- what isn't drawn passes
pub over_passes : (ids : List ℕ) (n q : ℕ) → n ≤ q → passes ids n q ≡ true
over_passes ids n q h = let no : nat_lt q n ≡ false = grind (arith, nat_tests) in rw no (or_yes (has_id ids q))

-- with those that were drawn, they pass the same test, whatever was drawn of them
pub passes_with : (ids : List ℕ) (n next k : ℕ) → n ≤ k → k ≤ next → passes (with_drawn ids n next) k ≡ passes ids n
passes_with ids n next k low high =
    fun_ext (λ q.
    elim (cases_lt q k) as (λ _. passes (with_drawn ids n next) k q ≡ passes ids n q) [
      | inl less ↦ sym (under_passes (with_drawn ids n next) k q less) ∙ with_has ids n next q (omega (arith, low, high)) (omega (arith, less, high))
      | inr more ↦ over_passes (with_drawn ids n next) k q more ∙ sym (over_passes ids n q (omega (arith, low, more)))
    ])
