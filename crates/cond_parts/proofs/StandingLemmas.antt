-- Rows that stand in entries that are left by tests.
use Rattle.std.proofs.Common.{◌≡◌, ℕ, ◌==◌, [], ◌∷◌, ◌++◌, filter, Bool, true, false, ◌&&◌, ◌||◌, not, refl, ap, sym, ◌∙◌}
use Rattle.std.proofs.lemmas.Bool.{and_parts, not-true}
use mathlib.Core.Logic.{inl, inr}
use Rattle.id_memory.specs.Pairs.{Pairs}
use Rattle.row_parts.specs.RowCells.{by_test}
use Rattle.pair_rows.specs.Stays.{stands}
use Rattle.pair_rows.specs.inner.Lookups.{filter_append}
use Rattle.pair_parts.specs.Parts.{memory_only}
use Rattle.cond_parts.specs.Apart.{BringsStanding}
use Rattle.cond_parts.specs.Closed.{BringsEntry}
use Rattle.cond_parts.proofs.MemoryLemmas.{Each}
use Rattle.cond_parts.proofs.StayLemmas.{stands_either}

-- what stands in an entry that passes one test stands in one that passes two weaker ones
stands_twice : (T U V : ℕ × ℕ × ℕ → Bool) (pick : ℕ × ℕ × ℕ → ℕ) (es : Pairs) (q : ℕ) → Each (λ e. T e ≡ true → (U e ≡ true) × (V e ≡ true)) es → stands pick (filter T es) q ≡ true → stands pick (filter U (filter V es)) q ≡ true
stands_twice T U V pick [] q all e = e
stands_twice T U V pick (x ∷ xs) q all e =
    by_test (T x)
    (λ u.
    let both = all.0 u in
    let one = both.0 in
    let other = both.1 in
    let here : stands pick (x ∷ filter T xs) q ≡ true = rw u at e in
    rw other (rw one (by_test (pick x == q) (λ v. rw v refl) (λ v. let rest : stands pick (filter T xs) q ≡ true = rw v at here in rw v (stands_twice T U V pick xs q all.1 rest)))))
    (λ u.
    let rest : stands pick (filter T xs) q ≡ true = rw u at e in
    let ih = stands_twice T U V pick xs q all.1 rest in
    by_test (V x)
    (λ w. rw w (by_test (U x) (λ z. rw z (by_test (pick x == q) (λ v. rw v refl) (λ v. rw v ih))) (λ z. rw z ih)))
    (λ w. rw w ih))

-- what stands in the first of two lists stands in both
pub stands_append : (pick : ℕ × ℕ × ℕ → ℕ) (es fs : Pairs) (q : ℕ) → stands pick es q ≡ true → stands pick (es ++ fs) q ≡ true
stands_append pick [] fs q e = absurd (cc)
stands_append pick (x ∷ xs) fs q e =
    by_test (pick x == q) (λ v. rw v refl) (λ v. let rest : stands pick xs q ≡ true = rw v at e in rw v (stands_append pick xs fs q rest))

-- what stands in an entry that passes one test stands in one that passes a weaker one
pub stands_once : (T U : ℕ × ℕ × ℕ → Bool) (pick : ℕ × ℕ × ℕ → ℕ) (es : Pairs) (q : ℕ) → ((e : ℕ × ℕ × ℕ) → T e ≡ true → U e ≡ true) → stands pick (filter T es) q ≡ true → stands pick (filter U es) q ≡ true
stands_once T U pick [] q h e = e
stands_once T U pick (x ∷ xs) q h e =
    by_test (T x)
    (λ u.
    let other = h x u in
    let here : stands pick (x ∷ filter T xs) q ≡ true = rw u at e in
    rw other (by_test (pick x == q) (λ v. rw v refl) (λ v. let rest : stands pick (filter T xs) q ≡ true = rw v at here in rw v (stands_once T U pick xs q h rest))))
    (λ u.
    let rest : stands pick (filter T xs) q ≡ true = rw u at e in
    let ih = stands_once T U pick xs q h rest in
    by_test (U x)
    (λ w. rw w (by_test (pick x == q) (λ v. rw v refl) (λ v. rw v ih)))
    (λ w. rw w ih))

-- a row that stands in an entry whose rows aren't changed stands in one
pub old_entry : (C P : ℕ → Bool) (pick : ℕ × ℕ × ℕ → ℕ) (m : Pairs) → BringsStanding C P pick m → BringsEntry P pick m
old_entry C P pick m standing q pass e =
    elim (stands_either P pick m q e) [
      | inl one ↦ one
      | inr one ↦ stands_once (λ x. P x.0 && not (C x.1 || C x.2)) (λ x. P x.0) pick m q (λ x h. (and_parts (P x.0) (not (C x.1 || C x.2)) h).0) (standing q pass one)
    ]

-- what holds of each entry of which no row is changed, and of each that passes besides
each_standing : (C P : ℕ → Bool) (test : ℕ × ℕ × ℕ → Bool) (es : Pairs) → Each (λ e. (C e.1 || C e.2) ≡ false → test e ≡ true) es → Each (λ e. (P e.0 && not (C e.1 || C e.2)) ≡ true → (P e.0 ≡ true) × (test e ≡ true)) es
each_standing C P test [] all = tt
each_standing C P test (e ∷ es) all = (
  λ h. let parts = and_parts (P e.0) (not (C e.1 || C e.2)) h in (parts.0, all.0 (not-true (C e.1 || C e.2) parts.1)),
  each_standing C P test es all.1,
)

-- and it stands in one of a new memory that keeps these, and has further ones behind
pub new_entry : (C P : ℕ → Bool) (pick : ℕ × ℕ × ℕ → ℕ) (test : ℕ × ℕ × ℕ → Bool) (m more : Pairs) → BringsStanding C P pick m → Each (λ e. (C e.1 || C e.2) ≡ false → test e ≡ true) m
    → memory_only (λ q. not (P q)) (filter test m ++ more) ≡ memory_only (λ q. not (P q)) m → BringsEntry P pick (filter test m ++ more)
new_entry C P pick test m more standing kept rest q pass e =
    elim (stands_either P pick (filter test m ++ more) q e) [
      | inl one ↦ one
      | inr one ↦
          let old = sym (ap (λ (es : Pairs). stands pick es q) rest) ∙ one in
          let here = stands_twice (λ x. P x.0 && not (C x.1 || C x.2)) (λ x. P x.0) test pick m q (each_standing C P test m kept) (standing q pass old) in
          ap (λ (es : Pairs). stands pick es q) (filter_append (λ x. P x.0) (filter test m) more) ∙ stands_append pick (memory_only P (filter test m)) (memory_only P more) q here
    ]
