-- Rows that stand in entries that pass a test, and what closed identifiers bring of them.
use Rattle.std.specs.Prelude.{nat_lt, ◌||◌}
use Rattle.std.proofs.Common.{◌≡◌, ◌⊎◌, ℕ, ◌+◌, ◌<◌, ◌==◌, List, [], ◌∷◌, filter, Bool, true, false, not, Some, refl, ap, sym, ◌∙◌, subst, arith}
use Rattle.std.proofs.lemmas.Bool.{eqb-true, eq-eqb, false≢true}
use Rattle.std.proofs.lemmas.Bool.Decides.{nat_tests}
use mathlib.Core.Logic.{inl, inr}
use Rattle.id_memory.specs.Pairs.{Pairs, RiseFrom, pair_of}
use Rattle.op_law.specs.Identifiers.{has_id}
use Rattle.op_law.specs.Sound.{PairsSound}
use Rattle.op_law.proofs.OnlyLaws.{by_test}
use Rattle.operator_changes.specs.Footprint.{passes}
use Rattle.pair_rows.specs.Stays.{stands}
use Rattle.cond_closing.specs.Entries.{IsEntry}
use Rattle.cond_closing.proofs.EntryLemmas.{first_in, later_entry, own_entry, same_entry, second_in, Triple}

-- entries of one identifier are one
pub entry_same : (m : Pairs) (d e : Triple) → IsEntry m d → IsEntry m e → d.0 ≡ e.0 → d ≡ e
entry_same m d e is_d is_e same =
    let some : Some (d.1, d.2) ≡ Some (e.1, e.2) = sym is_d ∙ ap (λ (k : ℕ). pair_of m k) same ∙ is_e in
    let first : d.1 ≡ e.1 = ap first_in some in
    let second : d.2 ≡ e.2 = ap second_in some in
    ap (λ (k : ℕ). (k, d.1, d.2)) same ∙ ap (λ (k : ℕ). (e.0, k, d.2)) first ∙ ap (λ (k : ℕ). (e.0, e.1, k)) second

-- an entry in which q stands, that passes the test
pub record StandsIn (pick : Triple → ℕ) (test : Triple → Bool) (m : Pairs) (q : ℕ) : Type 0 where
  pub entry : Triple
  pub is : IsEntry m entry
  pub pass : test entry ≡ true
  pub has : pick entry ≡ q

module _ (pick : Triple → ℕ) (test : Triple → Bool) where
  later_stands : (e : Triple) (es : Pairs) (q : ℕ) → RiseFrom (e.0 + 1) es → StandsIn pick test es q → StandsIn pick test (e ∷ es) q
  later_stands e es q rise s = record { entry = s.entry; is = later_entry e es s.entry rise s.is; pass = s.pass; has = s.has }

  -- A ROW THAT STANDS in an entry that passes
  pub stands_in : (n : ℕ) (m : Pairs) (q : ℕ) → RiseFrom n m → stands pick (filter test m) q ≡ true → StandsIn pick test m q
  stands_in n [] q rise h = absurd (false≢true h)
  stands_in n (e ∷ es) q rise h =
      by_test (test e)
      (λ pass.
      by_test (pick e == q)
      (λ here. record { entry = e; is = own_entry e es; pass = pass; has = eqb-true (pick e) q here })
      (λ other.
      let rest : stands pick (filter test es) q ≡ true = rw other at (rw pass at h) in
      later_stands e es q rise.1 (stands_in (e.0 + 1) es q rise.1 rest)))
      (λ fail.
      let rest : stands pick (filter test es) q ≡ true = rw fail at h in
      later_stands e es q rise.1 (stands_in (e.0 + 1) es q rise.1 rest))

  -- and the other way round
  pub stands_by : (m : Pairs) (d : Triple) → IsEntry m d → test d ≡ true → stands pick (filter test m) (pick d) ≡ true
  stands_by [] d is pass = absurd (cc)
  stands_by (e ∷ es) d is pass =
      by_test (e.0 == d.0)
      (λ here.
      let same = same_entry e es d here is in
      let passes_it : test e ≡ true = ap test same ∙ pass in
      let own : (pick e == pick d) ≡ true = eq-eqb (pick e) (pick d) (ap pick same) in
      rw passes_it (rw own refl))
      (λ other.
      let rest : IsEntry es d = rw other at is in
      let stand = stands_by es d rest pass in
      by_test (test e)
      (λ yes. rw yes (by_test (pick e == pick d) (λ own. rw own refl) (λ not_own. rw not_own stand)))
      (λ no. rw no stand))

-- all of an entry is below
pub entry_under : (n : ℕ) (m : Pairs) (d : Triple) → PairsSound n m → IsEntry m d → (d.0 < n) × (d.1 < n) × (d.2 < n)
entry_under n [] d sound is = absurd (cc)
entry_under n (e ∷ es) d sound is =
    by_test (e.0 == d.0)
    (λ here. subst (λ (x : Triple). (x.0 < n) × (x.1 < n) × (x.2 < n)) (same_entry e es d here is) (sound.0.0.1, sound.0.1, sound.0.2))
    (λ other. let rest : IsEntry es d = rw other at is in entry_under n es d sound.1 rest)

-- what passes and is below is listed
pub listed_under : (ids : List ℕ) (n q : ℕ) → q < n → passes ids n q ≡ true → has_id ids q ≡ true
listed_under ids n q under pass =
    let test : nat_lt q n ≡ true = grind (arith, nat_tests) in
    or_false (has_id ids q) (nat_lt q n) test pass
  where
    or_false : (a b : Bool) → b ≡ true → (a || not b) ≡ true → a ≡ true
    or_false true b e h = refl
    or_false false true e h = absurd (false≢true h)
    or_false false false e h = absurd (false≢true e)

-- a listed one passes
pub listed_passes : (ids : List ℕ) (n q : ℕ) → has_id ids q ≡ true → passes ids n q ≡ true
listed_passes ids n q h = or_left (has_id ids q) (not (nat_lt q n)) h
  where
    or_left : (a b : Bool) → a ≡ true → (a || b) ≡ true
    or_left true b e = refl
    or_left false b e = absurd (false≢true e)

-- one of two tests
pub either_of : (a b : Bool) → (a || b) ≡ true → (a ≡ true) ⊎ (b ≡ true)
either_of true b h = inl refl
either_of false b h = inr h

-- a row that stands stands where all pass
pub all_stand : (pick : Triple → ℕ) (m : Pairs) (q : ℕ) → stands pick m q ≡ true → stands pick (filter (λ e. true) m) q ≡ true
all_stand pick [] q h = h
all_stand pick (e ∷ es) q h =
    by_test (pick e == q)
    (λ own. rw own refl)
    (λ other. let rest : stands pick es q ≡ true = rw other at h in rw other (all_stand pick es q rest))
