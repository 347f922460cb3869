-- Picked changes are exactly a difference.
use Rattle.std.proofs.Common.{◌≡◌, ℕ, zero, suc, ◌+◌, ◌<◌, ◌≤◌, ◌==◌, List, [], ◌∷◌, ◌++◌, Bool, true, false, Option, take, get_or, length, refl, ap, sym, ◌∙◌, subst, arith}
use Rattle.std.proofs.lemmas.Bool.{false≢true, eq-eqb, eqb-true}
use mathlib.Core.Logic.{inl, inr}
use Rattle.par_base.specs.declared.value.Value.{Value}
use Rattle.row_store.specs.declared.change.Change.{Change}
use Rattle.row_store.specs.Rows.{Rows, RiseFrom, row_of}
use Rattle.row_store.specs.Changes.{ChangesRise, IsAbove, AreOld, after}
use Rattle.row_store.proofs.UndoLaws.{ext}
use Rattle.op_rows.specs.inner.CellLemmas.{has_id, IdsRise, none_at, rise_ids}
use Rattle.op_law.proofs.OnlyLaws.{by_test}
use Rattle.row_changes.specs.Changed.{changed}
use Rattle.row_changes.specs.Differences.{AllDiffer, IsDifference}
use Rattle.op_law.specs.Tables.{Tables, AllRise}
use Rattle.op_law.specs.Identifiers.{ids_over}
use Rattle.op_rows.specs.Cells.{Cells, first_cell, other_cells}
use Rattle.row_changes.specs.Changed.{TableChanges}
use Rattle.row_changes.specs.Picked.{Lookup, Picks, PicksEach, change_between}
use Rattle.row_changes.specs.Touched.{AllPass, EachPass}
use Rattle.row_changes.proofs.ChangedLaws.{changed_at, changed_rise}
use Rattle.op_law.proofs.IdentifierLaws.{none_before}

lower : (n k : ℕ) (cs : List Change) → n ≤ k → ChangesRise k cs → ChangesRise n cs
lower n k [] h rise = tt
lower n k (c ∷ cs) h rise = (omega (arith, rise.0), rise.1)

pub picks_rise : (f g : Lookup) (n : ℕ) (ids : List ℕ) (cs : List Change) → IdsRise n ids → Picks f g ids cs → ChangesRise n cs
picks_rise f g n [] cs rise p = subst (λ (l : List Change). ChangesRise n l) (sym p) tt
picks_rise f g n (x ∷ xs) cs rise (inl p) = lower n (x + 1) cs (omega (arith, rise.0)) (picks_rise f g (x + 1) xs cs rise.1 p.1)
picks_rise f g n (x ∷ xs) cs rise (inr p) = subst (λ (l : List Change). ChangesRise n l) (sym p.1.1) (rise.0, picks_rise f g (x + 1) xs p.1.0 rise.1 p.1.2)

-- the next identifier is above those of the changes before it
abbrev above_all : ℕ → List Change → Type 0
above_all id [] = Unit {0}
above_all id (c ∷ cs) = (c.id < id) × above_all id cs

above_last : (id : ℕ) (cs : List Change) → above_all id cs → IsAbove cs id
above_last id [] h = tt
above_last id (c ∷ []) h = h.0
above_last id (c ∷ d ∷ cs) h = above_last id (d ∷ cs) h.1

least : (n : ℕ) (ids : List ℕ) (i : ℕ) → IdsRise n ids → i < length ids → n ≤ get_or ids i 0
least n [] i rise h = absurd (omega arith)
least n (x ∷ xs) zero rise h = rise.0
least n (x ∷ xs) (suc i) rise h = omega (arith, rise.0, least (x + 1) xs i rise.1 (omega arith))

picks_above : (f g : Lookup) (n : ℕ) (ids : List ℕ) (i : ℕ) (cs : List Change) → IdsRise n ids → i < length ids → Picks f g (take i ids) cs → above_all (get_or ids i 0) cs
picks_above f g n [] i cs rise h p = absurd (omega arith)
picks_above f g n (x ∷ xs) zero cs rise h p = subst (λ (l : List Change). above_all x l) (sym p) tt
picks_above f g n (x ∷ xs) (suc i) cs rise h (inl p) = picks_above f g (x + 1) xs i cs rise.1 (omega arith) p.1
picks_above f g n (x ∷ xs) (suc i) cs rise h (inr p) =
    let low = least (x + 1) xs i rise.1 (omega arith) in
    subst (λ (l : List Change). above_all (get_or xs i 0) l) (sym p.1.1) (omega (arith, low), picks_above f g (x + 1) xs i p.1.0 rise.1 (omega arith) p.1.2)

pub picks_push : (f g : Lookup) (ids : List ℕ) (i : ℕ) (cs : List Change) → IdsRise 0 ids → i < length ids → Picks f g (take i ids) cs → IsAbove cs (get_or ids i 0)
picks_push f g ids i cs rise h p = above_last (get_or ids i 0) cs (picks_above f g 0 ids i cs rise h p)

-- one identifier more, at which both are the same
pub picks_same : (f g : Lookup) (ids : List ℕ) (i : ℕ) (cs : List Change) → i < length ids → Picks f g (take i ids) cs → f (get_or ids i 0) ≡ g (get_or ids i 0) → Picks f g (take (i + 1) ids) cs
picks_same f g [] i cs h p e = absurd (omega arith)
picks_same f g (x ∷ xs) zero cs h p e = inl (e, p)
picks_same f g (x ∷ xs) (suc i) cs h (inl p) e = let k : suc i + 1 ≡ suc (i + 1) = omega arith in rw k (inl (p.0, picks_same f g xs i cs (omega arith) p.1 e))
picks_same f g (x ∷ xs) (suc i) cs h (inr p) e = let k : suc i + 1 ≡ suc (i + 1) = omega arith in rw k (inr (p.0, (p.1.0, p.1.1, picks_same f g xs i p.1.0 (omega arith) p.1.2 e)))

-- one identifier more, at which they differ
pub picks_more : (f g : Lookup) (ids : List ℕ) (i : ℕ) (cs : List Change) → i < length ids → Picks f g (take i ids) cs → (f (get_or ids i 0) ≡ g (get_or ids i 0) → ⊥) → Picks f g (take (i + 1) ids) (cs ++ change_between f g (get_or ids i 0) ∷ [])
picks_more f g [] i cs h p e = absurd (omega arith)
picks_more f g (x ∷ xs) zero cs h p e = inr (e, ([], ap (λ (l : List Change). l ++ change_between f g x ∷ []) p, refl))
picks_more f g (x ∷ xs) (suc i) cs h (inl p) e = let k : suc i + 1 ≡ suc (i + 1) = omega arith in rw k (inl (p.0, picks_more f g xs i cs (omega arith) p.1 e))
picks_more f g (x ∷ xs) (suc i) cs h (inr p) e =
    let k : suc i + 1 ≡ suc (i + 1) = omega arith in
    let one = change_between f g (get_or xs i 0) in
    rw k (inr (p.0, (p.1.0 ++ one ∷ [], ap (λ (l : List Change). l ++ one ∷ []) p.1.1, picks_more f g xs i p.1.0 (omega arith) p.1.2 e)))

-- ---- what picked changes are

pub picks_differ : (f g : Lookup) (ids : List ℕ) (cs : List Change) → Picks f g ids cs → AllDiffer cs
picks_differ f g [] cs p = subst AllDiffer (sym p) tt
picks_differ f g (x ∷ xs) cs (inl p) = picks_differ f g xs cs p.1
picks_differ f g (x ∷ xs) cs (inr p) = subst AllDiffer (sym p.1.1) (p.0, picks_differ f g xs p.1.0 p.1.2)

first_has : (x : ℕ) (xs : List ℕ) → has_id (x ∷ xs) x ≡ true
first_has x xs = let own = eq-eqb x x refl in rw own refl

later_has : (x : ℕ) (xs : List ℕ) (id : ℕ) → has_id xs id ≡ true → has_id (x ∷ xs) id ≡ true
later_has x xs id h = by_test (x == id) (λ e. rw e refl) (λ e. rw e h)

-- a table that has the same at these identifiers has their old rows
pub picks_old : (f g : Lookup) (rows : Rows) (ids : List ℕ) (cs : List Change) → ((id : ℕ) → has_id ids id ≡ true → f id ≡ row_of rows id) → Picks f g ids cs → AreOld rows cs
picks_old f g rows [] cs same p = subst (AreOld rows) (sym p) tt
picks_old f g rows (x ∷ xs) cs same (inl p) = picks_old f g rows xs cs (λ id h. same id (later_has x xs id h)) p.1
picks_old f g rows (x ∷ xs) cs same (inr p) = subst (AreOld rows) (sym p.1.1) (same x (first_has x xs), picks_old f g rows xs p.1.0 (λ id h. same id (later_has x xs id h)) p.1.2)

after_head : (x q : ℕ) (f g : Lookup) (rest : List Change) (row : Option (List Value)) → (x == q) ≡ false → after (change_between f g x ∷ rest) q row ≡ after rest q row
after_head x q f g rest row e = rw e refl

-- an identifier that isn't among these keeps what it has
pub picks_out : (f g : Lookup) (ids : List ℕ) (cs : List Change) (q : ℕ) (row : Option (List Value)) → Picks f g ids cs → has_id ids q ≡ false → after cs q row ≡ row
picks_out f g [] cs q row p h = ap (λ (l : List Change). after l q row) p
picks_out f g (x ∷ xs) cs q row p h =
    by_test (x == q)
    (λ e. let yes : has_id (x ∷ xs) q ≡ true = rw e refl in absurd (false≢true (sym h ∙ yes)))
    (λ e.
    let rest : has_id xs q ≡ false = rw e at h in
    elim p [
      | inl same ↦ picks_out f g xs cs q row same.1 rest
      | inr more ↦ ap (λ (l : List Change). after l q row) more.1.1 ∙ after_head x q f g more.1.0 row e ∙ picks_out f g xs more.1.0 q row more.1.2 rest
    ])

here_is : (x q : ℕ) (f g : Lookup) (rest : List Change) (row : Option (List Value)) → (x == q) ≡ true → after (change_between f g x ∷ rest) q row ≡ g q
here_is x q f g rest row e = rw e (ap g (eqb-true x q e))

not_later : (x : ℕ) (xs : List ℕ) (q : ℕ) → IdsRise (x + 1) xs → (x == q) ≡ true → has_id xs q ≡ false
not_later x xs q rise e = none_before (x + 1) xs q rise (omega (arith, eqb-true x q e))

-- an identifier that is among these gets what it is to have
pub picks_in : (f g : Lookup) (n : ℕ) (ids : List ℕ) (cs : List Change) (q : ℕ) → IdsRise n ids → Picks f g ids cs → has_id ids q ≡ true → after cs q (f q) ≡ g q
picks_in f g n [] cs q rise p h = absurd (false≢true h)
picks_in f g n (x ∷ xs) cs q rise p h =
    by_test (x == q)
    (λ e. elim p [
      | inl same ↦ picks_out f g xs cs q (f q) same.1 (not_later x xs q rise.1 e) ∙ sym (ap f (eqb-true x q e)) ∙ same.0 ∙ ap g (eqb-true x q e)
      | inr more ↦ ap (λ (l : List Change). after l q (f q)) more.1.1 ∙ here_is x q f g more.1.0 (f q) e
    ])
    (λ e.
    let rest : has_id xs q ≡ true = rw e at h in
    elim p [
      | inl same ↦ picks_in f g (x + 1) xs cs q rise.1 same.1 rest
      | inr more ↦ ap (λ (l : List Change). after l q (f q)) more.1.1 ∙ after_head x q f g more.1.0 (f q) e ∙ picks_in f g (x + 1) xs more.1.0 q rise.1 more.1.2 rest
    ])

-- PICKED CHANGES ARE THE DIFFERENCE, where both look-ups are those of tables at these identifiers, and the tables are the same elsewhere
pub picks_difference : (f g : Lookup) (before now : Rows) (ids : List ℕ) (cs : List Change) → RiseFrom 0 before → RiseFrom 0 now → IdsRise 0 ids
    → ((id : ℕ) → has_id ids id ≡ true → f id ≡ row_of before id) → ((id : ℕ) → has_id ids id ≡ true → g id ≡ row_of now id)
    → ((id : ℕ) → has_id ids id ≡ false → row_of now id ≡ row_of before id)
    → Picks f g ids cs → IsDifference before now cs
picks_difference f g before now ids cs rise_b rise_n rise old new others p = record {
  rise = picks_rise f g 0 ids cs rise p;
  old = picks_old f g before ids cs old p;
  new = ext 0 (changed before cs) now (changed_rise before cs rise_b) rise_n
      (λ q. changed_at before cs q rise_b ∙ by_test (has_id ids q)
      (λ e. ap (after cs q) (sym (old q e)) ∙ picks_in f g 0 ids cs q rise p e ∙ new q e)
      (λ e. picks_out f g ids cs q (row_of before q) p e ∙ sym (others q e)));
  differ = picks_differ f g ids cs p;
}

-- the changes are of these identifiers alone
pub picks_pass : (f g : Lookup) (P : ℕ → Bool) (ids : List ℕ) (cs : List Change) → ((id : ℕ) → has_id ids id ≡ true → P id ≡ true) → Picks f g ids cs → AllPass P cs
picks_pass f g P [] cs h p = subst (AllPass P) (sym p) tt
picks_pass f g P (x ∷ xs) cs h (inl p) = picks_pass f g P xs cs (λ id e. h id (later_has x xs id e)) p.1
picks_pass f g P (x ∷ xs) cs h (inr p) = subst (AllPass P) (sym p.1.1) (h x (first_has x xs), picks_pass f g P xs p.1.0 (λ id e. h id (later_has x xs id e)) p.1.2)

pub each_pass_of : (P : ℕ → Bool) (ids : List ℕ) (ts us : Tables) (cs : TableChanges) → ((id : ℕ) → has_id ids id ≡ true → P id ≡ true) → PicksEach ids ts us cs → EachPass P cs
each_pass_of P ids [] [] [] h p = tt
each_pass_of P ids [] [] (c ∷ cs) h p = absurd p
each_pass_of P ids [] (u ∷ us) cs h p = absurd p
each_pass_of P ids (t ∷ ts) [] cs h p = absurd p
each_pass_of P ids (t ∷ ts) (u ∷ us) [] h p = absurd p
each_pass_of P ids (t ∷ ts) (u ∷ us) (c ∷ cs) h p = (picks_pass (row_of t) (row_of u) P ids c h p.0, each_pass_of P ids ts us cs h p.1)

-- ---- of all identifiers that either table has

abbrev pub ids_both : Rows → Rows → List ℕ
ids_both before now = ids_over (before ∷ now ∷ []) []

pub both_rise : (before now : Rows) → AllRise (before ∷ now ∷ []) → IdsRise 0 (ids_both before now)
both_rise before now rise = rise_ids (before ∷ now ∷ []) [] rise tt

-- PICKED OF ALL, they are the difference
pub both_differ : (before now : Rows) (cs : List Change) → AllRise (before ∷ now ∷ []) → Picks (row_of before) (row_of now) (ids_both before now) cs → IsDifference before now cs
both_differ before now cs rise p =
    picks_difference (row_of before) (row_of now) before now (ids_both before now) cs rise.0 rise.1.0 (both_rise before now rise) (λ id h. refl) (λ id h. refl)
    (λ id h.
    let none = (none_at (before ∷ now ∷ []) [] id h).0 in
    ap (λ (cells : Cells). first_cell (other_cells cells)) none ∙ sym (ap first_cell none))
    p
