-- The difference of two tables.
use Rattle.std.proofs.Common.{◌≡◌, if◌then◌else◌, ℕ, ◌+◌, ◌<◌, ◌≤◌, ◌==◌, nat_lt, Bool, true, false, not, cond, List, [], ◌∷◌, filter, map, Option, Some, None, refl, ap, sym, ◌∙◌, subst, arith}
use Rattle.std.proofs.lemmas.Bool.{eq-eqb, eqb-true, false≢true, ne_eqb}
use Rattle.std.proofs.lemmas.Bool.Decides.{nat_tests}
use mathlib.Core.Logic.{inl, inr}
use Rattle.par_base.specs.declared.value.Value.{Value}
use Rattle.par_base.specs.inner.SameLaws.{row_equal, row_same}
use Rattle.row_store.specs.declared.change.Change.{Change}
use Rattle.row_store.specs.Rows.{Rows, RiseFrom, row_of}
use Rattle.row_store.specs.Changes.{AreOld, ChangesRise, after}
use Rattle.row_store.proofs.UndoLaws.{ext}
use Rattle.op_law.specs.Identifiers.{ids_over}
use Rattle.op_law.proofs.OnlyLaws.{by_test}
use Rattle.row_changes.specs.Changed.{changed}
use Rattle.row_changes.specs.Differences.{AllDiffer, IsDifference}
use Rattle.row_changes.specs.Picked.{Lookup, Picks, change_between}
use Rattle.row_changes.proofs.ChangedLaws.{changed_at, changed_rise}
use Rattle.row_changes.proofs.PickLaws.{both_differ}
use Rattle.write_plans.specs.Told.{ChangesLead, is_change, same_cell}
use Rattle.version_notes.specs.Differences.{difference}

-- ---- rows that are the same

cell_equal : (a b : Option (List Value)) → same_cell a b ≡ true → a ≡ b
cell_equal None None h = refl
cell_equal (Some a) (Some b) h = ap Some (row_equal a b h)
cell_equal None (Some b) h = absurd (false≢true h)
cell_equal (Some a) None h = absurd (false≢true h)

cell_same : (a : Option (List Value)) → same_cell a a ≡ true
cell_same None = refl
cell_same (Some a) = row_same a

-- a change that leaves its row
stays : (a b : Option (List Value)) (same : Bool) → same_cell a b ≡ same → not same ≡ false → a ≡ b
stays a b true is h = cell_equal a b is
stays a b false is h = absurd (false≢true (sym h))

-- and one that doesn't
goes : (a b : Option (List Value)) → not (same_cell a b) ≡ true → a ≡ b → ⊥
goes a b h same = false≢true (sym (ap not (ap (same_cell a) (sym same) ∙ cell_same a)) ∙ h)

leaves : (c : Change) → is_change c ≡ false → c.old ≡ c.new
leaves c e = stays c.old c.new (same_cell c.old c.new) refl e

-- ---- what an identifier has after changes

first_after : (c : Change) (cs : List Change) (row : Option (List Value)) → after (c ∷ cs) c.id row ≡ c.new
first_after c cs row = ap (λ (b : Bool). if b then c.new else after cs c.id row) (eq-eqb c.id c.id refl)

later_after : (c : Change) (cs : List Change) (q : ℕ) (row : Option (List Value)) → c.id < q → after (c ∷ cs) q row ≡ after cs q row
later_after c cs q row h = ap (λ (b : Bool). if b then c.new else after cs q row) (ne_eqb c.id q (λ same. omega (arith, h, same)))

-- an identifier below the changes has what it had
below_after : (n : ℕ) (cs : List Change) (q : ℕ) (row : Option (List Value)) → ChangesRise n cs → q < n → after cs q row ≡ row
below_after n [] q row rise h = refl
below_after n (c ∷ cs) q row rise h =
    ap (λ (b : Bool). if b then c.new else after cs q row) (ne_eqb c.id q (λ same. omega (arith, h, same, rise.0)))
    ∙ below_after (c.id + 1) cs q row rise.1 (omega (arith, h, rise.0))

-- ---- there is one difference

same_change : (c d : Change) → c.id ≡ d.id → c.old ≡ d.old → c.new ≡ d.new → c ≡ d
same_change c d p q r = λ i. record { id = p i; old = q i; new = r i }

-- changes that make the same of the same rows
abbrev MakeSame : Rows → ℕ → List Change → List Change → Type 0
MakeSame rows n a b = (q : ℕ) → n ≤ q → after a q (row_of rows q) ≡ after b q (row_of rows q)

-- the first of one isn't below all of the other
not_below : (rows : Rows) (n : ℕ) (c : Change) (a b : List Change) → n ≤ c.id → ChangesRise (c.id + 1) b → c.old ≡ row_of rows c.id → (c.old ≡ c.new → ⊥) → MakeSame rows n (c ∷ a) b → ⊥
not_below rows n c a b le rise old differ same =
    differ (old ∙ sym (below_after (c.id + 1) b c.id (row_of rows c.id) rise (omega arith)) ∙ sym (same c.id le) ∙ first_after c a (row_of rows c.id))

flip_same : (rows : Rows) (n : ℕ) (a b : List Change) → MakeSame rows n a b → MakeSame rows n b a
flip_same rows n a b same q h = sym (same q h)

order : (m n : ℕ) → (m == n) ≡ false → nat_lt m n ≡ false → n < m
order m n e f = grind (arith, nat_tests, e, f)

less : (m n : ℕ) → nat_lt m n ≡ true → m < n
less m n e = grind (arith, nat_tests, e)

one_difference : (rows : Rows) (n : ℕ) (a b : List Change) → ChangesRise n a → ChangesRise n b → AreOld rows a → AreOld rows b → AllDiffer a → AllDiffer b → MakeSame rows n a b → a ≡ b
one_difference rows n [] [] ra rb oa ob da db same = refl
one_difference rows n [] (d ∷ b) ra rb oa ob da db same = absurd (not_below rows n d b [] rb.0 tt ob.0 db.0 (flip_same rows n [] (d ∷ b) same))
one_difference rows n (c ∷ a) [] ra rb oa ob da db same = absurd (not_below rows n c a [] ra.0 tt oa.0 da.0 same)
one_difference rows n (c ∷ a) (d ∷ b) ra rb oa ob da db same =
    by_test (c.id == d.id)
    (λ f.
    let e : c.id ≡ d.id = eqb-true c.id d.id f in
    let row = row_of rows c.id in
    let old : c.old ≡ d.old = oa.0 ∙ ap (row_of rows) e ∙ sym ob.0 in
    let new : c.new ≡ d.new = sym (first_after c a row) ∙ same c.id ra.0 ∙ ap (λ (q : ℕ). after (d ∷ b) q row) e ∙ first_after d b row in
    let rest : a ≡ b = one_difference rows (c.id + 1) a b ra.1 (subst (λ (k : ℕ). ChangesRise (k + 1) b) (sym e) rb.1) oa.1 ob.1 da.1 db.1
    (λ q h. sym (later_after c a q (row_of rows q) (omega (arith, h))) ∙ same q (omega (arith, h, ra.0)) ∙ later_after d b q (row_of rows q) (omega (arith, h, e))) in
    λ i. same_change c d e old new i ∷ rest i)
    (λ e. by_test (nat_lt c.id d.id)
    (λ f. absurd (not_below rows n c a (d ∷ b) ra.0 (omega (arith, less c.id d.id f), rb.1) oa.0 da.0 same))
    (λ f. absurd (not_below rows n d b (c ∷ a) rb.0 (omega (arith, order c.id d.id e f), ra.1) ob.0 db.0 (flip_same rows n (c ∷ a) (d ∷ b) same))))

pub only_difference : (before now : Rows) (a b : List Change) → RiseFrom 0 before → IsDifference before now a → IsDifference before now b → a ≡ b
only_difference before now a b rise first second =
    one_difference before 0 a b first.rise second.rise first.old second.old first.differ second.differ
    (λ q h. sym (changed_at before a q rise) ∙ ap (λ (rows : Rows). row_of rows q) (first.new ∙ sym second.new) ∙ changed_at before b q rise)

-- ---- it is the difference

pick_one : (f g : Lookup) (id : ℕ) (ids : List ℕ) (rest : List Change) (b : Bool) → is_change (change_between f g id) ≡ b → Picks f g ids rest → Picks f g (id ∷ ids) (cond b (change_between f g id ∷ rest) rest)
pick_one f g id ids rest true e picks = inr (goes (f id) (g id) e, (rest, refl, picks))
pick_one f g id ids rest false e picks = inl (leaves (change_between f g id) e, picks)

picks_filter : (f g : Lookup) (ids : List ℕ) → Picks f g ids (filter is_change (map (change_between f g) ids))
picks_filter f g [] = refl
picks_filter f g (id ∷ ids) = pick_one f g id ids (filter is_change (map (change_between f g) ids)) (is_change (change_between f g id)) refl (picks_filter f g ids)

pub is_difference : (before now : Rows) → RiseFrom 0 before → RiseFrom 0 now → IsDifference before now (difference before now)
is_difference before now rise risen = both_differ before now (difference before now) (rise, (risen, tt)) (picks_filter (row_of before) (row_of now) (ids_over (before ∷ now ∷ []) []))

none_between : (f : Lookup) (ids : List ℕ) → filter is_change (map (change_between f f) ids) ≡ []
none_between f [] = refl
none_between f (id ∷ ids) =
    ap (λ (b : Bool). cond b (change_between f f id ∷ filter is_change (map (change_between f f) ids)) (filter is_change (map (change_between f f) ids))) (ap not (cell_same (f id)))
    ∙ none_between f ids

-- a table doesn't differ from itself
pub none_differ : (rows : Rows) → difference rows rows ≡ []
none_differ rows = none_between (row_of rows) (ids_over (rows ∷ rows ∷ []) [])

-- ---- what was carried, without what leaves its row

rise_from : (m n : ℕ) (cs : List Change) → m ≤ n → ChangesRise n cs → ChangesRise m cs
rise_from m n [] le rise = tt
rise_from m n (c ∷ cs) le rise = (omega (arith, le, rise.0), rise.1)

rise_one : (n : ℕ) (c : Change) (cs : List Change) (b : Bool) → n ≤ c.id → ChangesRise (c.id + 1) cs → ChangesRise n (cond b (c ∷ cs) cs)
rise_one n c cs true le rest = (le, rest)
rise_one n c cs false le rest = rise_from n (c.id + 1) cs (omega (arith, le)) rest

filter_rise : (n : ℕ) (cs : List Change) → ChangesRise n cs → ChangesRise n (filter is_change cs)
filter_rise n [] rise = tt
filter_rise n (c ∷ cs) rise = rise_one n c (filter is_change cs) (is_change c) rise.0 (filter_rise (c.id + 1) cs rise.1)

old_one : (rows : Rows) (c : Change) (cs : List Change) (b : Bool) → c.old ≡ row_of rows c.id → AreOld rows cs → AreOld rows (cond b (c ∷ cs) cs)
old_one rows c cs true own rest = (own, rest)
old_one rows c cs false own rest = rest

filter_old : (rows : Rows) (cs : List Change) → AreOld rows cs → AreOld rows (filter is_change cs)
filter_old rows [] old = tt
filter_old rows (c ∷ cs) old = old_one rows c (filter is_change cs) (is_change c) old.0 (filter_old rows cs old.1)

differ_one : (c : Change) (cs : List Change) (b : Bool) → is_change c ≡ b → AllDiffer cs → AllDiffer (cond b (c ∷ cs) cs)
differ_one c cs true e rest = (goes c.old c.new e, rest)
differ_one c cs false e rest = rest

filter_differ : (cs : List Change) → AllDiffer (filter is_change cs)
filter_differ [] = tt
filter_differ (c ∷ cs) = differ_one c (filter is_change cs) (is_change c) refl (filter_differ cs)

after_one : (rows : Rows) (c : Change) (cs left : List Change) (q : ℕ) (b : Bool) → is_change c ≡ b → ChangesRise (c.id + 1) cs → c.old ≡ row_of rows c.id → after left q (row_of rows q) ≡ after cs q (row_of rows q) → after (cond b (c ∷ left) left) q (row_of rows q) ≡ after (c ∷ cs) q (row_of rows q)
after_one rows c cs left q true e rise old here = ap (λ (o : Option (List Value)). if c.id == q then c.new else o) here
after_one rows c cs left q false e rise old here =
    by_test (c.id == q)
    (λ is.
    let same : c.id ≡ q = eqb-true c.id q is in
    here ∙ below_after (c.id + 1) cs q (row_of rows q) rise (omega (arith, same)) ∙ ap (row_of rows) (sym same) ∙ sym old ∙ leaves c e
    ∙ sym (ap (λ (b : Bool). if b then c.new else after cs q (row_of rows q)) is))
    (λ is. here ∙ sym (ap (λ (b : Bool). if b then c.new else after cs q (row_of rows q)) is))

filter_after : (rows : Rows) (n : ℕ) (cs : List Change) (q : ℕ) → ChangesRise n cs → AreOld rows cs → after (filter is_change cs) q (row_of rows q) ≡ after cs q (row_of rows q)
filter_after rows n [] q rise old = refl
filter_after rows n (c ∷ cs) q rise old = after_one rows c cs (filter is_change cs) q (is_change c) refl rise.1 old.0 (filter_after rows (c.id + 1) cs q rise.1 old.1)

carried_difference : (before now : Rows) (cs : List Change) → RiseFrom 0 before → ChangesLead before now cs → IsDifference before now (filter is_change cs)
carried_difference before now cs rise lead = record {
  rise = filter_rise 0 cs lead.rise;
  old = filter_old before cs lead.old;
  new = ext 0 (changed before (filter is_change cs)) (changed before cs) (changed_rise before (filter is_change cs) rise) (changed_rise before cs rise)
      (λ q. changed_at before (filter is_change cs) q rise ∙ filter_after before 0 cs q lead.rise lead.old ∙ sym (changed_at before cs q rise))
      ∙ lead.new;
  differ = filter_differ cs;
}

-- the rows behind it rise
pub lead_rises : (before now : Rows) (cs : List Change) → RiseFrom 0 before → ChangesLead before now cs → RiseFrom 0 now
lead_rises before now cs rise lead = subst (RiseFrom 0) lead.new (changed_rise before cs rise)

-- WHAT WAS CARRIED, without what leaves its row, IS THE DIFFERENCE
pub carried_is : (before now : Rows) (cs : List Change) → RiseFrom 0 before → ChangesLead before now cs → filter is_change cs ≡ difference before now
carried_is before now cs rise lead =
    only_difference before now (filter is_change cs) (difference before now) rise (carried_difference before now cs rise lead) (is_difference before now rise (lead_rises before now cs rise lead))
