-- Changes that leave rows as they were, and those that don't.
use Rattle.std.proofs.Common.{◌≡◌, if◌then◌else◌, ℕ, ◌+◌, ◌≤◌, ◌==◌, ◌||◌, Bool, true, false, not, List, [], ◌∷◌, filter, Option, Some, None, refl, ap, sym, ◌∙◌, arith}
use Rattle.std.proofs.lemmas.Bool.{eq-eqb, eqb-true, false≢true, ne_eqb}
use Rattle.par_base.specs.declared.value.Value.{Value}
use Rattle.par_base.specs.inner.SameLaws.{row_equal, row_same}
use Rattle.row_store.specs.declared.change.Change.{Change}
use Rattle.row_store.specs.Rows.{Rows, RiseFrom, row_of}
use Rattle.row_store.specs.Changes.{AreOld, ChangesRise, after}
use Rattle.version_graph.specs.Edges.{is_in}
use Rattle.version_graph.specs.Sets.{In}
use Rattle.version_graph.proofs.SetLaws.{in_of_test, is_in_true}
use Rattle.version_graph.proofs.TableLaws.{in_filter, passes}
use Rattle.layout_rules.proofs.ChangeLaws.{filter_in}
use Rattle.op_law.proofs.OnlyLaws.{by_test}
use Rattle.row_changes.specs.Changed.{changed}
use Rattle.row_changes.proofs.ChangedLaws.{changed_at, changed_is}
use Rattle.write_plans.specs.Told.{TellsApart, has_change, is_change, same_cell}

-- ---- rows that are the same

cell_equal : (a b : Option (List Value)) → same_cell a b ≡ true → a ≡ b
cell_equal None None h = refl
cell_equal (Some a) (Some b) h = ap Some (row_equal a b h)
cell_equal None (Some b) h = absurd (false≢true h)
cell_equal (Some a) None h = absurd (false≢true h)

cell_same : (a : Option (List Value)) → same_cell a a ≡ true
cell_same None = refl
cell_same (Some a) = row_same a

stays : (a b : Option (List Value)) (same : Bool) → same_cell a b ≡ same → not same ≡ false → a ≡ b
stays a b true is h = cell_equal a b is
stays a b false is h = absurd (false≢true (sym h))

goes : (a b : Option (List Value)) → not (same_cell a b) ≡ true → a ≡ b → ⊥
goes a b h same = false≢true (sym (ap not (ap (same_cell a) (sym same) ∙ cell_same a)) ∙ h)

-- ---- either of two tests

neither_first : (a b : Bool) → a || b ≡ false → a ≡ false
neither_first true b h = absurd (false≢true (sym h))
neither_first false b h = refl

neither_second : (a b : Bool) → a || b ≡ false → b ≡ false
neither_second true b h = absurd (false≢true (sym h))
neither_second false b h = h

-- ---- changes

-- where none leaves another row, each identifier has what it had
unchanged_at : (rows : Rows) (cs : List Change) (q : ℕ) → AreOld rows cs → has_change cs ≡ false → after cs q (row_of rows q) ≡ row_of rows q
unchanged_at rows [] q old none = refl
unchanged_at rows (c ∷ cs) q old none =
    let new : c.new ≡ row_of rows c.id = sym (stays c.old c.new (same_cell c.old c.new) refl (neither_first (is_change c) (has_change cs) none)) ∙ old.0 in
    by_test (c.id == q)
    (λ e. ap (λ (b : Bool). if b then c.new else after cs q (row_of rows q)) e ∙ new ∙ ap (row_of rows) (eqb-true c.id q e))
    (λ e. ap (λ (b : Bool). if b then c.new else after cs q (row_of rows q)) e ∙ unchanged_at rows cs q old.1 (neither_second (is_change c) (has_change cs) none))

-- where one does, some identifier has another row
abbrev HasOther : ℕ → Rows → List Change → Type 0
HasOther n rows cs = (id : ℕ) × (n ≤ id) × (after cs id (row_of rows id) ≡ row_of rows id → ⊥)

other_at : (n : ℕ) (rows : Rows) (cs : List Change) → ChangesRise n cs → AreOld rows cs → has_change cs ≡ true → HasOther n rows cs
other_at n rows [] rise old some = absurd (false≢true some)
other_at n rows (c ∷ cs) rise old some =
    by_test (is_change c)
    (λ e. (c.id, rise.0, λ same. goes c.old c.new e (old.0 ∙ sym same ∙ ap (λ (b : Bool). if b then c.new else after cs c.id (row_of rows c.id)) (eq-eqb c.id c.id refl))))
    (λ e.
    let more = other_at (c.id + 1) rows cs rise.1 old.1 (sym (ap (λ (b : Bool). b || has_change cs) e) ∙ some) in
    let apart : (c.id == more.0) ≡ false = ne_eqb c.id more.0 (λ same. omega (arith, more.1, same)) in
    (more.0, omega (arith, rise.0, more.1), λ same. more.2 (sym (ap (λ (b : Bool). if b then c.new else after cs more.0 (row_of rows more.0)) apart) ∙ same)))

-- so one of them leaves another row exactly where the table gets other rows
pub tells_apart : (rows now : Rows) (cs : List Change) → RiseFrom 0 rows → ChangesRise 0 cs → AreOld rows cs → changed rows cs ≡ now → TellsApart rows now (has_change cs)
tells_apart rows now cs rise risen old makes =
    told (has_change cs) refl
  where
    told : (b : Bool) → has_change cs ≡ b → TellsApart rows now b
    told true e = λ same.
        let other = other_at 0 rows cs risen old e in
        other.2 (sym (changed_at rows cs other.0 rise) ∙ ap (λ (x : Rows). row_of x other.0) (makes ∙ same))
    told false e = sym makes ∙ sym (changed_is rows cs rows rise (record { rises = rise; rows = λ id. sym (unchanged_at rows cs id old e) }))

-- ---- the part of a list that passes a test

is_false : (b : Bool) → (b ≡ true → ⊥) → b ≡ false
is_false true h = absurd (h refl)
is_false false h = refl

pub listed : (test : ℕ → Bool) (n : ℕ) (ns : List ℕ) → In n ns → is_in n (filter test ns) ≡ test n
listed test n ns i =
    by_test (test n)
    (λ e. is_in_true n (filter test ns) (filter_in test n ns i e) ∙ sym e)
    (λ e. is_false (is_in n (filter test ns)) (λ h. false≢true (sym e ∙ passes test n ns (in_of_test n (filter test ns) h))) ∙ sym e)

pub unlisted : (test : ℕ → Bool) (n : ℕ) (ns : List ℕ) → (In n ns → ⊥) → is_in n (filter test ns) ≡ false
unlisted test n ns out = is_false (is_in n (filter test ns)) (λ h. out (in_filter test n ns (in_of_test n (filter test ns) h)))
