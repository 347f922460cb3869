-- Changes that lead back, one number after the other.
use Rattle.std.proofs.Common.{◌≡◌, ℕ, zero, suc, ◌<◌, ◌≤◌, ◌==◌, false, List, [], ◌∷◌, ◌++◌, length, drop, inl, inr, slice_index_or, slice_set, refl, ap, sym, ◌∙◌, subst, arith}
use Rattle.std.proofs.lemmas.Bool.{eq-eqb, eqb-true, ne_eqb}
use Rattle.row_store.specs.declared.change.Change.{Change}
use Rattle.row_store.specs.Rows.{Rows}
use Rattle.row_store.specs.States.{TableState}
use Rattle.version_graph.specs.Sets.{Distinct, In}
use Rattle.op_law.specs.Tables.{Tables, contents}
use Rattle.op_law.specs.declared.side.Aux.{Aux}
use Rattle.row_changes.specs.declared.change.SideChanges.{SideChanges}
use Rattle.row_changes.specs.Changed.{AreChangesOf, TableChanges}
use Rattle.op_law.proofs.OnlyLaws.{by_test}
use Rattle.version_model.specs.Kept.{rows_at, auxes_at, numbers_in}
use Rattle.version_model.specs.declared.numbered.Numbered.{Numbered}
use Rattle.kept_changes.specs.Room.{room_at, rooms_at, spares}
use Rattle.kept_changes.specs.Undo.{AuxesLeadBack, LeadsBack, LeadsBackAt, SideLeadsBack, SideLeadsBackAt, TablesLeadBack}
use Rattle.kept_changes.specs.inner.Calls.{OtherSidesStay, OthersStay}
use Rattle.kept_changes.proofs.StepLemmas.{distinct_before, each_other, each_split, last_apart}

-- ---- a list under numbers, one of whose items changes

module _ {C : Type 0} where
  -- where numbers differ, an item isn't among those behind it
  pub behind_apart : (xs : List (Numbered C)) (k : ℕ) (d : Numbered C) → k < length xs → Distinct (numbers_in xs) → In (slice_index_or xs k d).number (numbers_in (drop (suc k) xs)) → ⊥
  behind_apart [] k d h distinct i = absurd (omega arith)
  behind_apart (x ∷ xs) zero d h distinct i = distinct.0 i
  behind_apart (x ∷ xs) (suc k) d h distinct i = behind_apart xs k d (omega arith) distinct.1 i

  -- an item with the same number in its place leaves the numbers
  pub numbers_same : (xs : List (Numbered C)) (k : ℕ) (y d : Numbered C) → y.number ≡ (slice_index_or xs k d).number → numbers_in (slice_set xs k y) ≡ numbers_in xs
  numbers_same [] k y d e = refl
  numbers_same (x ∷ xs) zero y d e = ap (λ (n : ℕ). n ∷ numbers_in xs) e
  numbers_same (x ∷ xs) (suc k) y d e = ap (λ (ns : List ℕ). x.number ∷ ns) (numbers_same xs k y d e)

  -- a number that is neither the last one's nor among those before it
  pub unlisted_last : (xs : List (Numbered C)) (c : Numbered C) (n : ℕ) → (n == c.number) ≡ false → (In n (numbers_in xs) → ⊥) → In n (numbers_in (xs ++ c ∷ [])) → ⊥
  unlisted_last [] c n e out (inl same) = let t = eq-eqb n c.number same in absurd (let no : ⊥ = cc in no)
  unlisted_last [] c n e out (inr i) = i
  unlisted_last (x ∷ xs) c n e out (inl same) = out (inl same)
  unlisted_last (x ∷ xs) c n e out (inr i) = unlisted_last xs c n e (λ j. out (inr j)) i

-- ---- kept tables

pub leads_same : (before now next : Rows) (room more : ℕ) (back : List Change) → now ≡ next → room ≡ more → LeadsBack before now room back → LeadsBack before next more back
leads_same before now next room more back e f h = subst (λ (n : ℕ). LeadsBack before next n back) f (subst (λ (rows : Rows). LeadsBack before rows room back) e h)

-- the changes that come last lead back first
pub leads_more : (before now next : List (Numbered TableState)) (i : Numbered (List Change)) (back : List (Numbered (List Change))) → TablesLeadBack before now back → (In i.number (numbers_in back) → ⊥)
    → numbers_in next ≡ numbers_in now → LeadsBackAt now next i → OthersStay i.number now next → TablesLeadBack before next (i ∷ back)
leads_more before now next i back led out same leads stay = record {
  listed = same ∙ led.listed;
  distinct = (out, led.distinct);
  changes = (
    (leads.0, subst (λ (rows : Rows). LeadsBack rows (rows_at next i.number) (room_at next i.number) i.value) (led.others i.number out) leads.1),
    each_other (λ c. LeadsBackAt before now c) (λ c. LeadsBackAt before next c) i.number
        (λ c other h. (
          subst (λ (ns : List ℕ). In c.number ns) (sym same) h.0,
          leads_same (rows_at before c.number) (rows_at now c.number) (rows_at next c.number) (room_at now c.number) (room_at next c.number) c.value (sym (stay c.number other).0) (sym (stay c.number other).1) h.1,
        )) back out led.changes,
  );
  others = λ n apart. (stay n (ne_eqb n i.number (λ e. apart (inl e)))).0 ∙ led.others n (λ j. apart (inr j));
}

-- once they are taken back, those before them lead back
pub leads_less : (before now next : List (Numbered TableState)) (back : List (Numbered (List Change))) (i : Numbered (List Change)) → TablesLeadBack before now (back ++ i ∷ [])
    → numbers_in next ≡ numbers_in now → rows_at next i.number ≡ rows_at before i.number → OthersStay i.number now next → TablesLeadBack before next back
leads_less before now next back i led same restored stay =
    let out = last_apart back i led.distinct in
    record {
      listed = same ∙ led.listed;
      distinct = distinct_before back i led.distinct;
      changes =
          each_other (λ c. LeadsBackAt before now c) (λ c. LeadsBackAt before next c) i.number
          (λ c other h. (
            subst (λ (ns : List ℕ). In c.number ns) (sym same) h.0,
            leads_same (rows_at before c.number) (rows_at now c.number) (rows_at next c.number) (room_at now c.number) (room_at next c.number) c.value (sym (stay c.number other).0) (sym (stay c.number other).1) h.1,
          )) back out (each_split (λ c. LeadsBackAt before now c) back i led.changes).0;
      others = λ n apart.
          by_test (n == i.number)
          (λ e. let here = eqb-true n i.number e in ap (λ (m : ℕ). rows_at next m) here ∙ restored ∙ ap (λ (m : ℕ). rows_at before m) (sym here))
          (λ e. (stay n e).0 ∙ led.others n (unlisted_last back i n e apart));
    }

-- what leads back last
pub leads_last : (before now : List (Numbered TableState)) (back : List (Numbered (List Change))) (i : Numbered (List Change)) → TablesLeadBack before now (back ++ i ∷ []) → LeadsBackAt before now i
leads_last before now back i led = (each_split (λ c. LeadsBackAt before now c) back i led.changes).1

-- ---- the tables of a side

pub side_same : (before now next : Tables) (rooms more : List ℕ) (back : TableChanges) → now ≡ next → rooms ≡ more → SideLeadsBack before now rooms back → SideLeadsBack before next more back
side_same before now next rooms more back e f h = subst (λ (ns : List ℕ). SideLeadsBack before next ns back) f (subst (λ (ts : Tables). SideLeadsBack before ts rooms back) e h)

-- the first tables are as they were, and the changes of the others lead back
abbrev pub LeadsBackFrom : ℕ → Tables → List TableState → TableChanges → Type 0
LeadsBackFrom zero before ts cs = SideLeadsBack before (contents ts) (spares ts) cs
LeadsBackFrom (suc k) [] ts cs = ⊥
LeadsBackFrom (suc k) (b ∷ bs) [] cs = ⊥
LeadsBackFrom (suc k) (b ∷ bs) (t ∷ ts) [] = ⊥
LeadsBackFrom (suc k) (b ∷ bs) (t ∷ ts) (c ∷ cs) = (t.rows ≡ b) × LeadsBackFrom k bs ts cs

pub from_end : (ts : List TableState) (cs : TableChanges) → length cs ≤ length ts → LeadsBackFrom (length cs) (contents ts) ts cs
from_end ts [] h = refl
from_end [] (c ∷ cs) h = absurd (omega arith)
from_end (t ∷ ts) (c ∷ cs) h = (refl, from_end ts cs (omega arith))

pub from_less : (k : ℕ) (before : Tables) (ts : List TableState) (cs : TableChanges) (t d : TableState) (c : List Change) → LeadsBackFrom (suc k) before ts cs → LeadsBack (slice_index_or ts k d).rows t.rows t.spare c → LeadsBackFrom k before (slice_set ts k t) (slice_set cs k c)
from_less k [] ts cs t d c h leads = absurd h
from_less k (b ∷ bs) [] cs t d c h leads = absurd h
from_less k (b ∷ bs) (u ∷ ts) [] t d c h leads = absurd h
from_less zero (b ∷ bs) (u ∷ ts) (x ∷ cs) t d c h leads = (subst (λ (rows : Rows). LeadsBack rows t.rows t.spare c) h.0 leads, h.1)
from_less (suc k) (b ∷ bs) (u ∷ ts) (x ∷ cs) t d c h leads = (h.0, from_less k bs ts cs t d c h.1 leads)

-- the last changes lead the table at their place back
pub side_last : (before : Tables) (ts : List TableState) (cs : TableChanges) (c : List Change) (d : TableState) → SideLeadsBack before (contents ts) (spares ts) (cs ++ c ∷ [])
    → (length cs < length ts) × ((b : Rows) × LeadsBack b (slice_index_or ts (length cs) d).rows (slice_index_or ts (length cs) d).spare c)
side_last [] ts [] c d h = absurd h
side_last [] ts (x ∷ cs) c d h = absurd h
side_last (b ∷ bs) [] [] c d h = absurd h
side_last (b ∷ bs) [] (x ∷ cs) c d h = absurd h
side_last (b ∷ bs) (t ∷ ts) [] c d h = (omega arith, (b, h.0))
side_last (b ∷ bs) (t ∷ ts) (x ∷ cs) c d h = let more = side_last bs ts cs c d h.1 in (omega (arith, more.0), more.1)

-- once they are taken back, those before them lead back
pub side_less : (before : Tables) (ts : List TableState) (cs : TableChanges) (c : List Change) (t d : TableState) → SideLeadsBack before (contents ts) (spares ts) (cs ++ c ∷ [])
    → ((b : Rows) → LeadsBack b (slice_index_or ts (length cs) d).rows (slice_index_or ts (length cs) d).spare c → t.rows ≡ b)
    → SideLeadsBack before (contents (slice_set ts (length cs) t)) (spares (slice_set ts (length cs) t)) cs
side_less [] ts [] c t d h back = absurd h
side_less [] ts (x ∷ cs) c t d h back = absurd h
side_less (b ∷ bs) [] [] c t d h back = absurd h
side_less (b ∷ bs) [] (x ∷ cs) c t d h back = absurd h
side_less (b ∷ bs) (u ∷ ts) [] c t d h back = ap (λ (rows : Rows). rows ∷ contents ts) (back b h.0) ∙ ap (λ (l : Tables). b ∷ l) h.1
side_less (b ∷ bs) (u ∷ ts) (x ∷ cs) c t d h back = (h.0, side_less bs ts cs c t d h.1 back)

-- no tables lead back to none
pub side_none : (before : Tables) (rooms : List ℕ) (back : TableChanges) → SideLeadsBack before [] rooms back → [] ≡ before
side_none before rooms [] h = h
side_none [] rooms (c ∷ cs) h = absurd h
side_none (b ∷ bs) rooms (c ∷ cs) h = absurd h

-- no tables have no changes, which lead back to none
pub none_changed : (now : Tables) (rooms : List ℕ) (cs : TableChanges) → now ≡ [] → AreChangesOf now cs → SideLeadsBack now now rooms cs
none_changed now rooms [] none old = refl
none_changed [] rooms (c ∷ cs) none old = absurd old
none_changed (t ∷ ts) rooms (c ∷ cs) none old = absurd (let no : ⊥ = cc in no)

-- ---- kept auxiliary tables

pub auxes_lead_more : (before now next : List (Numbered Aux)) (i : Numbered SideChanges) (back : List (Numbered SideChanges)) → AuxesLeadBack before now back → (In i.number (numbers_in back) → ⊥)
    → numbers_in next ≡ numbers_in now → SideLeadsBackAt now next i → OtherSidesStay i.number now next → AuxesLeadBack before next (i ∷ back)
auxes_lead_more before now next i back led out same leads stay = record {
  listed = same ∙ led.listed;
  distinct = (out, led.distinct);
  changes = (
    subst (λ (ts : Tables). SideLeadsBack ts (auxes_at next i.number) (rooms_at next i.number) i.value.tables) (led.others i.number out) leads,
    each_other (λ c. SideLeadsBackAt before now c) (λ c. SideLeadsBackAt before next c) i.number
        (λ c other h. side_same (auxes_at before c.number) (auxes_at now c.number) (auxes_at next c.number) (rooms_at now c.number) (rooms_at next c.number) c.value.tables (sym (stay c.number other).0) (sym (stay c.number other).1) h) back out led.changes,
  );
  others = λ n apart. (stay n (ne_eqb n i.number (λ e. apart (inl e)))).0 ∙ led.others n (λ j. apart (inr j));
}

pub auxes_lead_less : (before now next : List (Numbered Aux)) (back : List (Numbered SideChanges)) (i : Numbered SideChanges) → AuxesLeadBack before now (back ++ i ∷ [])
    → numbers_in next ≡ numbers_in now → auxes_at next i.number ≡ auxes_at before i.number → OtherSidesStay i.number now next → AuxesLeadBack before next back
auxes_lead_less before now next back i led same restored stay =
    let out = last_apart back i led.distinct in
    record {
      listed = same ∙ led.listed;
      distinct = distinct_before back i led.distinct;
      changes =
          each_other (λ c. SideLeadsBackAt before now c) (λ c. SideLeadsBackAt before next c) i.number
          (λ c other h. side_same (auxes_at before c.number) (auxes_at now c.number) (auxes_at next c.number) (rooms_at now c.number) (rooms_at next c.number) c.value.tables (sym (stay c.number other).0) (sym (stay c.number other).1) h) back out (each_split (λ c. SideLeadsBackAt before now c) back i led.changes).0;
      others = λ n apart.
          by_test (n == i.number)
          (λ e. let here = eqb-true n i.number e in ap (λ (m : ℕ). auxes_at next m) here ∙ restored ∙ ap (λ (m : ℕ). auxes_at before m) (sym here))
          (λ e. (stay n e).0 ∙ led.others n (unlisted_last back i n e apart));
    }

pub side_leads_last : (before now : List (Numbered Aux)) (back : List (Numbered SideChanges)) (i : Numbered SideChanges) → AuxesLeadBack before now (back ++ i ∷ []) → SideLeadsBackAt before now i
side_leads_last before now back i led = (each_split (λ c. SideLeadsBackAt before now c) back i led.changes).1
