-- A crossing over which identifiers are a footprint of the changes maps them by itself, and leaves the rest.
use Rattle.std.proofs.Common.{◌≡◌, ℕ, ◌≤◌, List, [], ◌∷◌, Bool, not, map, refl, sym, ap, ◌∙◌, subst}
use Rattle.std.proofs.lemmas.Bool.{not-true}
use Rattle.row_store.specs.Rows.{Rows, RiseFrom}
use Rattle.row_store.proofs.UndoLaws.{ext}
use Rattle.version_graph.specs.Forest.{Crossing}
use Rattle.op_law.specs.Tables.{AllRise, Heading, Tables}
use Rattle.op_law.specs.Local.{only, rows_only}
use Rattle.op_law.specs.Meaning.{Meaning, PairState}
use Rattle.op_law.specs.Premises.{MayMap}
use Rattle.op_law.proofs.OnlyLaws.{by_test, same_rows}
use Rattle.op_rows.specs.inner.Tabulated.{all_rise}
use Rattle.row_changes.specs.Changed.{AreChangesOf, TableChanges, changed_tables}
use Rattle.row_changes.specs.Touched.{EachPass}
use Rattle.row_changes.proofs.ChangedLaws.{changed_rise, only_changes, other_changes}
use Rattle.operator_changes.specs.Calls.{MayChange}
use Rattle.operator_changes.specs.Footprint.{IsFootprint, passes}
use Rattle.version_model.specs.States.{State}
use Rattle.version_model.specs.Steps.{directed, pair_in}
use Rattle.write_plans.proofs.ApartLemmas.{MapsApart}

-- rows that are the same where the test passes, and where it fails
rows_same : (P : ℕ → Bool) (t u : Rows) → RiseFrom 0 t → RiseFrom 0 u → rows_only P t ≡ rows_only P u → rows_only (λ q. not (P q)) t ≡ rows_only (λ q. not (P q)) u → t ≡ u
rows_same P t u rise_t rise_u here there =
    ext 0 t u rise_t rise_u (λ q. by_test (P q) (λ e. same_rows P t u q e here) (λ e. same_rows (λ x. not (P x)) t u q (ap not e) there))

-- so are tables
tables_same : (P : ℕ → Bool) (ts us : Tables) → AllRise ts → AllRise us → only P ts ≡ only P us → only (λ q. not (P q)) ts ≡ only (λ q. not (P q)) us → ts ≡ us
tables_same P [] [] rise_t rise_u here there = refl
tables_same P [] (u ∷ us) rise_t rise_u here there = absurd (let no : ⊥ = cc in no)
tables_same P (t ∷ ts) [] rise_t rise_u here there = absurd (let no : ⊥ = cc in no)
tables_same P (t ∷ ts) (u ∷ us) rise_t rise_u here there =
    let Q : ℕ → Bool = λ q. not (P q) in
    let one : rows_only P t ≡ rows_only P u = cc in
    let two : rows_only Q t ≡ rows_only Q u = cc in
    let more : only P ts ≡ only P us = cc in
    let rest : only Q ts ≡ only Q us = cc in
    ap (λ (x : Rows). x ∷ ts) (rows_same P t u rise_t.0 rise_u.0 one two) ∙ ap (λ (x : Tables). u ∷ x) (tables_same P ts us rise_t.1 rise_u.1 more rest)

-- tables rise after changes
tables_rise : (ts : Tables) (cs : TableChanges) → AllRise ts → AllRise (changed_tables ts cs)
tables_rise [] cs rise = tt
tables_rise (t ∷ ts) [] rise = rise
tables_rise (t ∷ ts) (c ∷ cs) rise = (changed_rise t c rise.0, tables_rise ts cs rise.1)

-- what a footprint gives, by the test that it passes
footprint_maps : (m : Meaning) (P : ℕ → Bool) (near : TableChanges) (p : PairState) (n : ℕ) (ids : List ℕ) → passes ids n ≡ P → IsFootprint m near p n ids → MapsApart m P (changed_tables p.source near) p n
footprint_maps m P near p n ids same foot =
    let own : MapsApart m (passes ids n) (changed_tables p.source near) p n = record {
      far = foot.far;
      next = foot.next;
      memory = foot.memory;
      rest = foot.rest;
      memory_rest = foot.memory_rest;
    } in
    subst (λ (Q : ℕ → Bool). MapsApart m Q (changed_tables p.source near) p n) same own

module _ {O : Type 0} (meaning : O → Meaning) (heading : ℕ → Heading) (old : State) (P : ℕ → Bool) (p : Crossing O) (end : State) (near : TableChanges) (ids : List ℕ) where
  abbrev at : Meaning
  at = directed p.backward (meaning p.operator)

  -- A FOOTPRINT OF THE NEAR CHANGES, AS THEY ARE AT THE END OF THE PART
  pub footprint_carries : AllRise (map old.tables p.near) → AreChangesOf (map old.tables p.near) near → EachPass P near
      → map end.tables p.near ≡ changed_tables (only P (map old.tables p.near)) near → ((n : ℕ) → old.next ≤ n → n ≤ end.next → passes ids n ≡ P)
      → ((n : ℕ) → MayChange at near (pair_in old p) n → IsFootprint at near (pair_in old p) n ids)
      → (a : State) → MayMap at (map heading p.near) (map heading p.far) (map a.tables p.near) (pair_in old p) a.next → old.next ≤ a.next → a.next ≤ end.next
      → map end.tables p.near ≡ only P (map a.tables p.near) → only (λ q. not (P q)) (map a.tables p.near) ≡ only (λ q. not (P q)) (map old.tables p.near)
      → MapsApart at P (map a.tables p.near) (pair_in old p) a.next
  footprint_carries rise fit pass ends same foot a may more less here there =
      let Q : ℕ → Bool = λ q. not (P q) in
      let ts = map old.tables p.near in
      let us = map a.tables p.near in
      let one : only P (changed_tables ts near) ≡ only P us = only_changes P ts near rise pass ∙ sym ends ∙ here in
      let two : only Q (changed_tables ts near) ≡ only Q us = other_changes P Q ts near rise pass (λ q e. not-true (P q) e) ∙ sym there in
      let is : changed_tables ts near ≡ us = tables_same P (changed_tables ts near) us (tables_rise ts near rise) (all_rise (map heading p.near) us may.near_of) one two in
      let change : MayChange at near (pair_in old p) a.next = record {
        hs = map heading p.near;
        ht = map heading p.far;
        fit = fit;
        may = subst (λ (x : Tables). MayMap at (map heading p.near) (map heading p.far) x (pair_in old p) a.next) (sym is) may;
      } in
      subst (λ (x : Tables). MapsApart at P x (pair_in old p) a.next) is
      (footprint_maps at P near (pair_in old p) a.next ids (same a.next more less) (foot a.next change))
