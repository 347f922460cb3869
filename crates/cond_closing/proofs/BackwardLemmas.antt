-- Identifiers that are closed under the rule, and begin with what changes of R bring, are closed for these.
use Rattle.std.specs.Option.{option_map}
use Rattle.std.proofs.Common.{◌≡◌, ℕ, List, [], ◌∷◌, Bool, true, Option, Some, None, refl, ap, sym, ◌∙◌, subst}
use Rattle.par_base.specs.declared.value.Value.{Value}
use Rattle.row_store.specs.declared.change.Change.{Change}
use Rattle.row_store.specs.Rows.{Rows, RiseFrom, row_of}
use Rattle.id_memory.specs.Pairs.{Pairs, RiseFrom as PairsRise, IsOneToOne, id_of, pair_of}
use Rattle.id_memory.specs.Laws.{OtherWay}
use Rattle.op_law.specs.Identifiers.{has_id}
use Rattle.op_law.specs.Meaning.{PairState, flip}
use Rattle.op_law.specs.Tables.{AllRise}
use Rattle.op_rows.specs.inner.Tabulated.{all_rise}
use Rattle.row_changes.specs.Changed.{TableChanges, changed_tables}
use Rattle.row_changes.specs.Touched.{touched}
use Rattle.row_changes.proofs.TouchedLaws.{each_pass}
use Rattle.operator_changes.specs.Calls.{MayChange}
use Rattle.operator_changes.specs.Footprint.{passes}
use Rattle.row_parts.specs.Places.{pick as part}
use Rattle.row_parts.specs.RowCells.{Cell}
use Rattle.table_keys.specs.Keys.{keys_by}
use Rattle.table_keys.specs.declared.columns.KeyColumns.TheVariants.{All}
use Rattle.table_keys.proofs.KeyLaws.{keys_all}
use Rattle.key_index.specs.Found.{IsLeastFrom}
use Rattle.pair_rows.specs.declared.half.Half.TheVariants.{First, Second}
use Rattle.pair_rows.specs.Given.{least, or_id, own}
use Rattle.pair_rows.specs.Halves.{first_of, second_of}
use Rattle.pair_rows.specs.Shown.{Joining}
use Rattle.pair_rows.specs.Sides.{table_at}
use Rattle.pair_rows.specs.inner.TwoSides.{one_table}
use Rattle.op_cond_join.specs.Joinings.{joining}
use Rattle.op_cond_join.specs.JoinOn.{join_on}
use Rattle.cond_parts.specs.Backward.{first_found, IsClosedBackward, second_found}
use Rattle.id_closing.specs.Found.{AreAmong}
use Rattle.id_closing.specs.Closing.{IsClosing}
use Rattle.id_closing.specs.Told.{changes_at}
use Rattle.id_closing.proofs.ToldLaws.{all_then}
use Rattle.cond_closing.specs.Assigned.{found_of, AreRowKeys, BeginsAssigned, FindsAssigned, FindsBoth}
use Rattle.cond_closing.specs.Calls.{IsValued}
use Rattle.cond_closing.specs.Steady.{IsBrought, changed_entries}
use Rattle.cond_closing.specs.declared.assigned.ByValues.{ByValues}
use Rattle.cond_closing.proofs.BroughtLaws.{begun as is_begun, brought_rows, still_stands}
use Rattle.cond_closing.proofs.ChangedLaws.{new_at, named_by, old_rows, one_named}
use Rattle.cond_closing.proofs.KeyedLaws.{least_is, least_one}

module _ (places : List ℕ) (old : Cell) (half : Option ℕ) (row : List Value) (keys : Rows) where
  -- by the old half
  pub found_own : (o : Option ℕ) (id : ℕ) → o ≡ Some id → o ≡ own places old half row → (rows : Rows) (a : ℕ) → keys ≡ keys_by All rows → found_of places old half rows row ≡ Some a → Some id ≡ Some a
  found_own o id some is rows a are found =
      let mine : own places old half row ≡ Some id = sym is ∙ some in
      subst (λ (x : Option ℕ). or_id x (least rows (part places row)) ≡ Some a) mine found

  -- or the least row
  pub found_least : (o : Option ℕ) → o ≡ None → o ≡ own places old half row → RiseFrom 0 keys → (answer : Option ℕ) → IsLeastFrom keys (part places row) 0 answer
      → (rows : Rows) (a : ℕ) → keys ≡ keys_by All rows → found_of places old half rows row ≡ Some a → answer ≡ Some a
  found_least o none is rise answer least_it rows a are found =
      let mine : own places old half row ≡ None = sym is ∙ none in
      let all : keys ≡ rows = are ∙ keys_all rows in
      let one : least rows (part places row) ≡ Some a = subst (λ (x : Option ℕ). or_id x (least rows (part places row)) ≡ Some a) mine found in
      least_one keys (part places row) answer a least_it
      (subst (λ (ks : Rows). IsLeastFrom ks (part places row) 0 (Some a)) (sym all) (least_is rows (part places row) a (subst (λ (ks : Rows). RiseFrom 0 ks) all rise) one))

-- the entry of both rows
pub entry_found : OtherWay → (m : Pairs) → PairsRise 0 m → IsOneToOne m → (a b entry : ℕ) → pair_of m entry ≡ Some (a, b) → id_of m a b ≡ Some entry
entry_found other m rise one a b entry at = (other m rise one entry a b).1 at

-- all that is found is among more
module _ (it : ByValues) (some all : List ℕ) (among : AreAmong some all) where
  pub assigned_among : (c : Change) → FindsAssigned it some c → FindsAssigned it all c
  assigned_among c finds s t row known new =
      let f = finds s t row known new in
      record {
        first = λ a found. among a (f.first a found);
        second = λ b found. among b (f.second b found);
        pair = λ a b entry one other at. among entry (f.pair a b entry one other at);
      }

-- all that changes of R begin with
pub begins_more : (it : ByValues) (near : TableChanges) (some all : List ℕ) → AreAmong some all → BeginsAssigned it near some → BeginsAssigned it near all
begins_more it near some all among b = record {
  named = λ q h. among q (b.named q h);
  found = all_then (FindsAssigned it some) (FindsAssigned it all) (changes_at near 0) (assigned_among it some all among) b.found;
}

module _ (it : ByValues) (near : TableChanges) (changed begin ids : List ℕ) (p : PairState) (n : ℕ)
    (tables : AreRowKeys it (table_at 0 p.target) (table_at 1 p.target)) (memory : p.memory ≡ it.memory.now.entries) (may : MayChange (flip (join_on (joining it.join.now))) near p n)
    (same : (q : ℕ) → has_id changed q ≡ has_id (touched near) q)
    (begins : BeginsAssigned it near begin) (closing : IsClosing (IsBrought (changed_entries p.memory changed)) begin ids) where
  abbrev j : Joining
  j = joining it.join.now

  abbrev C : ℕ → Bool
  C = has_id (touched near)

  abbrev P : ℕ → Bool
  P = passes ids n

  abbrev R : Rows
  R = table_at 0 p.source

  one : table_at 0 p.source ∷ [] ≡ p.source
  one = (one_table _ may.hs p.source may.may.sound.pair.fits.target may.may.sound.pair.source_of).is

  begun : (q : ℕ) → has_id begin q ≡ true → P q ≡ true
  begun = is_begun p.memory n may.may.sound.memory may.may.sound.pair.related.rises near changed begin ids same begins.named closing

  -- the change of a row
  record Told (id : ℕ) (row : List Value) : Type 0 where
    change : Change
    own : change.id ≡ id
    old : change.old ≡ row_of R id
    finds : FindsBoth j it.memory.now.entries (table_at 0 p.target) (table_at 1 p.target) begin change row

  told : (id : ℕ) (row : List Value) → C id ≡ true → row_of (table_at 0 (changed_tables p.source near)) id ≡ Some row → Told id row
  told id row named at =
      let rise : AllRise p.source = all_rise may.hs p.source may.may.sound.pair.source_of in
      let f = named_by (FindsAssigned it begin) R (changes_at near 0) id (row_of R id) begins.found (old_rows p.source near one may.fit) (one_named p.source near one may.fit id named) in
      let new : f.change.new ≡ Some row = sym f.new ∙ sym (new_at 0 p.source near id rise may.fit) ∙ at in
      record { change = f.change; own = f.own; old = f.old; finds = f.holds (table_at 0 p.target) (table_at 1 p.target) row tables new }

  -- the row of S that is found for it
  first_is : (id : ℕ) (row : List Value) (t : Told id row) (a : ℕ) → first_found j R p.memory (table_at 0 p.target) id row ≡ Some a
      → found_of j.first t.change.old (option_map (λ pair. pair.0) (pair_of it.memory.now.entries t.change.id)) (table_at 0 p.target) row ≡ Some a
  first_is id row t a found =
      ap (λ (o : Cell). found_of j.first o (option_map (λ pair. pair.0) (pair_of it.memory.now.entries t.change.id)) (table_at 0 p.target) row) t.old
      ∙ ap (λ (k : ℕ). found_of j.first (row_of R id) (option_map (λ pair. pair.0) (pair_of it.memory.now.entries k)) (table_at 0 p.target) row) t.own
      ∙ ap (λ (m : Pairs). found_of j.first (row_of R id) (option_map (λ pair. pair.0) (pair_of m id)) (table_at 0 p.target) row) (sym memory)
      ∙ found

  second_is : (id : ℕ) (row : List Value) (t : Told id row) (b : ℕ) → second_found j R p.memory (table_at 1 p.target) id row ≡ Some b
      → found_of j.second t.change.old (option_map (λ pair. pair.1) (pair_of it.memory.now.entries t.change.id)) (table_at 1 p.target) row ≡ Some b
  second_is id row t b found =
      ap (λ (o : Cell). found_of j.second o (option_map (λ pair. pair.1) (pair_of it.memory.now.entries t.change.id)) (table_at 1 p.target) row) t.old
      ∙ ap (λ (k : ℕ). found_of j.second (row_of R id) (option_map (λ pair. pair.1) (pair_of it.memory.now.entries k)) (table_at 1 p.target) row) t.own
      ∙ ap (λ (m : Pairs). found_of j.second (row_of R id) (option_map (λ pair. pair.1) (pair_of m id)) (table_at 1 p.target) row) (sym memory)
      ∙ found

  -- CLOSED FOR THE CHANGES
  pub closes : IsClosedBackward j near p n ids
  closes = record {
    rise = closing.rise;
    touches = each_pass near [] (has_id ids) (λ q h. closing.begins q (begins.named q h));
    brings = record {
      rows = brought_rows p.memory n may.may.sound.memory may.may.sound.pair.related.rises near changed begin ids same begins.named closing;
      first_still = still_stands p.memory n may.may.sound.memory may.may.sound.pair.related.rises near changed begin ids same begins.named closing first_of First (λ e. refl);
      second_still = still_stands p.memory n may.may.sound.memory may.may.sound.pair.related.rises near changed begin ids same begins.named closing second_of Second (λ e. refl);
      first = λ id row a named at found. let t = told id row named at in begun a (t.finds.first a (first_is id row t a found));
      second = λ id row b named at found. let t = told id row named at in begun b (t.finds.second b (second_is id row t b found));
      pairs = λ id row a b entry named at one_found other_found is.
          let t = told id row named at in
          begun entry (t.finds.pair a b entry (first_is id row t a one_found) (second_is id row t b other_found) (subst (λ (m : Pairs). pair_of m entry ≡ Some (a, b)) memory is));
    };
  }

-- whatever pair has the memory
pub closes_assigned : (it : ByValues) (near : TableChanges) (changed begin ids : List ℕ) → ((q : ℕ) → has_id changed q ≡ has_id (touched near) q)
    → BeginsAssigned it near begin → IsClosing (IsBrought (changed_entries it.memory.now.entries changed)) begin ids
    → (p : PairState) (n : ℕ) → IsValued it p → MayChange (flip (join_on (joining it.join.now))) near p n → IsClosedBackward (joining it.join.now) near p n ids
closes_assigned it near changed begin ids same begins closing p n known may =
    closes it near changed begin ids p n known.tables known.memory may same begins
    (subst (λ (es : Pairs). IsClosing (IsBrought (changed_entries es changed)) begin ids) (sym known.memory) closing)
