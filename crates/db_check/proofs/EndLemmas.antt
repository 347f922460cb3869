-- Where both passes went through, the fields are a database.
use Rattle.std.specs.Prelude.{◌≤◌, ◌↔◌}
use Rattle.std.specs.Option.{option_map_or}
use Rattle.std.proofs.Common.{◌≡◌, ◌&&◌, ℕ, List, [], false, Bool, length, inr, refl, sym, ap, ◌∙◌, subst}
use mathlib.Core.List.{reverse}
use Rattle.row_store.specs.Rows.{RiseFrom, Rows}
use Rattle.row_store.specs.States.{TableState}
use Rattle.id_memory.specs.Pairs.{Pairs}
use Rattle.id_memory.specs.States.{MemoryState}
use Rattle.version_graph.specs.Sets.{In}
use Rattle.version_graph.specs.Edges.{Rises, is_in, numbers}
use Rattle.version_graph.specs.Forest.{Link, crossing, forest}
use Rattle.version_graph.proofs.SetLaws.{each_of}
use Rattle.version_graph.proofs.TableLaws.{same_rising}
use Rattle.version_graph.proofs.WalkStepLaws.{in_reverse}
use Rattle.std.proofs.lemmas.List.{reverse-reverse}
use Rattle.op_law.specs.Tables.{RowsWide}
use Rattle.op_law.specs.Sound.{PairsSound, RowsSound}
use Rattle.op_law.specs.Laws.{Laws}
use Rattle.op_law.specs.Meaning.{Meaning}
use Rattle.layout_rules.specs.Layouts.{IsStored}
use Rattle.std.proofs.lemmas.Bool.{and_from, and_parts}
use Rattle.layout_rules.proofs.CloseLaws.{numbers_rise}
use Rattle.version_model.specs.Kept.{pairs_at, rows_at, numbers_in}
use Rattle.version_model.specs.Sound.{IsSound}
use Rattle.version_model.specs.States.{State, headings}
use Rattle.version_model.specs.Steps.{IsRelated}
use Rattle.version_model.specs.declared.numbered.Numbered.{Numbered}
use Rattle.storage_law.proofs.CanonicalLaws.{either_way}
use Rattle.db_state.specs.Fields.{IsDatabase, state_for, storage_in}
use Rattle.storage_law.specs.Storage.{Stands}
use Rattle.db_state.specs.declared.parts.Parts.{Parts}
use Rattle.db_state.proofs.FieldLaws.{IsShaped, Store, is_database, none_at, state_is}
use Rattle.db_state.proofs.FoundLaws.{in_numbers}
use Rattle.db_check.specs.Checked.{AreEntries, IsBuilt, IsListed, IsValidParts}
use Rattle.db_check.specs.inner.Tests.{MayStand, Tells}
use Rattle.db_check.specs.inner.Calls.{AreWell, MayRead, WasUp, state_with}
use Rattle.db_check.proofs.ListLemmas.{found_has, own_value}

-- what has an entry lives
pub entry_lives : {O : Type 0} (p : Parts O) (ns : List ℕ) → ns ≡ reverse (numbers p.graph.edges) → (n : ℕ) → In n ns → In n (numbers p.graph.edges)
entry_lives p ns is n i = subst (λ (l : List ℕ). In n l) (reverse-reverse (numbers p.graph.edges)) (in_reverse n (reverse (numbers p.graph.edges)) (subst (λ (l : List ℕ). In n l) is i))

module _ {O : Type 0} (meaning : O → Meaning) (p : Parts O) (built : IsBuilt meaning p) (listed : IsListed p) where
  pub shaped : IsShaped p
  shaped = record {
    graph = built.graph;
    finished = built.finished;
    sides = built.sides;
    valid = listed.valid;
    ascending = listed.ascending;
    tables_ascending = listed.entries.tables_ascending;
    auxes = listed.entries.auxes;
    memories = listed.entries.memories;
  }

-- THE END: both passes went through
pub is_one : {O : Type 0} (meaning : O → Meaning) → ((o : O) → Laws (meaning o)) → (p : Parts O) → MayRead meaning p → (rows : ℕ → Rows) → {n : ℕ} → 1 ≤ n → n ≡ p.ids.next → WasUp meaning p (forest p.graph.edges) rows → IsDatabase meaning p
is_one {O} meaning laws p may rows from is was =
    let s = state_with p rows in
    let entries = may.listed.entries in
    let sound : IsSound meaning p.graph.edges s = record {
      related = each_of (λ (e : Link O). IsRelated meaning (headings p.graph.edges) s (crossing false e)) (forest p.graph.edges) (λ e i. either_way meaning (headings p.graph.edges) s (is_in e.number p.layout.operators) false e (was.over.over e i (inr i)).related);
      closed = may.built.closed;
      well = record { tables = was.over.well.tables; rows = was.over.well.below; memories = may.memories };
      alone = record {
        tables = was.over.alone;
        memories = λ k out. ap (λ o. option_map_or (λ x. x.entries) o []) (none_at p.memories k (λ i. out (entry_lives p (numbers_in p.memories) entries.memories k i)));
      };
      drawn = subst (λ (k : ℕ). 1 ≤ k) is from;
    } in
    let store : Store meaning p s = record {
      tables = entries.tables;
      rows = λ t st. sym (was.over.stored t st);
      auxes = entry_lives p (numbers_in p.aux) entries.auxes;
      aux = λ e i. (was.over.over e i (inr i)).aux;
      memories = entry_lives p (numbers_in p.memories) entries.memories;
      memory = λ e i. refl;
      next = refl;
    } in
    (is_database meaning laws may.built.reads p s (shaped meaning p may.built may.listed) sound store).0

-- the tables that stand in the list stand under their numbers
pub well_stored : {O : Type 0} (p : Parts O) → ((item : Numbered TableState) → In item p.stored → MayStand p.graph.edges p.ids.next item) → AreWell p (rows_at p.stored)
well_stored p each = record {
  tables = found_has (λ (x : TableState). x.rows) [] (λ t r. RiseFrom 0 r × RowsWide (length (headings p.graph.edges t).columns) r) (λ t. (tt, tt)) p.stored (λ x i. ((each x i).rise, (each x i).wide));
  below = found_has (λ (x : TableState). x.rows) [] (λ (t : ℕ) (r : Rows). RowsSound p.ids.next r) (λ t. tt) p.stored (λ x i. (each x i).below);
}

pub well_remembered : {O : Type 0} (p : Parts O) → ((item : Numbered MemoryState) → In item p.memories → PairsSound p.ids.next item.value.entries) → (n : ℕ) → PairsSound p.ids.next (pairs_at p.memories n)
well_remembered p each = found_has (λ (x : MemoryState). x.entries) [] (λ (n : ℕ) (r : Pairs). PairsSound p.ids.next r) (λ n. tt) p.memories each

-- ---- what a database has

module _ {O : Type 0} (meaning : O → Meaning) (p : Parts O) (is : IsDatabase meaning p) where
  pub database_listed : IsListed p
  database_listed = record { valid = is.valid; ascending = is.ascending; entries = record { tables = is.tables; tables_ascending = is.tables_ascending; auxes = is.auxes; memories = is.memories } }

  pub database_stands : (item : Numbered TableState) → In item p.stored → MayStand p.graph.edges p.ids.next item
  database_stands item i =
      let found = own_value 0 p.stored is.tables_ascending item i in
      let at : rows_at p.stored item.number ≡ item.value.rows = ap (λ o. option_map_or (λ x. x.rows) o []) found in
      let state = is.stands.stored item.number ((is.tables item.number).0 (in_numbers p.stored item.number item.value (sym found))) in
      let same : (state_for meaning p).tables item.number ≡ item.value.rows = sym state ∙ at in
      record {
        rise = subst (λ (r : Rows). RiseFrom 0 r) same (is.sound.well.tables item.number).0;
        wide = subst (λ (r : Rows). RowsWide (length (headings p.graph.edges item.number).columns) r) same (is.sound.well.tables item.number).1;
        below = subst (λ (r : Rows). RowsSound p.ids.next r) same (is.sound.well.rows item.number);
      }

  pub database_remembers : (item : Numbered MemoryState) → In item p.memories → PairsSound p.ids.next item.value.entries
  database_remembers item i =
      let rise : Rises 0 (numbers_in p.memories) = subst (λ (l : List ℕ). Rises 0 l) (sym is.memories) (numbers_rise p.graph.edges is.graph.edges) in
      let found = own_value 0 p.memories rise item i in
      let at : pairs_at p.memories item.number ≡ item.value.entries = ap (λ o. option_map_or (λ x. x.entries) o []) found in
      subst (λ (r : Pairs). PairsSound p.ids.next r) at (is.sound.well.memories item.number)

-- ---- entries

-- the lists have the entries where their numbers are those that were listed
pub entries_tell : {O : Type 0} (p : Parts O) (stored live : List ℕ) (a b c : Bool)
    → ((t : ℕ) → In t stored ↔ IsStored (forest p.graph.edges) p.layout.operators t) → Rises 0 stored → live ≡ reverse (numbers p.graph.edges)
    → Tells a (numbers_in p.stored ≡ stored) → Tells b (numbers_in p.aux ≡ live) → Tells c (numbers_in p.memories ≡ live) → Tells (a && (b && c)) (AreEntries p)
entries_tell p stored live a b c are rise live_is x y z = (
  (λ h.
      let one = and_parts a (b && c) h in
      let two = and_parts b c one.1 in
      let same = x.0 one.0 in
      record {
        tables = λ t. ((λ i. (are t).0 (subst (λ (l : List ℕ). In t l) same i)), (λ st. subst (λ (l : List ℕ). In t l) (sym same) ((are t).1 st)));
        tables_ascending = subst (λ (l : List ℕ). Rises 0 l) (sym same) rise;
        auxes = y.0 two.0 ∙ live_is;
        memories = z.0 two.1 ∙ live_is;
      }),
  (λ e. and_from a (b && c) (x.1 (same_rising 0 (numbers_in p.stored) stored e.tables_ascending rise (λ t i. (are t).1 ((e.tables t).0 i)) (λ t i. (e.tables t).1 ((are t).0 i))))
      (and_from b c (y.1 (e.auxes ∙ sym live_is)) (z.1 (e.memories ∙ sym live_is)))),
)

-- ---- what a database is

pub valid_is_database : {O : Type 0} (meaning : O → Meaning) → ((o : O) → Laws (meaning o)) → (p : Parts O) → IsBuilt meaning p → IsDatabase meaning p ↔ IsValidParts meaning p
valid_is_database {O} meaning laws p built = (
  (λ is. record { listed = database_listed meaning p is; state = state_for meaning p; stands = is.stands; sound = is.sound; next = refl }),
  (λ v.
      let same : state_for meaning p ≡ v.state = state_is meaning laws built.reads p v.state built.graph v.listed.valid v.sound v.stands v.next in
      record {
        reads = built.reads;
        graph = built.graph;
        finished = built.finished;
        sides = built.sides;
        valid = v.listed.valid;
        ascending = v.listed.ascending;
        tables = v.listed.entries.tables;
        tables_ascending = v.listed.entries.tables_ascending;
        auxes = v.listed.entries.auxes;
        memories = v.listed.entries.memories;
        stands = subst (λ (x : State). Stands meaning p.graph.edges (storage_in p) x) (sym same) v.stands;
        sound = subst (λ (x : State). IsSound meaning p.graph.edges x) (sym same) v.sound;
      }),
)
