-- Identifiers that are closed under the rule, and begin with what changes of R bring, are closed for these.
use Rattle.std.proofs.Common.{◌≡◌, ℕ, ◌==◌, List, [], ◌∷◌, filter, Bool, true, false, ◌&&◌, not, Option, Some, IsSome, refl, ap, sym, ◌∙◌, subst}
use Rattle.std.proofs.lemmas.Bool.{and_from, and_parts, false≢true}
use Rattle.par_base.specs.declared.value.Value.{Value}
use Rattle.par_base.specs.SameRows.{same_row}
use Rattle.row_store.specs.declared.change.Change.{Change}
use Rattle.row_store.specs.Rows.{Rows, row_of}
use Rattle.row_store.specs.Changes.{AreOld}
use Rattle.id_memory.specs.Pairs.{Pairs, pair_of}
use Rattle.id_memory.specs.Laws.{OneMemoryHasThem}
use Rattle.op_law.specs.Identifiers.{has_id}
use Rattle.op_law.specs.Meaning.{PairState, flip}
use Rattle.op_law.specs.Tables.{AllRise}
use Rattle.op_rows.specs.inner.Tabulated.{all_rise}
use Rattle.row_changes.specs.Changed.{TableChanges, changed_tables}
use Rattle.row_changes.specs.Touched.{touched}
use Rattle.row_changes.proofs.TouchedLaws.{each_pass}
use Rattle.operator_changes.specs.Calls.{MayChange}
use Rattle.operator_changes.specs.Footprint.{passes}
use Rattle.row_parts.specs.Places.{pick as part}
use Rattle.row_parts.specs.RowCells.{Cell, by_test}
use Rattle.pair_rows.specs.declared.half.Half.{Half}
use Rattle.pair_rows.specs.declared.half.Half.TheVariants.{First, Second}
use Rattle.pair_rows.specs.Given.{kept_in, least, or_id}
use Rattle.pair_rows.specs.Halves.{first_of, pick_of, second_of}
use Rattle.pair_rows.specs.Shown.{Joining}
use Rattle.pair_rows.specs.Sides.{table_at}
use Rattle.pair_rows.specs.Stays.{stands}
use Rattle.pair_rows.specs.inner.ShownLaws.{joined_has}
use Rattle.pair_rows.specs.inner.TwoSides.{one_table}
use Rattle.pair_parts.specs.Parts.{memory_only}
use Rattle.op_cond_join.specs.Joinings.{joining}
use Rattle.outer_law.specs.Entries.{AreHalves, IsOuter, with_absent, with_half}
use Rattle.outer_law.specs.OuterOn.{outer_on}
use Rattle.outer_law.specs.Placed.{full, own_half, standing}
use Rattle.outer_parts.specs.Backward.{BringsShared, IsClosedBackward}
use Rattle.id_closing.specs.Closing.{IsClosing}
use Rattle.id_closing.specs.Told.{changes_at}
use Rattle.cond_closing.specs.Calls.{IsValued}
use Rattle.cond_closing.specs.Entries.{other_of}
use Rattle.cond_closing.specs.Assigned.{AreRowKeys}
use Rattle.cond_closing.specs.Steady.{BringsStill, IsBrought, changed_entries}
use Rattle.cond_closing.specs.declared.assigned.ByValues.{ByValues}
use Rattle.cond_closing.specs.inner.SteadyLaws.{still_more}
use Rattle.cond_closing.proofs.BroughtLaws.{begun as is_begun, brought_rows, still_entry, still_stands}
use Rattle.cond_closing.proofs.ChangedLaws.{changes_rise, named_by, new_at, old_rows, one_named}
use Rattle.cond_closing.proofs.StandLaws.{listed_passes, stands_by}
use Rattle.outer_closing.specs.Assigned.{BeginsPlaced, FindsChanged, FindsPlaced, found_half, found_row, half_at, kept_half, places_at}
use Rattle.outer_closing.specs.Shared.{is_replaced}
use Rattle.outer_closing.proofs.KeptLemmas.{kept_are}
use Rattle.outer_closing.proofs.LoneLemmas.{both_too, lone, own_entry}
use Rattle.outer_closing.proofs.ReplacedLemmas.{LeavesRow, left_row, replaced_named, row_left}
use Rattle.outer_closing.proofs.SharedLemmas.{Triple, both_there, filter_both, shared_entry}

module _ (it : ByValues) (near : TableChanges) (changed replaced begin ids : List ℕ) (p : PairState) (n : ℕ)
    (tables : AreRowKeys it (table_at 0 p.target) (table_at 1 p.target)) (memory : p.memory ≡ it.memory.now.entries) (may : MayChange (flip (outer_on (joining it.join.now))) near p n)
    (same : (q : ℕ) → has_id changed q ≡ has_id (touched near) q) (gone : (q : ℕ) → has_id replaced q ≡ is_replaced (changes_at near 0) q)
    (begins : BeginsPlaced it replaced near begin) (absent : has_id begin 0 ≡ true) (closing : IsClosing (IsBrought (changed_entries p.memory changed)) begin ids) (law : OneMemoryHasThem) where
  abbrev j : Joining
  j = joining it.join.now

  abbrev C : ℕ → Bool
  C = has_id (touched near)

  abbrev P : ℕ → Bool
  P = passes ids n

  abbrev X : ℕ → Bool
  X = λ i. not (has_id replaced i)

  abbrev S : Rows
  S = table_at 0 p.target

  abbrev T : Rows
  T = table_at 1 p.target

  abbrev R : Rows
  R = table_at 0 p.source

  abbrev New : Rows
  New = table_at 0 (changed_tables p.source near)

  one : table_at 0 p.source ∷ [] ≡ p.source
  one = (one_table _ may.hs p.source may.may.sound.pair.fits.target may.may.sound.pair.source_of).is

  is : IsOuter j S T R p.memory
  is = may.may.sound.pair.related

  tables_rise : AllRise p.source
  tables_rise = all_rise may.hs p.source may.may.sound.pair.source_of

  olds : AreOld R (changes_at near 0)
  olds = old_rows p.source near one may.fit

  begun : (q : ℕ) → has_id begin q ≡ true → P q ≡ true
  begun = is_begun p.memory n may.may.sound.memory is.joined.rises near changed begin ids same begins.named closing

  -- the kept entries
  there : (q : ℕ) → IsSome (pair_of p.memory q) → IsSome (row_of R q)
  there q some = subst (λ (rows : Rows). IsSome (row_of rows q)) (sym is.joined.rows) (joined_has j (with_absent j.first S) (with_absent j.second T) p.memory q is.joined.there some)

  left : (q : ℕ) (old : List Value) → has_id replaced q ≡ false → row_of R q ≡ Some old → LeavesRow old (row_of New q)
  left q old free was = subst (λ (c : Cell). LeavesRow old c) (sym (new_at 0 p.source near q tables_rise may.fit)) (row_left R (changes_at near 0) q old olds (sym (gone q) ∙ free) was)

  stays : (q : ℕ) (old row : List Value) → row_of R q ≡ Some old → row_of New q ≡ Some row → same_row old row ≡ true → has_id replaced q ≡ false
  stays q old row was at alike = gone q ∙ left_row R 0 (changes_at near 0) q old row (changes_rise p.source near may.fit) olds was (sym (new_at 0 p.source near q tables_rise may.fit) ∙ at) alike

  kept : kept_in R p.memory New ≡ memory_only X p.memory
  kept = kept_are R p.memory New replaced is.joined.rises (one_table _ may.hs (changed_tables p.source near) may.may.sound.pair.fits.target may.may.near_of).rise there left stays law

  -- a row that passes and may be shared may be in the part
  module _ (pick other : Triple → ℕ) (half : Half) (same_half : (e : Triple) → pick_of half e ≡ pick e) (same_other : (e : Triple) → other_of half e ≡ other e) (rows : Rows) (halves : AreHalves pick other rows p.memory) where
    stands_in_part : (d : Triple) → pair_of p.memory d.0 ≡ Some (d.1, d.2) → X d.0 ≡ true → P d.0 ≡ true → both_there d ≡ true → stands pick (full (memory_only P (memory_only X p.memory))) (pick d) ≡ true
    stands_in_part d at still listed both =
        let test : Triple → Bool = λ e. X e.0 && (P e.0 && both_there e) in
        let part : full (memory_only P (memory_only X p.memory)) ≡ filter test p.memory = filter_both both_there (λ e. P e.0) (memory_only X p.memory) ∙ filter_both (λ e. P e.0 && both_there e) (λ e. X e.0) p.memory in
        subst (λ (es : Pairs). stands pick es (pick d) ≡ true) (sym part) (stands_by pick test p.memory d at (and_from (X d.0) (P d.0 && both_there d) still (and_from (P d.0) (both_there d) listed both)))

    shared : BringsShared P pick (memory_only X p.memory)
    shared q low pass stand =
        let s = shared_entry pick p.memory replaced q is.joined.rises stand in
        let tests = and_parts (X s.entry.0) (both_there s.entry) s.pass in
        by_test (C s.entry.0)
        (λ named. subst (λ (x : ℕ). stands pick (full (memory_only P (memory_only X p.memory))) x ≡ true) s.has (stands_in_part s.entry s.is tests.0 (begun s.entry.0 (begins.named s.entry.0 named)) tests.1))
        (λ free.
        let f = still_entry p.memory n may.may.sound.memory is.joined.rises near changed begin ids same begins.named closing pick half same_half s.entry s.is (ap P s.has ∙ pass) free in
        let d = f.entry in
        let still : X d.0 ≡ true = by_test (has_id replaced d.0)
        (λ u. let bad = replaced_named near d.0 (sym (gone d.0) ∙ u) in absurd (false≢true (sym f.free ∙ bad)))
        (λ u. ap not u) in
        let both = both_too pick half same_half p.memory is.joined.rises other same_other rows halves d s.entry f.is s.is f.has tests.1 in
        subst (λ (x : ℕ). stands pick (full (memory_only P (memory_only X p.memory))) x ≡ true) (f.has ∙ s.has) (stands_in_part d f.is still f.listed both))

  -- the change of a row
  record Told (id : ℕ) (row : List Value) : Type 0 where
    change : Change
    own : change.id ≡ id
    old : change.old ≡ row_of R id
    finds : FindsPlaced j p.memory replaced S T begin change row

  told : (id : ℕ) (row : List Value) → C id ≡ true → row_of New id ≡ Some row → Told id row
  told id row named at =
      let f = named_by (FindsChanged it replaced begin) R (changes_at near 0) id (row_of R id) begins.found olds (one_named p.source near one may.fit id named) in
      let new : f.change.new ≡ Some row = sym f.new ∙ sym (new_at 0 p.source near id tables_rise may.fit) ∙ at in
      record { change = f.change; own = f.own; old = f.old; finds = subst (λ (es : Pairs). FindsPlaced j es replaced S T begin f.change row) (sym memory) (f.holds S T row tables new) }

  -- the half that it keeps
  keeps : (half : Half) (id : ℕ) (row : List Value) (t : Told id row) → kept_half half j p.memory t.change row ≡ own_half (places_at half j) (row_of R id) (half_at half (pair_of p.memory id)) row
  keeps half id row t =
      ap (λ (o : Cell). own_half (places_at half j) o (half_at half (pair_of p.memory t.change.id)) row) t.old
      ∙ ap (λ (k : ℕ). own_half (places_at half j) (row_of R id) (half_at half (pair_of p.memory k)) row) t.own

  -- the row that is found for its part
  finds_it : (half : Half) (rows : Rows) (id : ℕ) (row : List Value) (t : Told id row) → found_half half j p.memory replaced rows t.change row
      ≡ or_id (own_half (places_at half j) (row_of R id) (half_at half (pair_of p.memory id)) row) (least (standing (pick_of half) (full (kept_in R p.memory New)) rows) (part (places_at half j) row))
  finds_it half rows id row t =
      ap (λ (o : Option ℕ). found_row half p.memory replaced rows o (part (places_at half j) row)) (keeps half id row t)
      ∙ ap (λ (es : Pairs). or_id (own_half (places_at half j) (row_of R id) (half_at half (pair_of p.memory id)) row) (least (standing (pick_of half) (full es) rows) (part (places_at half j) row))) (sym kept)

  others : (half : Half) (id : ℕ) (row : List Value) (a : ℕ) (t : Told id row) → kept_half half j p.memory t.change row ≡ Some a → BringsStill half (changed_entries p.memory (t.change.id ∷ [])) begin a
  others First id row a t mine = t.finds.first.other a mine
  others Second id row a t mine = t.finds.second.other a mine

  -- a half that it keeps is in no other entry of the part where it is in no other at all
  lone_half : (half : Half) (pick : Triple → ℕ) → ((e : Triple) → pick_of half e ≡ pick e) → (id : ℕ) (row : List Value) (a : ℕ) → C id ≡ true → row_of New id ≡ Some row
      → own_half (places_at half j) (row_of R id) (half_at half (pair_of p.memory id)) row ≡ Some a → (with_half pick a (memory_only P p.memory) == 1) ≡ (with_half pick a p.memory == 1)
  lone_half half pick same_half id row a named at mine =
      let t = told id row named at in
      let brings = subst (λ (k : ℕ). BringsStill half (changed_entries p.memory (k ∷ [])) begin a) t.own (others half id row a t (keeps half id row t ∙ mine)) in
      lone pick half same_half p.memory is.joined.rises P ids id a (own_entry half (places_at half j) (row_of R id) p.memory id row a mine) (begun id (begins.named id named))
      (λ q h. listed_passes ids n q h) (still_more half (changed_entries p.memory (id ∷ [])) begin ids a closing.begins brings)

  -- CLOSED FOR THE CHANGES
  pub closes : IsClosedBackward j near p n ids
  closes = record {
    rise = closing.rise;
    touches = each_pass near [] (has_id ids) (λ q h. closing.begins q (begins.named q h));
    absent = closing.begins 0 absent;
    brings = record {
      rows = brought_rows p.memory n may.may.sound.memory is.joined.rises near changed begin ids same begins.named closing;
      first_still = λ q low pass out. still_stands p.memory n may.may.sound.memory is.joined.rises near changed begin ids same begins.named closing first_of First (λ e. refl) q pass out;
      second_still = λ q low pass out. still_stands p.memory n may.may.sound.memory is.joined.rises near changed begin ids same begins.named closing second_of Second (λ e. refl) q pass out;
      first_shared = subst (λ (es : Pairs). BringsShared P first_of es) (sym kept) (shared first_of second_of First (λ e. refl) (λ e. refl) S is.first);
      second_shared = subst (λ (es : Pairs). BringsShared P second_of es) (sym kept) (shared second_of first_of Second (λ e. refl) (λ e. refl) T is.second);
      first = λ id row a changed found. let t = told id row changed.0 changed.1 in begun a (t.finds.first.found a (finds_it First S id row t ∙ found));
      second = λ id row b changed found. let t = told id row changed.0 changed.1 in begun b (t.finds.second.found b (finds_it Second T id row t ∙ found));
      pairs = λ id row a b entry changed one_found other_found at.
          let t = told id row changed.0 changed.1 in
          begun entry (t.finds.pair a b entry (finds_it First S id row t ∙ one_found) (finds_it Second T id row t ∙ other_found) at);
      first_lone = λ id row a changed mine. lone_half First first_of (λ e. refl) id row a changed.0 changed.1 mine;
      second_lone = λ id row b changed mine. lone_half Second second_of (λ e. refl) id row b changed.0 changed.1 mine;
    };
  }

-- whatever pair has the memory
pub closes_outer : (it : ByValues) (near : TableChanges) (changed replaced begin ids : List ℕ) → ((q : ℕ) → has_id changed q ≡ has_id (touched near) q) → ((q : ℕ) → has_id replaced q ≡ is_replaced (changes_at near 0) q)
    → BeginsPlaced it replaced near begin → has_id begin 0 ≡ true → IsClosing (IsBrought (changed_entries it.memory.now.entries changed)) begin ids → OneMemoryHasThem
    → (p : PairState) (n : ℕ) → IsValued it p → MayChange (flip (outer_on (joining it.join.now))) near p n → IsClosedBackward (joining it.join.now) near p n ids
closes_outer it near changed replaced begin ids same gone begins absent closing law p n known may =
    closes it near changed replaced begin ids p n known.tables known.memory may same gone begins absent
    (subst (λ (es : Pairs). IsClosing (IsBrought (changed_entries es changed)) begin ids) (sym known.memory) closing) law
