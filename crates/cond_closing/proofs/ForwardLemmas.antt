-- Identifiers that are closed under the rule, and begin with what changes of S and T bring, are closed for these.
use Rattle.std.specs.Prelude.{◌||◌}
use Rattle.std.proofs.Common.{◌≡◌, ℕ, List, [], Bool, true, false, not, ◌&&◌, filter, ◌<◌, Some, refl, ap, sym, ◌∙◌, subst}
use Rattle.std.proofs.lemmas.Bool.{false≢true}
use mathlib.Core.Logic.{inl, inr}
use Rattle.expr_lang.specs.Val.{holds_at}
use Rattle.par_base.specs.declared.value.Value.{Value}
use Rattle.row_store.specs.Rows.{Rows, row_of}
use Rattle.row_store.specs.Changes.{after}
use Rattle.id_memory.specs.Pairs.{Pairs, RiseFrom as PairsRise, pair_of}
use Rattle.op_law.specs.Identifiers.{has_id}
use Rattle.op_law.specs.Meaning.{PairState}
use Rattle.op_law.specs.Tables.{AllRise}
use Rattle.op_law.proofs.OnlyLaws.{by_test}
use Rattle.op_rows.specs.inner.Tabulated.{all_rise}
use Rattle.row_changes.specs.Changed.{TableChanges, changed_tables}
use Rattle.row_changes.specs.Touched.{touched}
use Rattle.row_changes.proofs.TouchedLaws.{each_pass}
use Rattle.operator_changes.specs.Calls.{MayChange}
use Rattle.operator_changes.specs.Footprint.{passes}
use Rattle.row_parts.specs.Places.{row_of_both as joined_row}
use Rattle.row_parts.specs.RowCells.{Cell, by_option}
use Rattle.pair_rows.specs.declared.half.Half.{Half}
use Rattle.pair_rows.specs.declared.half.Half.TheVariants.{First, Second}
use Rattle.pair_rows.specs.Halves.{first_of, pick_of, second_of}
use Rattle.pair_rows.specs.Shown.{Joining, holds_in, join_cells, matches}
use Rattle.pair_rows.specs.Sides.{table_at}
use Rattle.pair_rows.specs.Stays.{stands}
use Rattle.op_cond_join.specs.JoinOn.{join_on}
use Rattle.cond_parts.specs.Apart.{BringsStanding}
use Rattle.cond_parts.specs.Closed.{BringsRows}
use Rattle.cond_parts.proofs.FootLemmas.{untouched}
use Rattle.id_closing.specs.Closing.{IsClosing}
use Rattle.id_closing.specs.Told.{changes_at}
use Rattle.id_closing.proofs.ToldLaws.{new_or_old}
use Rattle.cond_closing.specs.Calls.{IsKnown, IsShown, MayShow}
use Rattle.cond_closing.specs.Entries.{IsEntry}
use Rattle.cond_closing.specs.Matching.{FindsMatches}
use Rattle.cond_closing.specs.Shown.{BeginsShown}
use Rattle.cond_closing.specs.Steady.{BringsStill, ChangingMemory, IsBrought, stays}
use Rattle.cond_closing.specs.declared.steady.Changing.TheVariants.{Halves}
use Rattle.cond_closing.proofs.ChangedLaws.{new_at}
use Rattle.cond_closing.proofs.EntryLemmas.{Triple}
use Rattle.cond_closing.proofs.StandLaws.{either_of, entry_under, listed_passes, listed_under, stands_by, stands_in}

-- two rows that match
pub record Matched (j : Joining) (s t : Rows) (a b : ℕ) : Type 0 where
  pub row : List Value
  pub other : List Value
  pub at : row_of s a ≡ Some row
  pub other_at : row_of t b ≡ Some other
  pub holds : holds_at j.condition (joined_row j.first j.second row other) ≡ true

pub matched : (j : Joining) (s t : Rows) (a b : ℕ) → matches j s t a b ≡ true → Matched j s t a b
matched j s t a b h =
    by_option (row_of s a)
    (λ none. absurd (false≢true (subst (λ (c : Cell). holds_in j.condition (join_cells j c (row_of t b)) ≡ true) none h)))
    (λ row at.
    let one = subst (λ (c : Cell). holds_in j.condition (join_cells j c (row_of t b)) ≡ true) at h in
    by_option (row_of t b)
    (λ none. absurd (false≢true (subst (λ (c : Cell). holds_in j.condition (join_cells j (Some row) c) ≡ true) none one)))
    (λ other other_at.
    record { row = row; other = other; at = at; other_at = other_at; holds = subst (λ (c : Cell). holds_in j.condition (join_cells j (Some row) c) ≡ true) other_at one }))

-- a memory of which rows of S and T change
abbrev pub shown_memory : Pairs → List ℕ → ChangingMemory
shown_memory m changed = record { entries = m; changed = changed; what = Halves }

module _ (j : Joining) (knows : Rows → Rows → Type 0) (near : TableChanges) (changed begin ids : List ℕ) (p : PairState) (n : ℕ)
    (tables : knows (table_at 0 p.source) (table_at 1 p.source)) (may : MayShow near p n)
    (same : (q : ℕ) → has_id changed q ≡ has_id (touched near) q)
    (begins : BeginsShown j knows p.memory near begin) (closing : IsClosing (IsBrought (shown_memory p.memory changed)) begin ids) where
  abbrev C : ℕ → Bool
  C = has_id (touched near)

  abbrev P : ℕ → Bool
  P = passes ids n

  rise : AllRise p.source
  rise = may.rise

  entries_rise : PairsRise 0 p.memory
  entries_rise = may.entries

  begun : (q : ℕ) → has_id begin q ≡ true → P q ≡ true
  begun q h = listed_passes ids n q (closing.begins q h)

  -- both rows of an entry
  rows : BringsRows P p.memory
  rows id a b at pass =
      let under = entry_under n p.memory (id, a, b) may.sound at in
      let f = (closing.closed id (listed_under ids n id under.0 pass)).rows a b at in
      (listed_passes ids n a f.0, listed_passes ids n b f.1)

  -- the entries of changed rows
  entries : (id a b : ℕ) → pair_of p.memory id ≡ Some (a, b) → (C a || C b) ≡ true → P id ≡ true
  entries id a b at h =
      begun id (elim (either_of (C a) (C b) h) [
        | inl one ↦ begins.first_entries a one (id, a, b) at refl
        | inr other ↦ begins.second_entries b other (id, a, b) at refl
      ])

  -- the rows of T that match a changed row of S
  first : (a b : ℕ) → C a ≡ true → matches j (table_at 0 (changed_tables p.source near)) (table_at 1 (changed_tables p.source near)) a b ≡ true → P b ≡ true
  first a b named match =
      by_test (C b)
      (λ e. begun b (begins.named b e))
      (λ e.
      let f = matched j (table_at 0 (changed_tables p.source near)) (table_at 1 (changed_tables p.source near)) a b match in
      let old : row_of (table_at 1 p.source) b ≡ Some f.other = sym (untouched 1 p.source near rise b e) ∙ f.other_at in
      let new : after (changes_at near 0) a (row_of (table_at 0 p.source) a) ≡ Some f.row = sym (new_at 0 p.source near a rise may.fit) ∙ f.at in
      begun b (elim (new_or_old (FindsMatches j knows First begin) (changes_at near 0) a (row_of (table_at 0 p.source) a) f.row begins.first.news new) [
        | inl finds ↦ finds (table_at 0 p.source) (table_at 1 p.source) tables b f.other old f.holds
        | inr was ↦ begins.first.others a named was.0 (table_at 0 p.source) (table_at 1 p.source) f.row tables was.1 b f.other old f.holds
      ]))

  -- the rows of S that match a changed row of T
  second : (a b : ℕ) → C b ≡ true → matches j (table_at 0 (changed_tables p.source near)) (table_at 1 (changed_tables p.source near)) a b ≡ true → P a ≡ true
  second a b named match =
      by_test (C a)
      (λ e. begun a (begins.named a e))
      (λ e.
      let f = matched j (table_at 0 (changed_tables p.source near)) (table_at 1 (changed_tables p.source near)) a b match in
      let old : row_of (table_at 0 p.source) a ≡ Some f.row = sym (untouched 0 p.source near rise a e) ∙ f.at in
      let new : after (changes_at near 1) b (row_of (table_at 1 p.source) b) ≡ Some f.other = sym (new_at 1 p.source near b rise may.fit) ∙ f.other_at in
      begun a (elim (new_or_old (FindsMatches j knows Second begin) (changes_at near 1) b (row_of (table_at 1 p.source) b) f.other begins.second.news new) [
        | inl finds ↦ finds (table_at 0 p.source) (table_at 1 p.source) tables a f.row old f.holds
        | inr was ↦ begins.second.others b named was.0 (table_at 0 p.source) (table_at 1 p.source) f.other tables was.1 a f.row old f.holds
      ]))

  -- an entry that doesn't pass has no changed row
  no_half : (e : Triple) → IsEntry p.memory e → P e.0 ≡ false → (C e.1 || C e.2) ≡ false
  no_half e is out = by_test (C e.1 || C e.2) (λ h. absurd (false≢true (sym out ∙ entries e.0 e.1 e.2 is h))) (λ h. h)

  -- the rule's test is that of what the changes name
  same_test : (e : Triple) → stays (shown_memory p.memory changed) e ≡ not (C e.1 || C e.2)
  same_test e = ap (λ (b : Bool). not (b || has_id changed e.2)) (same e.1) ∙ ap (λ (b : Bool). not (C e.1 || b)) (same e.2)

  -- for a row that stands in an entry that doesn't pass, one that passes and has no changed row
  standing : (pick : Triple → ℕ) (half : Half) → ((e : Triple) → pick_of half e ≡ pick e) → ((q : ℕ) → has_id ids q ≡ true → BringsStill half (shown_memory p.memory changed) ids q)
      → ((e : Triple) → IsEntry p.memory e → pick e < n) → BringsStanding C P pick p.memory
  standing pick half is brings under q pass out =
      let s = stands_in pick (λ e. not (P e.0)) 0 p.memory q entries_rise out in
      let free = no_half s.entry s.is (not_true (P s.entry.0) s.pass) in
      let here = listed_under ids n q (subst (λ (x : ℕ). x < n) s.has (under s.entry s.is)) pass in
      let f = brings q here s.entry s.is (is s.entry ∙ s.has) (same_test s.entry ∙ ap not free) in
      let e = f.still.entry in
      let listed : P e.0 ≡ true = listed_passes ids n e.0 (subst (λ (x : ℕ). has_id ids x ≡ true) (sym f.still.own) f.among) in
      let still : not (C e.1 || C e.2) ≡ true = sym (same_test e) ∙ f.still.still in
      let all : (P e.0 && not (C e.1 || C e.2)) ≡ true = rw (listed, still) refl in
      subst (λ (x : ℕ). stands pick (filter (λ d. P d.0 && not (C d.1 || C d.2)) p.memory) x ≡ true) (sym (is e) ∙ f.still.has)
      (stands_by pick (λ d. P d.0 && not (C d.1 || C d.2)) p.memory e f.still.is all)
    where
      not_true : (b : Bool) → not b ≡ true → b ≡ false
      not_true true h = absurd (false≢true h)
      not_true false h = refl

  -- CLOSED FOR THE CHANGES
  pub shown : IsShown j near p n ids
  shown = record {
    closed = record {
      rise = closing.rise;
      touches = each_pass near [] (has_id ids) (λ q h. closing.begins q (begins.named q h));
      brings = record { rows = rows; entries = entries; first = first; second = second };
    };
    first = standing first_of First (λ e. refl) (λ q h. (closing.closed q h).first) (λ e is. (entry_under n p.memory e may.sound is).1);
    second = standing second_of Second (λ e. refl) (λ q h. (closing.closed q h).second) (λ e is. (entry_under n p.memory e may.sound is).2);
  }

-- whatever pair has the memory
pub closes_shown : (j : Joining) (knows : Rows → Rows → Type 0) (m : Pairs) (near : TableChanges) (changed begin ids : List ℕ) → ((q : ℕ) → has_id changed q ≡ has_id (touched near) q)
    → BeginsShown j knows m near begin → IsClosing (IsBrought (shown_memory m changed)) begin ids
    → (p : PairState) (n : ℕ) → IsKnown knows m p → MayShow near p n → IsShown j near p n ids
closes_shown j knows m near changed begin ids same begins closing p n known may =
    shown j knows near changed begin ids p n known.tables may same
    (subst (λ (es : Pairs). BeginsShown j knows es near begin) (sym known.memory) begins)
    (subst (λ (es : Pairs). IsClosing (IsBrought (shown_memory es changed)) begin ids) (sym known.memory) closing)

-- where JOIN may map the changes
pub may_show : (j : Joining) (near : TableChanges) (p : PairState) (n : ℕ) → MayChange (join_on j) near p n → MayShow near p n
may_show j near p n may = record {
  rise = all_rise may.hs p.source may.may.sound.pair.source_of;
  fit = may.fit;
  entries = may.may.sound.pair.related.rises;
  sound = may.may.sound.memory;
}
