-- What closed identifiers bring of a memory while rows of its entries change.
use Rattle.std.proofs.Common.{◌≡◌, ℕ, ◌<◌, List, Bool, true, false, ◌&&◌, not, Option, Some, None, refl, ap, sym, ◌∙◌, subst, arith}
use Rattle.std.proofs.lemmas.Bool.{false≢true}
use Rattle.id_memory.specs.Pairs.{Pairs, RiseFrom}
use Rattle.op_law.specs.Identifiers.{has_id}
use Rattle.op_law.specs.Sound.{PairsSound}
use Rattle.op_law.proofs.OnlyLaws.{by_test}
use Rattle.row_changes.specs.Changed.{TableChanges}
use Rattle.row_changes.specs.Touched.{touched}
use Rattle.operator_changes.specs.Footprint.{passes}
use Rattle.pair_rows.specs.declared.half.Half.{Half}
use Rattle.pair_rows.specs.declared.half.Half.TheVariants.{First, Second}
use Rattle.pair_rows.specs.Halves.{pick_of}
use Rattle.pair_rows.specs.Stays.{stands}
use Rattle.pair_parts.specs.Parts.{memory_only}
use Rattle.cond_parts.specs.Backward.{BringsStill as BringsStillIn}
use Rattle.cond_parts.specs.Closed.{BringsRows}
use Rattle.id_closing.specs.Found.{AreAmong}
use Rattle.id_closing.specs.Closing.{IsClosing}
use Rattle.cond_closing.specs.Entries.{IsEntry}
use Rattle.cond_closing.specs.Steady.{BringsStill, ChangingMemory, IsBrought, IsStillBy, changed_entries, stays}
use Rattle.cond_closing.proofs.EntryLemmas.{Triple}
use Rattle.cond_closing.proofs.StandLaws.{entry_under, listed_passes, listed_under, stands_by, stands_in}

-- a test that fails
not_true : (b : Bool) → not b ≡ true → b ≡ false
not_true true h = absurd (false≢true h)
not_true false h = refl

-- an entry that isn't changed, where one was found
pub brings_found : (it : ChangingMemory) (q : ℕ) (half : Half) (found : Option ℕ) (ids : List ℕ) → ((g : ℕ) → found ≡ Some g → has_id ids g ≡ true) → IsStillBy half it q 0 found → BringsStill half it ids q
brings_found it q half None ids has none = λ e is own still. absurd (none e is own (omega arith) still)
brings_found it q half (Some p) ids has one = λ e is own still. record { id = p; still = one; among = has p refl }

-- the same while other lists name the same rows
pub still_same : (half : Half) (m : Pairs) (some other ids : List ℕ) (q : ℕ) → ((x : ℕ) → has_id some x ≡ has_id other x) → BringsStill half (changed_entries m some) ids q → BringsStill half (changed_entries m other) ids q
still_same half m some other ids q same brings e is own still =
    let f = brings e is own (ap not (same e.0) ∙ still) in
    let d = f.still in
    record { id = f.id; still = record { entry = d.entry; own = d.own; is = d.is; has = d.has; behind = d.behind; still = ap not (sym (same d.entry.0)) ∙ d.still }; among = f.among }

module _ (m : Pairs) (n : ℕ) (sound : PairsSound n m) (rise : RiseFrom 0 m) (near : TableChanges) (changed begin ids : List ℕ)
    (same : (q : ℕ) → has_id changed q ≡ has_id (touched near) q) (names : AreAmong (touched near) begin) (closing : IsClosing (IsBrought (changed_entries m changed)) begin ids) where
  abbrev C : ℕ → Bool
  C = has_id (touched near)

  abbrev P : ℕ → Bool
  P = passes ids n

  -- what it began with passes
  pub begun : (q : ℕ) → has_id begin q ≡ true → P q ≡ true
  begun q h = listed_passes ids n q (closing.begins q h)

  -- both rows of an entry
  pub brought_rows : BringsRows P m
  brought_rows id a b at pass =
      let under = entry_under n m (id, a, b) sound at in
      let f = (closing.closed id (listed_under ids n id under.0 pass)).rows a b at in
      (listed_passes ids n a f.0, listed_passes ids n b f.1)

  half_under : (half : Half) (e : Triple) → IsEntry m e → pick_of half e < n
  half_under First e is = (entry_under n m e sound is).1
  half_under Second e is = (entry_under n m e sound is).2

  half_brought : (half : Half) (q : ℕ) → has_id ids q ≡ true → BringsStill half (changed_entries m changed) ids q
  half_brought First q h = (closing.closed q h).first
  half_brought Second q h = (closing.closed q h).second

  -- an entry that passes and isn't changed
  pub record StillPasses (pick : Triple → ℕ) (q : ℕ) : Type 0 where
    pub entry : Triple
    pub is : IsEntry m entry
    pub has : pick entry ≡ q
    pub listed : P entry.0 ≡ true
    pub free : C entry.0 ≡ false

  module _ (pick : Triple → ℕ) (half : Half) (same_half : (e : Triple) → pick_of half e ≡ pick e) where
    -- a row that passes has one, where it has one that isn't changed
    pub still_entry : (e : Triple) → IsEntry m e → P (pick e) ≡ true → C e.0 ≡ false → StillPasses pick (pick e)
    still_entry e is pass free =
        let here = listed_under ids n (pick e) (subst (λ (x : ℕ). x < n) (same_half e) (half_under half e is)) pass in
        let test : stays (changed_entries m changed) e ≡ true = ap not (same e.0 ∙ free) in
        let f = half_brought half (pick e) here e is (same_half e) test in
        let d = f.still.entry in
        record {
          entry = d;
          is = f.still.is;
          has = sym (same_half d) ∙ f.still.has;
          listed = listed_passes ids n d.0 (subst (λ (x : ℕ). has_id ids x ≡ true) (sym f.still.own) f.among);
          free = sym (same d.0) ∙ not_true (has_id changed d.0) f.still.still;
        }

    -- so one that stands in an entry that doesn't pass stands in such a one
    pub still_stands : BringsStillIn C P pick m
    still_stands q pass out =
        let s = stands_in pick (λ e. not (P e.0)) 0 m q rise out in
        let free : C s.entry.0 ≡ false = by_test (C s.entry.0) (λ e. absurd (false≢true (sym (not_true (P s.entry.0) s.pass) ∙ begun s.entry.0 (names s.entry.0 e)))) (λ e. e) in
        let f = still_entry s.entry s.is (ap P s.has ∙ pass) free in
        let listed = f.listed in
        let not_named : not (C f.entry.0) ≡ true = ap not f.free in
        let all : (P f.entry.0 && not (C f.entry.0)) ≡ true = rw (listed, not_named) refl in
        subst (λ (x : ℕ). stands pick (memory_only (λ i. P i && not (C i)) m) x ≡ true) (f.has ∙ s.has)
        (stands_by pick (λ d. P d.0 && not (C d.0)) m f.entry f.is all)
