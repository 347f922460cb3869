-- What is found for changes is among more identifiers.
use Rattle.std.proofs.Common.{ℕ, List, [], ◌∷◌}
use Rattle.par_base.specs.declared.value.Value.{Value}
use Rattle.row_store.specs.declared.change.Change.{Change}
use Rattle.row_store.specs.Rows.{Rows}
use Rattle.id_memory.specs.Pairs.{Pairs}
use Rattle.row_changes.specs.Changed.{TableChanges}
use Rattle.pair_rows.specs.declared.half.Half.{Half}
use Rattle.pair_rows.specs.declared.half.Half.TheVariants.{First, Second}
use Rattle.pair_rows.specs.Shown.{Joining}
use Rattle.op_cond_join.specs.Joinings.{joining}
use Rattle.id_closing.specs.Found.{AreAmong}
use Rattle.id_closing.specs.Told.{changes_at}
use Rattle.id_closing.proofs.ToldLaws.{all_then}
use Rattle.cond_closing.specs.Steady.{changed_entries}
use Rattle.cond_closing.specs.declared.assigned.ByValues.{ByValues}
use Rattle.cond_closing.specs.inner.SteadyLaws.{still_more}
use Rattle.outer_closing.specs.Assigned.{BeginsPlaced, FindsChanged, FindsHalf}

module _ (some all : List ℕ) (among : AreAmong some all) where
  half_among : (half : Half) (j : Joining) (m : Pairs) (replaced : List ℕ) (rows : Rows) (c : Change) (row : List Value) → FindsHalf half j m replaced rows some c row → FindsHalf half j m replaced rows all c row
  half_among half j m replaced rows c row f = record {
    found = λ a e. among a (f.found a e);
    other = λ a e. still_more half (changed_entries m (c.id ∷ [])) some all a among (f.other a e);
  }

  -- for one change
  pub changed_among : (it : ByValues) (replaced : List ℕ) (c : Change) → FindsChanged it replaced some c → FindsChanged it replaced all c
  changed_among it replaced c finds s t row known new =
      let f = finds s t row known new in
      record {
        first = half_among First (joining it.join.now) it.memory.now.entries replaced s c row f.first;
        second = half_among Second (joining it.join.now) it.memory.now.entries replaced t c row f.second;
        pair = λ a b entry one other at. among entry (f.pair a b entry one other at);
      }

  -- and for all
  pub begins_more : (it : ByValues) (replaced : List ℕ) (near : TableChanges) → BeginsPlaced it replaced near some → BeginsPlaced it replaced near all
  begins_more it replaced near b = record {
    named = λ q h. among q (b.named q h);
    found = all_then (FindsChanged it replaced some) (FindsChanged it replaced all) (changes_at near 0) (changed_among it replaced) b.found;
  }
