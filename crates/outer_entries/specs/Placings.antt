-- What is said of the entries that rows get while they are placed.
use Rattle.std.specs.Prelude.{ℕ}
use Rattle.row_store.specs.Rows.{Rows, AreBelow}
use Rattle.id_memory.specs.Pairs.{Pairs}
use Rattle.pair_rows.specs.declared.unchanged.OldTarget.{OldTarget}
use Rattle.pair_rows.specs.Given.{kept_in}
use Rattle.pair_rows.specs.inner.Knowing.{IsIndexed, KnowsPairs}
use Rattle.outer_law.specs.Placed.{Placing, placed, ending, full}
use Rattle.outer_entries.specs.declared.half_rows.HalfRows.{HalfRows}
use Rattle.outer_entries.specs.declared.outer.Outer.{Outer}
use Rattle.outer_entries.specs.declared.placing.Placing.{Placing as State}
use Rattle.outer_entries.specs.Showings.{joining_of}

-- what is there while rows are placed
abbrev pub placing_of : State → ℕ → Placing
placing_of it next = record {
  first = it.first.all.rows;
  second = it.second.all.rows;
  first_shared = it.first.shared.table.rows;
  second_shared = it.second.shared.table.rows;
  taken = it.taken.entries;
  next = next;
}

-- the rows are below the next identifier, and each look-up tells what a search would find
pub record AreReady (rows : HalfRows) (next : ℕ) : Type 0 where
  pub all : AreBelow rows.all.rows next
  pub shared : AreBelow rows.shared.table.rows next
  pub indexed : IsIndexed rows.shared

-- each look-up of both tables and of the entries that are taken tells what a search would find
pub record Knows (it : State) : Type 0 where
  pub first : IsIndexed it.first.shared
  pub second : IsIndexed it.second.shared
  pub taken : KnowsPairs it.taken

-- the rows of both tables are ready, and so are the entries that are taken
pub record IsReady (it : State) (next : ℕ) : Type 0 where
  pub first : AreReady it.first next
  pub second : AreReady it.second next
  pub taken : KnowsPairs it.taken

-- the kept entries with both halves
abbrev pub full_kept_in : OldTarget → Rows → Pairs
full_kept_in old near = full (kept_in old.rows.now.rows old.memory.now.entries near)

-- the entries of rows, and what is there at the end
abbrev pub placed_in : Outer → OldTarget → Placing → Rows → Pairs
placed_in join old d near = placed (joining_of join) old.rows.now.rows old.memory.now.entries d near

abbrev pub ending_in : Outer → OldTarget → Placing → Rows → Placing
ending_in join old d near = ending (joining_of join) old.rows.now.rows old.memory.now.entries d near
