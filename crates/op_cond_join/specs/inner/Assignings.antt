-- What is said of the pairs that rows get while they are assigned.
use Rattle.std.specs.Prelude.{◌≡◌, ℕ, List, [], ◌∷◌}
use Rattle.par_base.specs.declared.value.Value.{Value}
use Rattle.row_store.specs.Rows.{Rows, AreBelow}
use Rattle.id_memory.specs.Pairs.{Pairs}
use Rattle.op_law.specs.Meaning.{Mapped}
use Rattle.op_cond_join.specs.declared.assigning.Assigning.{Assigning as State}
use Rattle.op_cond_join.specs.declared.join.JoinOn.{JoinOn}
use Rattle.pair_rows.specs.declared.unchanged.OldTarget.{OldTarget}
use Rattle.pair_rows.specs.declared.growing.Growing.{Growing}
use Rattle.op_cond_join.specs.Joinings.{joining}
use Rattle.pair_rows.specs.Halves.{first_of, second_of}
use Rattle.pair_rows.specs.Shown.{Joining}
use Rattle.pair_rows.specs.Stays.{staying}
use Rattle.pair_rows.specs.inner.Knowing.{IsIndexed, KnowsPairs}
use Rattle.pair_rows.specs.Given.{Got}
use Rattle.op_cond_join.specs.Assigned.{Assigning, Placed, place_changed, place_row, assigned, ending}

-- what the laws see
abbrev pub assigning : State → ℕ → Assigning
assigning it next = record { first = it.first.table.rows; second = it.second.table.rows; taken = it.taken.entries; next = next }

-- each look-up tells what a search would find
pub record Knows (it : State) : Type 0 where
  pub first : IsIndexed it.first
  pub second : IsIndexed it.second
  pub taken : KnowsPairs it.taken

-- the identifier and the rows are those that were found or drawn
pub record IsGiven (to : Got) (id : ℕ) (rows : Growing) : Type 0 where
  pub number : id ≡ to.id
  pub table : rows.table.rows ≡ to.rows
  pub indexed : IsIndexed rows

-- the pair and what is assigned after it
pub record IsPlaced (to : Placed) (pair : ℕ × ℕ) (it : State) (next : ℕ) : Type 0 where
  pub both : pair ≡ (to.first, to.second)
  pub after : assigning it next ≡ to.after
  pub knows : Knows it

-- the pair of a row that isn't as it was
abbrev pub changed_placed : JoinOn → OldTarget → State → ℕ → ℕ × List Value → Placed
changed_placed join old it next row = place_changed (joining join) old.rows.now.rows old.memory.now.entries (assigning it next) row

-- the pair of a row
abbrev pub row_placed : JoinOn → OldTarget → State → ℕ → ℕ × List Value → Placed
row_placed join old it next row = place_row (joining join) old.rows.now.rows old.memory.now.entries (assigning it next) row

-- the pairs of rows, and what is assigned at the end
abbrev pub pairs_given : JoinOn → OldTarget → State → ℕ → Rows → Pairs
pairs_given join old it next near = assigned (joining join) old.rows.now.rows old.memory.now.entries (assigning it next) near

abbrev pub end_of : JoinOn → OldTarget → State → ℕ → Rows → Assigning
end_of join old it next near = ending (joining join) old.rows.now.rows old.memory.now.entries (assigning it next) near

-- the rows of both tables are below the next identifier
abbrev pub AreBelowNext : Assigning → Type 0
AreBelowNext d = AreBelow d.first d.next × AreBelow d.second d.next

-- the pairs of rows from what is assigned before them
abbrev pub given_in : JoinOn → OldTarget → Assigning → Rows → Pairs
given_in join old d near = assigned (joining join) old.rows.now.rows old.memory.now.entries d near

-- the new source and memory
abbrev pub mapped_from : Joining → Rows → Pairs → Assigning → Rows → Mapped
mapped_from j r m d near =
    let es = assigned j r m d near in
    let end = ending j r m d near in
    record { far = staying first_of m es end.first ∷ staying second_of m es end.second ∷ []; memory = es; next = end.next }

abbrev pub mapped_back : JoinOn → OldTarget → Assigning → Rows → Mapped
mapped_back join old d near = mapped_from (joining join) old.rows.now.rows old.memory.now.entries d near
