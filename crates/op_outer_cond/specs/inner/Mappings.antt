-- What a mapping gives from what is there before the rows of a new target are placed.
use Rattle.std.specs.Prelude.{[], ◌∷◌}
use Rattle.row_store.specs.Rows.{Rows}
use Rattle.id_memory.specs.Pairs.{Pairs}
use Rattle.op_law.specs.Meaning.{Mapped}
use Rattle.pair_rows.specs.Halves.{first_of, second_of}
use Rattle.pair_rows.specs.Shown.{Joining}
use Rattle.pair_rows.specs.declared.unchanged.OldTarget.{OldTarget}
use Rattle.outer_law.specs.Placed.{Placing, placed, ending, standing}
use Rattle.outer_entries.specs.declared.outer.Outer.{Outer}
use Rattle.outer_entries.specs.Showings.{joining_of}

-- the new source and memory
abbrev pub mapped_from : Joining → Rows → Pairs → Placing → Rows → Mapped
mapped_from j r m d near =
    let es = placed j r m d near in
    let end = ending j r m d near in
    record { far = standing first_of es end.first ∷ standing second_of es end.second ∷ []; memory = es; next = end.next }

abbrev pub mapped_in : Outer → OldTarget → Placing → Rows → Mapped
mapped_in join old d near = mapped_from (joining_of join) old.rows.now.rows old.memory.now.entries d near
