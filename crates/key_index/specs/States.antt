-- What contracts see of an index.
use Rattle.std.specs.Prelude.{List, Option}
use Rattle.par_base.specs.declared.value.Value.{Value}
use Rattle.row_store.specs.Rows.{Rows}

-- the keys by identifier, and the keys that are ready to be put
pub record IndexState : Type 0 where
  pub rows : Rows
  pub ready : List (Option (List Value))
