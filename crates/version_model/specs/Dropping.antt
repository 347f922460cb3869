-- A drop: what doesn't stay loses its tables and memories.
use Rattle.std.specs.Prelude.{List, [], if◌then◌else◌}
use Rattle.version_graph.specs.Tables.{table_numbers}
use Rattle.version_graph.specs.Edges.{numbers, made, is_in}
use Rattle.version_graph.specs.declared.parts.Placed.{Placed}
use Rattle.version_model.specs.States.{State}

-- the state with the tables and memories of these edges alone
abbrev pub staying_state : {O : Type 0} → List (Placed O) → State → State
staying_state es s = record {
  tables = λ t. if is_in t (table_numbers (made es)) then s.tables t else [];
  memory = λ n. if is_in n (numbers es) then s.memory n else [];
  next = s.next;
}
