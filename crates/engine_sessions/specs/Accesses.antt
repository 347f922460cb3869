-- The accesses of table versions, which advice counts.
use Rattle.std.specs.Prelude.{◌+◌, ℕ, Bool, true, false, nat_le, nat_lt, List, ◌∷◌, ◌++◌, filter, Option, Some, None, Ok, Err, if◌then◌else◌}
use Rattle.par_base.specs.Checked.{Checked}
use Rattle.statements.specs.Views.{StatementView, Insert, Update, Delete, Select, Materialize, Step}
use Rattle.version_graph.specs.declared.parts.Placed.{Placed}
use Rattle.op_any.specs.Operators.{AnyView}
use Rattle.engine_state.specs.AnyDatabase.{AnyDatabase}
use Rattle.engine_moves.specs.Found.{Found, found}
use Rattle.layout_planner.specs.Costs.{count_of}
use Rattle.layout_planner.specs.Counts.{counts_in}
use Rattle.layout_planner.specs.declared.planning.TableCount.{TableCount}

-- the greatest count, at which a count stays
abbrev pub greatest_count : ℕ
greatest_count = 18446744073709551615

abbrev pub one_more : ℕ → ℕ
one_more count = if nat_le greatest_count count then greatest_count else count + 1

-- the table has one access more; the counts ascend by their tables
abbrev pub raised : List TableCount → ℕ → List TableCount
raised counts t =
    filter (λ (c : TableCount). nat_lt c.table t) counts ++ record { table = t; count = one_more (count_of counts t) } ∷ filter (λ (c : TableCount). nat_lt t c.table) counts

abbrev pub table_found : Checked Found → Option ℕ
table_found (Ok f) = Some f.table.number
table_found (Err r) = None

-- the table version that a statement in full reads or writes
abbrev pub accessed : AnyDatabase → StatementView → Option ℕ
accessed s (Insert name rows) = table_found (found s name)
accessed s (Update name assignments filter) = table_found (found s name)
accessed s (Delete name filter) = table_found (found s name)
accessed s (Select name items filter csv) = table_found (found s name)
accessed s _ = None

-- the counts with the access of a statement
abbrev pub raised_by : List TableCount → Option ℕ → List TableCount
raised_by counts None = counts
raised_by counts (Some t) = raised counts t

-- a MATERIALIZE, be it at once or in steps, and a STEP
abbrev pub is_move : StatementView → Bool
is_move (Materialize named in_steps) = true
is_move Step = true
is_move _ = false

-- the counts that are kept behind an accepted statement, which leaves these edges: a move drops no table, and behind any other only tables that live have one
abbrev pub kept_behind : Bool → List (Placed AnyView) → List TableCount → List TableCount
kept_behind true es counts = counts
kept_behind false es counts = counts_in es counts
