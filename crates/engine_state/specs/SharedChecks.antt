-- Checks that statements of more than one kind make.
use Rattle.std.specs.Prelude.{ℕ, nat_lt, List, Option, Some, None, Ok, Err, if◌then◌else◌}
use Rattle.par_base.specs.declared.refusal.Refusal.TheVariants.{UnknownVersion, IdsSpent}
use Rattle.op_law.specs.Calls.{first_refused}
use Rattle.par_base.specs.Checked.{Checked}
use Rattle.version_model.specs.Databases.{counter_of}
use Rattle.engine_state.specs.AnyDatabase.{AnyDatabase}

-- the working set of the version with this name
abbrev pub known_version : List ℕ → Option ℕ → Checked ℕ
known_version name (Some set) = Ok set
known_version name None = Err (UnknownVersion name)

-- no identifier above the limit is drawn, where this is the next one at the end
abbrev pub enough_ids : AnyDatabase → ℕ → Checked (Unit {0})
enough_ids s next =
    if nat_lt (first_refused (counter_of s)) next
    then Err (IdsSpent (first_refused (counter_of s)) s.limit)
    else Ok tt
