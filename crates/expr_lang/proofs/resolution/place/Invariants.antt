use Rattle.std.proofs.Common.{◌≡◌, drop}
use Rattle.std.specs.List.{position_from}
use Rattle.std.specs.Str.{bytes_eq}
use Rattle.expr_lang.proofs.resolution.place.Given as goal

-- the first equal column of all is the first of those that are left
abbrev pub invariant-loop-at : goal.invariant-loop-at
invariant-loop-at l = position_from (bytes_eq l.name) l.at (drop l.at l.columns) ≡ position_from (bytes_eq l.name) 0 l.columns
