use Rattle.std.proofs.Common.{◌≡◌, take}
use Rattle.ordinary_table.specs.Selected.{listed}
use Rattle.ordinary_table.proofs.select.listed_row.Given as goal

abbrev pub invariant-loop-place : goal.invariant-loop-place
invariant-loop-place l = l.made.items ≡ listed (take l.place-index l.places) l.row
