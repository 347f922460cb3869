use Rattle.std.proofs.Common.{◌≡◌, true, false, List, [], ◌∷◌, ◌++◌, Option, refl, ap, sym, ◌∙◌, subst}
use Rattle.std.proofs.lemmas.Bool.{false≢true}
use mathlib.Core.Logic.{inl, inr}
use Rattle.cell_changes.proofs.adding.add_change.Goals as goal

pub returns-then-is_same_cell : goal.returns-then-is_same_cell
returns-then-is_same_cell c = inl (c.is_same_cell.ensures.0 c.if-is_same_cell.true, refl)
