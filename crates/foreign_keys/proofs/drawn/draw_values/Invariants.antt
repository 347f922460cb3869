use Rattle.std.proofs.Common.{◌≡◌, []}
use Rattle.foreign_keys.specs.DrawnIds.{drawn}
use Rattle.foreign_keys.proofs.drawn.draw_values.Given as goal

abbrev pub invariant-loop-row : goal.invariant-loop-row
invariant-loop-row g l =
    let k = g.P.RowParts.parts l.parts in
    drawn k (g.D.Draws.needs l.each) l.values l.row-iterator ≡ drawn k (g.D.Draws.needs l.each) [] l.near.rows
