use Rattle.std.proofs.Common.{subst}
use Rattle.pair_rows.specs.inner.Draws.{Draws}
use Rattle.outer_law.specs.Placed.{Parts, place_changed}
use Rattle.outer_entries.specs.Placings.{placing_of}
use Rattle.outer_entries.specs.inner.Parts.{IsGiven}
use Rattle.outer_entries.proofs.placing.place_changed.Goals as goal

pub returns : goal.returns
returns c =
    let m = c.args.old.now.memory.now.entries in
    let d = placing_of c.args.it.now c.args.ids.now.next in
    subst (λ (parts : Parts). Draws (place_changed m parts d c.args.row.now.0).after.next c.args.ids.now c.place_parts.new.ids (λ pair. IsGiven (place_changed m parts d c.args.row.now.0) pair c.place_parts.new.it) c.place_parts.result)
    c.in_ok-parts.ensures c.place_parts.ensures
