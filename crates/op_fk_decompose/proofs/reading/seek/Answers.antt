use Rattle.std.proofs.Common.{◌≡◌, ap, sym, ◌∙◌, subst, IfOk}
use Rattle.row_parts.specs.RowCells.{Cell}
use Rattle.foreign_keys.specs.Seeking.{out_at}
use Rattle.foreign_keys.specs.Shared.{second_part_at}
use Rattle.foreign_keys.specs.inner.SeekLemmas.{seek_led}
use Rattle.op_fk_decompose.specs.Decompose.{leads}
use Rattle.op_fk_decompose.proofs.reading.seek.Goals as goal

pub returns-in-Some : goal.returns-in-Some
returns-in-Some g c =
    let k = g.P.RowParts.parts c.args.it.now.parts.now in
    let to = leads k c.args.it.now.dangling.now.rows in
    let out = second_part_at k c.args.it.now.r.now.rows in
    let first = sym (c.requires c.args.id) ∙ sym c.get.ensures ∙ c.in-Some.is in
    let found = seek_led to out c.args.it.now.s.now.rows c.args.id ∙ ap (out_at out) first in
    subst (λ (x : Cell). IfOk c.part_of.result (λ cell. cell ≡ x)) (sym found) c.part_of.ensures

pub returns-in-None : goal.returns-in-None
returns-in-None g c =
    let k = g.P.RowParts.parts c.args.it.now.parts.now in
    let to = leads k c.args.it.now.dangling.now.rows in
    let out = second_part_at k c.args.it.now.r.now.rows in
    let none = sym (c.requires c.args.id) ∙ sym c.get.ensures ∙ c.in-None.is in
    sym (seek_led to out c.args.it.now.s.now.rows c.args.id ∙ ap (out_at out) none)
