use Rattle.std.proofs.Common.{ℕ, Option, sym, ap, ◌∙◌}
use Rattle.row_parts.specs.RowCells.{Cell}
use Rattle.foreign_keys.specs.Seeking.{out_at}
use Rattle.foreign_keys.specs.inner.SeekLemmas.{seek_led}
use Rattle.foreign_keys.specs.Shared.{second_part_at}
use Rattle.op_fk_join.specs.Join.{key_leads}
use Rattle.op_fk_join.proofs.reading.seek.Goals as goal

pub returns-in_ok-part-in-Some : goal.returns-in_ok-part-in-Some
returns-in_ok-part-in-Some g c =
    let out : ℕ → Cell = second_part_at (g.P.RowParts.parts c.args.it.now.parts.now) c.args.it.now.r.now.rows in
    let from = sym (c.requires c.args.id) ∙ sym c.get.ensures ∙ c.in-Some.is in
    c.in_ok-part-in-Some.ensures ∙ sym (seek_led key_leads out c.args.it.now.keys.now.rows c.args.id ∙ ap (λ (o : Option ℕ). out_at out o) from)

pub returns-in-None : goal.returns-in-None
returns-in-None g c =
    let out : ℕ → Cell = second_part_at (g.P.RowParts.parts c.args.it.now.parts.now) c.args.it.now.r.now.rows in
    let from = sym (c.requires c.args.id) ∙ sym c.get.ensures ∙ c.in-None.is in
    sym (seek_led key_leads out c.args.it.now.keys.now.rows c.args.id ∙ ap (λ (o : Option ℕ). out_at out o) from)
