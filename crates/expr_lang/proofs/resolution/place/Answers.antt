use Rattle.std.proofs.Common.{sym, ◌∙◌}
use Rattle.std.specs.Str.{bytes_eq}
use Rattle.expr_lang.proofs.Places.{place_of-from, position_from-here, position_from-end}
use Rattle.expr_lang.proofs.resolution.place.Goals as goal

pub returns-then-eq : goal.returns-then-eq
returns-then-eq c =
    let here = position_from-here (bytes_eq c.args.name.now) c.args.columns.now c.loop-at.at c.index-columns-at.result c.loop-at-test.true (sym c.index-columns-at.is) (sym c.eq.ensures ∙ c.if-eq.true) in
    sym here ∙ c.loop-at.invariant ∙ sym (place_of-from _ _)

pub returns : goal.returns
returns c =
    let past = position_from-end (bytes_eq c.args.name.now) c.args.columns.now c.loop-at.at c.loop-at-test.false in
    sym past ∙ c.loop-at.invariant ∙ sym (place_of-from _ _)
