use Rattle.std.proofs.Common.{◌∙◌, sym, subst}
use Rattle.pair_rows.specs.inner.Draws.{Draws}
use Rattle.outer_law.specs.Placed.{Placed, is_present}
use Rattle.outer_entries.specs.Placings.{placing_of}
use Rattle.outer_entries.specs.inner.Parts.{parts_in, IsGiven}
use Rattle.outer_entries.proofs.PlacingLemmas.{first_halves, both_halves, second_halves}
use Rattle.outer_entries.proofs.placing.place_parts.Goals as goal

pub returns-then-not-second : goal.returns-then-not-second
returns-then-not-second c =
    let parts = parts_in c.args.parts.now in
    let d = placing_of c.args.it.now c.args.ids.now.next in
    let is = first_halves c.args.memory.now.entries parts d c.args.p (is_present parts.first) (is_present parts.second) (sym c.is_present-second.ensures ∙ c.if-not-second.true) in
    subst (λ (to : Placed). Draws to.after.next c.args.ids.now c.place_first.new.ids (λ pair. IsGiven to pair c.place_first.new.it) c.place_first.result) (sym is) c.place_first.ensures

pub returns-then-first : goal.returns-then-first
returns-then-first c =
    let parts = parts_in c.args.parts.now in
    let d = placing_of c.args.it.now c.args.ids.now.next in
    let is = both_halves c.args.memory.now.entries parts d c.args.p (is_present parts.first) (is_present parts.second) (sym c.is_present-first.ensures ∙ c.if-first.true) (sym c.is_present-second.ensures ∙ c.if-not-second.false) in
    subst (λ (to : Placed). Draws to.after.next c.args.ids.now c.place_both.new.ids (λ pair. IsGiven to pair c.place_both.new.it) c.place_both.result) (sym is) c.place_both.ensures

pub returns : goal.returns
returns c =
    let parts = parts_in c.args.parts.now in
    let d = placing_of c.args.it.now c.args.ids.now.next in
    let is = second_halves c.args.memory.now.entries parts d c.args.p (is_present parts.first) (is_present parts.second) (sym c.is_present-first.ensures ∙ c.if-first.false) (sym c.is_present-second.ensures ∙ c.if-not-second.false) in
    subst (λ (to : Placed). Draws to.after.next c.args.ids.now c.place_second.new.ids (λ pair. IsGiven to pair c.place_second.new.it) c.place_second.result) (sym is) c.place_second.ensures
