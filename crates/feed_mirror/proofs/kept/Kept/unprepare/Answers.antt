use Rattle.std.proofs.Common.{List, refl, ap, sym, subst, take, ◌∙◌}
use Rattle.feed_mirror.specs.declared.tables.Shown.{Shown}
use Rattle.feed_mirror.specs.Tables.{named}
use Rattle.feed_mirror.specs.Kept.{AreKept, kept_without_last}
use Rattle.feed_mirror.proofs.KeptLemmas.{kept_less, less_notes, less_shown, same_kept}
use Rattle.feed_mirror.proofs.kept.Kept.unprepare.Goals as goal

pub invariant_of-self : goal.invariant_of-self
invariant_of-self c =
    let k = c.self.inside in
    subst (λ (ts : List Shown). AreKept ts k.shown c.pop.new.self c.in-Some.last.due) (sym c.truncate.ensures.items)
    (kept_less k.tables.items k.shown c.pop.new.self k.ready c.in-Some.last k.due c.self.invariant c.in-Some.ensures)

pub returns-in-Some : goal.returns-in-Some
returns-in-Some c =
    let k = c.self.inside in
    same_kept _ _ _ _ _ _ (less_notes k.tables.items k.shown c.pop.new.self k.ready c.in-Some.last k.due c.self.invariant c.in-Some.ensures) refl
    (ap (λ (ts : List Shown). named (take k.shown ts)) c.truncate.ensures.items ∙ less_shown k.tables.items k.shown c.pop.new.self k.ready c.in-Some.last k.due c.self.invariant c.in-Some.ensures)
    ∙ ap kept_without_last c.self.view_is
