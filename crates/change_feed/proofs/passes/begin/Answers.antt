use Rattle.std.proofs.Common.{sym, ap, ◌∙◌, slice_set}
use Rattle.change_feed.specs.Watchers.{with_prepared, with_told}
use Rattle.change_feed.proofs.NameLemmas.{picks, passes}
use Rattle.change_feed.proofs.KeyLemmas.{set_same}
use Rattle.change_feed.proofs.LiveLemmas.{put_within, put_twice}
use Rattle.change_feed.proofs.passes.begin.Goals as goal

pub returns-then-is_empty-clause-ok : goal.returns-then-is_empty-clause-ok
returns-then-is_empty-clause-ok g c = λ x e.
    sym (ap (λ v. slice_set c.args.watchers.now c.args.at v) (picks _ x (with_told (with_prepared c.args.first.now x)) (sym c.is_empty.ensures ∙ c.if-is_empty.true)) ∙ set_same c.args.watchers.now c.args.at x e)

pub tell-requires : goal.tell-requires
tell-requires g c = put_within c.args.watchers.now c.prepare.new.self c.args.at (with_prepared c.args.first.now) c.requires.0 c.in_ok-prepare.ensures.ok c.requires.1

pub returns-clause-ok : goal.returns-clause-ok
returns-clause-ok g c = λ x e.
    put_twice c.args.watchers.now c.prepare.new.self c.tell.new.self c.args.at (with_prepared c.args.first.now) with_told c.in_ok-prepare.ensures.ok c.tell.ensures x e
    ∙ sym (ap (λ v. slice_set c.args.watchers.now c.args.at v) (passes _ x (with_told (with_prepared c.args.first.now x)) (sym c.is_empty.ensures ∙ c.if-is_empty.false)))
