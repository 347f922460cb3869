use Rattle.std.proofs.Common.{ap, sym, ◌∙◌}
use Rattle.feed_mirror.specs.declared.tables.Shown.{Shown}
use Rattle.feed_mirror.proofs.RoomLemmas.{none_at_all, none_so_far}
use Rattle.feed_mirror.proofs.PlaceLemmas.{get_there}
use Rattle.feed_mirror.proofs.tables.place_of.Goals as goal

pub returns-then-is_same : goal.returns-then-is_same
returns-then-is_same c =
    record {
      which = c.index-tables-at.result;
      stands = get_there c.args.tables.now c.loop-at.at c.index-tables-at.result c.loop-at-test.true c.index-tables-at.is;
      has = ap (λ (x : Shown). x.name) c.index-tables-at.is ∙ c.is_same.ensures.0 c.if-is_same.true;
      before = c.loop-at.invariant;
    }

pub returns : goal.returns
returns c = none_at_all c.args.name.now c.args.tables.now c.loop-at.at c.loop-at-test.false c.loop-at.invariant

pub loop-at-preserved : goal.loop-at-preserved
loop-at-preserved c =
    none_so_far c.args.name.now c.args.tables.now c.loop-at.at c.index-tables-at.result c.loop-at-test.true c.index-tables-at.is
    (λ e. let a = c.is_same.ensures.1 (sym (ap (λ (x : Shown). x.name) c.index-tables-at.is) ∙ e) in let b = c.if-is_same.false in cc)
    c.loop-at.invariant
