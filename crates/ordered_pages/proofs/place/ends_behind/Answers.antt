use Rattle.std.specs.Ordering.{is_lt}
use Rattle.std.proofs.Common.{◌≡◌, ◌+◌, ◌∙◌, suc, drop, ap, sym, subst, arith}
use Rattle.ordered_pages.specs.Entries.{AreBehind}
use Rattle.ordered_pages.specs.inner.Pages.{all_entries}
use Rattle.ordered_pages.proofs.PagesLemmas.{reads_high, reads_some}
use Rattle.ordered_pages.proofs.place.ends_behind.Goals as goal

pub first-requires : goal.first-requires
first-requires g c = reads_some c.args.pages.now _ c.index-pages-next.result c.requires.sized (omega arith) c.index-pages-next.is

pub returns-then-is_lt : goal.returns-then-is_lt
returns-then-is_lt g c = λ _.
    let next : c.args.at + 1 ≡ suc c.args.at = omega arith in
    subst (λ n. AreBehind g.E.Entry.order (g.P.Probe.key c.args.probe.now) (all_entries (drop n c.args.pages.now))) next
    (reads_high g.E.Entry.order g.met.E.Entry.total c.args.pages.now _ (g.P.Probe.key c.args.probe.now) c.index-pages-next.result c.first.result.now c.requires.rise c.requires.sized (omega arith) c.index-pages-next.is c.first.ensures
    (ap is_lt (sym c.compare.ensures) ∙ sym c.if-is_lt.ensures))
