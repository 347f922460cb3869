use Rattle.std.proofs.Common.{◌≡◌, Option, None, Some, ap, sym, ◌∙◌}
use Rattle.std.specs.Option.{option_map}
use Rattle.ordered_pages.specs.Entries.{entry_of}
use Rattle.id_memory.specs.inner.Orders.{Triple, id_order}
use Rattle.id_memory.proofs.IdLemmas.{pair_in, pair_is}
use Rattle.id_memory.proofs.id_entries.find.Goals as goal

pub returns-in-Some : goal.returns-in-Some
returns-in-Some c =
    let there : Some c.in-Some.own.now ≡ entry_of id_order c.args.entries.now.entries c.args.p = ap (option_map (λ e. e.now)) (sym c.in-Some.is) ∙ c.get.ensures in
    ap (λ (e : Triple). pair_in (Some e)) c.own.view_is ∙ ap pair_in there ∙ pair_is c.args.entries.now.entries c.args.p

pub returns-in-None : goal.returns-in-None
returns-in-None c =
    let none : ◌≡◌ {A = Option Triple} None (entry_of id_order c.args.entries.now.entries c.args.p) = ap (option_map (λ e. e.now)) (sym c.in-None.is) ∙ c.get.ensures in
    ap pair_in none ∙ pair_is c.args.entries.now.entries c.args.p
