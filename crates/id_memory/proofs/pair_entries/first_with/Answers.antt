use Rattle.std.proofs.Common.{◌≡◌, ℕ, Some, ◌∙◌, ap, subst, sym}
use Rattle.ordered_pages.specs.Entries.{entries_from, entry_of}
use Rattle.id_memory.specs.inner.Orders.{Triple, pair_order}
use Rattle.id_memory.specs.Found.{IsLeastFrom}
use Rattle.id_memory.proofs.PairLemmas.{first_is, first_other, none_is}
use Rattle.id_memory.proofs.pair_entries.first_with.Goals as goal

pub returns-in_default : goal.returns-in_default
returns-in_default g c =
    let n = (g.P.Probe.key c.args.probe.now).1 in
    let at : ◌≡◌ {A = ℕ × ℕ} (g.P.Probe.key c.args.probe.now) (c.args.a, n) = ap (λ (k : ℕ). (k, n)) c.requires in
    none_is c.args.pairs.now.entries c.args.a n c.iter_from-left.ensures.rise
    (sym (c.iter_from-left.ensures.from ∙ ap (entries_from pair_order c.args.pairs.now.entries) at) ∙ c.in_default.ensures.steps.0)

pub returns-then-own-a : goal.returns-then-own-a
returns-then-own-a g c =
    let n = (g.P.Probe.key c.args.probe.now).1 in
    let at : ◌≡◌ {A = ℕ × ℕ} (g.P.Probe.key c.args.probe.now) (c.args.a, n) = ap (λ (k : ℕ). (k, n)) c.requires in
    subst (λ (x : Triple). IsLeastFrom (λ b d. entry_of pair_order c.args.pairs.now.entries (c.args.a, b) ≡ Some (c.args.a, b, d)) n (Some (x.1, x.2))) (sym c.own.view_is)
    (first_is c.args.pairs.now.entries c.args.a n c.iter_from-left.ensures.rise c.in-Some.own.now c.next.new.self
    (sym (c.iter_from-left.ensures.from ∙ ap (entries_from pair_order c.args.pairs.now.entries) at) ∙ c.in-Some.ensures.steps)
    (sym (ap (λ (x : Triple). x.0) c.own.view_is) ∙ c.if-own-a.true))

pub returns : goal.returns
returns g c =
    let n = (g.P.Probe.key c.args.probe.now).1 in
    let at : ◌≡◌ {A = ℕ × ℕ} (g.P.Probe.key c.args.probe.now) (c.args.a, n) = ap (λ (k : ℕ). (k, n)) c.requires in
    first_other c.args.pairs.now.entries c.args.a n c.iter_from-left.ensures.rise c.in-Some.own.now c.next.new.self
    (sym (c.iter_from-left.ensures.from ∙ ap (entries_from pair_order c.args.pairs.now.entries) at) ∙ c.in-Some.ensures.steps)
    (λ own. c.if-own-a.false (ap (λ (x : Triple). x.0) c.own.view_is ∙ own))
