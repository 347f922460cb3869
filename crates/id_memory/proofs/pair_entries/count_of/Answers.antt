use Rattle.std.proofs.Common.{◌≡◌, ◌≤◌, ◌+◌, ◌==◌, List, ap, sym, subst, ◌∙◌, arith}
use Rattle.std.specs.Prelude.{count_by}
use Rattle.std.proofs.Math.Nat.{min-eq_left, min-eq_right}
use Rattle.ordered_pages.specs.Entries.{entries_from}
use Rattle.id_memory.specs.inner.Orders.{Triple, pair_order}
use Rattle.id_memory.proofs.PairLemmas.{IsRun, run_ends, run_is, run_next}
use Rattle.id_memory.proofs.pair_entries.count_of.Goals as goal

pub loop-own-init : goal.loop-own-init
loop-own-init c =
    let is : c.into_iter-own-iterator.result ≡ entries_from pair_order c.args.pairs.now.entries (c.args.a, 0) = c.into_iter-own-iterator.ensures.into_iter_gives ∙ c.iter_from-own-items.ensures.from in
    (omega arith, subst (IsRun c.args.a 0 c.args.pairs.now.entries) (sym is) (run_is c.args.a c.args.pairs.now.entries c.iter_from-own-items.ensures.rise))

pub returns-then-count-most : goal.returns-then-count-most
returns-then-count-most c =
    let within : c.args.most ≤ count_by (λ x. x.0 == c.args.a) c.args.pairs.now.entries = omega (arith, c.if-count-most.true, c.loop-own.invariant.1.all) in
    c.if-count-most.true ∙ sym (min-eq_left within)

pub returns-then-own-a : goal.returns-then-own-a
returns-then-own-a c =
    let run = subst (IsRun c.args.a c.loop-own.count c.args.pairs.now.entries) c.in-Some.ensures.steps c.loop-own.invariant.1 in
    let all = run_ends c.args.a c.loop-own.count c.args.pairs.now.entries c.next.new.self c.in-Some.own.now run (λ own. c.if-own-a.true (ap (λ (x : Triple). x.0) c.own.view_is ∙ own)) in
    let within : count_by (λ x. x.0 == c.args.a) c.args.pairs.now.entries ≤ c.args.most = omega (arith, all, c.loop-own.invariant.0) in
    all ∙ sym (min-eq_right within)

pub loop-own-preserved : goal.loop-own-preserved
loop-own-preserved c =
    let run = subst (IsRun c.args.a c.loop-own.count c.args.pairs.now.entries) c.in-Some.ensures.steps c.loop-own.invariant.1 in (
      omega (arith, c.loop-own.invariant.0, c.if-count-most.false),
      run_next c.args.a c.loop-own.count c.args.pairs.now.entries c.next.new.self c.in-Some.own.now run (sym (ap (λ (x : Triple). x.0) c.own.view_is) ∙ c.if-own-a.false),
    )

pub returns : goal.returns
returns c =
    let total : c.loop-own.count + 0 ≡ count_by (λ x. x.0 == c.args.a) c.args.pairs.now.entries = subst (λ (left : List Triple). c.loop-own.count + count_by (λ x. x.0 == c.args.a) left ≡ count_by (λ x. x.0 == c.args.a) c.args.pairs.now.entries) c.in-None.ensures.steps.0 c.loop-own.invariant.1.all in
    let all : c.loop-own.count ≡ count_by (λ x. x.0 == c.args.a) c.args.pairs.now.entries = omega (arith, total) in
    let within : count_by (λ x. x.0 == c.args.a) c.args.pairs.now.entries ≤ c.args.most = omega (arith, all, c.loop-own.invariant.0) in
    all ∙ sym (min-eq_right within)
