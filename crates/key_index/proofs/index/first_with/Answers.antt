use Rattle.std.proofs.Common.{◌≡◌, ℕ, List, ◌∙◌, ap, sym, refl, true≢false}
use Rattle.par_base.specs.declared.value.Value.{Value}
use Rattle.ordered_pages.specs.Entries.{entries_from}
use Rattle.key_index.specs.inner.Entries.{keyed_order}
use Rattle.key_index.proofs.FoundLemmas.{first_is, first_other, none_is}
use Rattle.key_index.proofs.index.first_with.Goals as goal

pub returns-in_default : goal.returns-in_default
returns-in_default g c =
    let n = (g.P.Probe.key c.args.probe.now).1 in
    let at : ◌≡◌ {A = List Value × ℕ} (g.P.Probe.key c.args.probe.now) (c.args.key.now, n) = ap (λ (k : List Value). (k, n)) c.requires.key in
    none_is c.args.pages.now.entries c.args.key.now n c.iter_from-left.ensures.rise c.requires.each
    (sym (c.iter_from-left.ensures.from ∙ ap (entries_from keyed_order c.args.pages.now.entries) at) ∙ c.in_default.ensures.steps.0)

pub returns-then-is_same_values : goal.returns-then-is_same_values
returns-then-is_same_values g c =
    let n = (g.P.Probe.key c.args.probe.now).1 in
    let at : ◌≡◌ {A = List Value × ℕ} (g.P.Probe.key c.args.probe.now) (c.args.key.now, n) = ap (λ (k : List Value). (k, n)) c.requires.key in
    first_is c.args.pages.now.entries c.args.key.now n c.iter_from-left.ensures.rise c.requires.each c.in-Some.first.now c.next.new.self
    (sym (c.iter_from-left.ensures.from ∙ ap (entries_from keyed_order c.args.pages.now.entries) at) ∙ c.in-Some.ensures.steps)
    (sym c.as_slice.ensures ∙ c.if-is_same_values.ensures.0 refl)

pub returns : goal.returns
returns g c =
    let n = (g.P.Probe.key c.args.probe.now).1 in
    let at : ◌≡◌ {A = List Value × ℕ} (g.P.Probe.key c.args.probe.now) (c.args.key.now, n) = ap (λ (k : List Value). (k, n)) c.requires.key in
    first_other c.args.pages.now.entries c.args.key.now n c.iter_from-left.ensures.rise c.requires.each c.in-Some.first.now c.next.new.self
    (sym (c.iter_from-left.ensures.from ∙ ap (entries_from keyed_order c.args.pages.now.entries) at) ∙ c.in-Some.ensures.steps)
    (λ same. true≢false (sym (c.if-is_same_values.ensures.1 (c.as_slice.ensures ∙ same))))
