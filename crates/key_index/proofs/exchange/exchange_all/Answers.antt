use Rattle.std.proofs.Common.{◌≡◌, ℕ, suc, ◌+◌, ◌<◌, length, take, get_or, set, ap, refl, sym, subst, ◌∙◌, arith, rules}
use Rattle.row_store.specs.declared.change.Change.{Change}
use Rattle.row_store.specs.Rows.{row_of}
use Rattle.ordered_pages.specs.Entries.{count_of}
use Rattle.key_index.specs.inner.Entries.{keys_by_id, PutsRow}
use Rattle.key_index.specs.inner.Passes.{told, all_told, IsPassed}
use Rattle.key_index.proofs.PassLemmas.{mixed, mixed_none, mixed_all, mixed_length, mixed_at, mixed_next, count_at, count_set, own_key, pass_more, told_id, told_rise, told_length, told_at}
use Rattle.key_index.proofs.exchange.exchange_all.Goals as goal

pub loop-at-init : goal.loop-at-init
loop-at-init c = (c.requires.each, λ id. refl, c.requires.ready ∙ sym (mixed_none (all_told c.args.way c.args.changes.now)), c.requires.room)

pub exchange_one-requires-clause-own : goal.exchange_one-requires-clause-own
exchange_one-requires-clause-own c =
    let way = c.args.way in
    let changes = c.args.changes.now in
    let cs = all_told way changes in
    let at = c.loop-at.at in
    let d = c.index-changes-at.result in
    let h : at < length changes = search rules in
    let tc : get_or cs at d ≡ told way d = told_at way changes at d h ∙ ap (told way) (sym c.index-changes-at.is) in
    let now = keys_by_id c.loop-at.pages.entries in
    c.gone_of.ensures ∙ ap (λ (x : Change). x.old) (sym tc)
    ∙ own_key (keys_by_id c.args.pages.now.entries) now cs at d (told_rise way 0 changes c.requires.rise) c.requires.fit (omega (arith, h, told_length way changes)) c.loop-at.invariant.1
    ∙ ap (row_of now) (ap (λ (x : Change). x.id) tc ∙ told_id way d)

pub exchange_one-requires-clause-room : goal.exchange_one-requires-clause-room
exchange_one-requires-clause-room c =
    let changes = c.args.changes.now in
    let cs = all_told c.args.way changes in
    let at = c.loop-at.at in
    let h : at < length changes = search rules in
    let long = ap length c.loop-at.invariant.2 ∙ mixed_length at cs ∙ told_length c.args.way changes in
    let own = ap count_of c.index_mut.ensures.value in
    let some = count_at c.loop-at.ready.items at c.index_mut.result.now (omega (arith, h, long)) in
    omega (arith, own, some, c.loop-at.invariant.3)

pub loop-at-preserved : goal.loop-at-preserved
loop-at-preserved c =
    let way = c.args.way in
    let changes = c.args.changes.now in
    let cs = all_told way changes in
    let at = c.loop-at.at in
    let d = c.index-changes-at.result in
    let e = c.index_mut.result.now in
    let inv = c.loop-at.invariant in
    let h : at < length changes = search rules in
    let h_told : at < length cs = omega (arith, h, told_length way changes) in
    let tc : get_or cs at d ≡ told way d = told_at way changes at d h ∙ ap (told way) (sym c.index-changes-at.is) in
    let before = keys_by_id c.args.pages.now.entries in
    let now = keys_by_id c.loop-at.pages.entries in
    let next = keys_by_id c.exchange_one.new.pages.entries in
    let step : suc at ≡ at + 1 = omega arith in
    let new_is : e ≡ (get_or cs at d).new = c.index_mut.ensures.value ∙ ap (λ xs. get_or xs at e) inv.2 ∙ mixed_at at cs d e h_told in
    let id_is : d.id ≡ (get_or cs at d).id = sym (ap (λ (x : Change). x.id) tc ∙ told_id way d) in
    let puts : PutsRow (get_or cs at d).id (get_or cs at d).new now next = subst (λ slot. PutsRow (get_or cs at d).id slot now next) new_is (subst (λ (n : ℕ). PutsRow n e now next) id_is c.exchange_one.ensures.rows) in
    let gone_is : c.exchange_one.new.ready ≡ (get_or cs at d).old = c.exchange_one.ensures.ready ∙ c.gone_of.ensures ∙ ap (λ (x : Change). x.old) (sym tc) in
    let long = ap length inv.2 ∙ mixed_length at cs ∙ told_length way changes in
    let own = ap count_of c.index_mut.ensures.value in
    let count = count_set c.loop-at.ready.items at e c.exchange_one.new.ready (omega (arith, h, long)) in (
      c.exchange_one.ensures.each,
      subst (λ (n : ℕ). IsPassed (take n cs) before next) step (pass_more before now next cs at d (told_rise way 0 changes c.requires.rise) h_told inv.1 puts),
      ap (λ xs. set xs at c.exchange_one.new.ready) inv.2 ∙ ap (λ slot. set (mixed at cs) at slot) gone_is ∙ mixed_next at cs d h_told ∙ ap (λ (n : ℕ). mixed n cs) step,
      omega (arith, count, own, c.exchange_one.ensures.len, c.exchange_one.ensures.capacity, inv.3),
    )

pub returns-clause-ready : goal.returns-clause-ready
returns-clause-ready c =
    let changes = c.args.changes.now in
    let cs = all_told c.args.way changes in
    let last : c.loop-at.at ≡ length changes = search rules in
    c.loop-at.invariant.2 ∙ ap (λ (n : ℕ). mixed n cs) (last ∙ sym (told_length c.args.way changes)) ∙ mixed_all cs
