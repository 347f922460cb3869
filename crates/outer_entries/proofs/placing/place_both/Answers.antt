use Rattle.std.proofs.Common.{ℕ, Option, ap, ◌∙◌, sym, subst, arith}
use Rattle.id_memory.specs.States.{CounterState}
use Rattle.pair_rows.specs.Given.{got}
use Rattle.pair_rows.proofs.GivenLaws.{got_rises}
use Rattle.outer_law.specs.Placed.{Placing}
use Rattle.outer_entries.specs.Placings.{placing_of, AreReady}
use Rattle.outer_entries.specs.inner.Parts.{parts_in, IsGot}
use Rattle.outer_entries.proofs.HalfRowLemmas.{both_is, later_ready, raised_by}
use Rattle.outer_entries.proofs.placing.place_both.Goals as goal

pub got_shared-requires-2 : goal.got_shared-requires-2
got_shared-requires-2 c =
    let next = ap (λ (counter : CounterState). counter.next) c.in_ok-a.ensures.2 in
    let rises = got_rises c.own_or_shared-first_found.result c.args.it.now.first.all.rows c.args.parts.now.first.values c.args.ids.now.next in
    later_ready c.args.it.now.second c.args.ids.now.next c.got_shared.new.ids.next (omega (arith, next, rises)) c.requires.second

pub got_shared-requires-3 : goal.got_shared-requires-3
got_shared-requires-3 c =
    let one = ap (λ (counter : CounterState). counter.next) c.in_ok-a.ensures.2 in
    let next = ap (λ (counter : CounterState). counter.next) c.in_ok-b.ensures.2 in
    let rises = got_rises c.own_or_shared-second_found.result c.args.it.now.second.all.rows c.args.parts.now.second.values c.got_shared.new.ids.next in
    later_ready c.got_shared.new.rows c.got_shared.new.ids.next c.got_shared-2.new.ids.next (omega (arith, next, rises))
    (subst (λ (n : ℕ). AreReady c.got_shared.new.rows n) (sym one) c.in_ok-a.ensures.1.ready)

pub returns : goal.returns
returns c =
    let it = c.args.it.now in
    let d = placing_of it c.args.ids.now.next in
    let parts = parts_in c.args.parts.now in
    let n = c.got_shared.new.ids.next in
    let k = c.got_shared-2.new.ids.next in
    let l = c.got_shared-3.new.ids.next in
    let e = c.own_or_shared-first_found.ensures in
    let f = c.own_or_shared-second_found.ensures in
    let one = subst (λ (o : Option ℕ). IsGot (got o d.first parts.first.values d.next) (got o d.first_shared parts.first.values d.next).rows c.in_ok-a.a c.got_shared.new.rows) e c.in_ok-a.ensures.1 in
    let two = subst (λ (o : Option ℕ). IsGot (got o d.second parts.second.values n) (got o d.second_shared parts.second.values n).rows c.in_ok-b.b c.got_shared-2.new.rows) f c.in_ok-b.ensures.1 in
    let three = c.in_ok-c.ensures.1 in
    let n_is = ap (λ (counter : CounterState). counter.next) c.in_ok-a.ensures.2 in
    let k_is = ap (λ (counter : CounterState). counter.next) c.in_ok-b.ensures.2 in
    let l_is = ap (λ (counter : CounterState). counter.next) c.in_ok-c.ensures.2 in
    let both = both_is parts d c.args.p c.in_ok-a.a n c.in_ok-b.b k c.in_ok-c.c l c.unless_taken-last_found.result c.got_shared.new.rows.all.rows c.got_shared.new.rows.shared.table.rows c.got_shared-2.new.rows.all.rows c.got_shared-2.new.rows.shared.table.rows c.got_shared-3.new.rows.all.rows c.got_shared-3.new.rows.shared.table.rows c.take.new.taken.entries
    one.number one.all one.may_share (n_is ∙ ap (λ (o : Option ℕ). (got o d.first parts.first.values d.next).next) e)
    two.number two.all two.may_share (k_is ∙ ap (λ (o : Option ℕ). (got o d.second parts.second.values n).next) f)
    c.unless_taken-last_found.ensures three.number three.all three.may_share l_is c.in_ok-take.ensures.entries in
    let last = ap (λ (s : Placing). s.next) both.after in
    let rises = got_rises c.unless_taken-last_found.result c.got_shared.new.rows.all.rows parts.first.values k in
    let low = c.in_ok-a.ensures.0 in
    let middle = c.in_ok-b.ensures.0 in
    let high = c.in_ok-c.ensures.0 in
    let limit = ap (λ (counter : CounterState). counter.limit) c.in_ok-a.ensures.2 in
    let limit_2 = ap (λ (counter : CounterState). counter.limit) c.in_ok-b.ensures.2 in
    let limit_3 = ap (λ (counter : CounterState). counter.limit) c.in_ok-c.ensures.2 in (
      omega (arith, last, n_is, k_is, l_is, low, middle, high, limit, limit_2),
      record {
        both = both.both;
        after = ap (λ (i : ℕ). record { first = c.got_shared-3.new.rows.all.rows; second = c.got_shared-2.new.rows.all.rows; first_shared = c.got_shared-3.new.rows.shared.table.rows; second_shared = c.got_shared-2.new.rows.shared.table.rows; taken = c.take.new.taken.entries; next = i }) (sym last) ∙ both.after;
        ready = record {
          first = subst (λ (i : ℕ). AreReady c.got_shared-3.new.rows i) (sym l_is ∙ last) three.ready;
          second = subst (λ (i : ℕ). AreReady c.got_shared-2.new.rows i) last (later_ready c.got_shared-2.new.rows k l (omega (arith, rises, l_is)) (subst (λ (i : ℕ). AreReady c.got_shared-2.new.rows i) (sym k_is) c.in_ok-b.ensures.1.ready));
          taken = c.in_ok-take.ensures.knows;
        };
      },
      raised_by c.args.ids.now c.got_shared-3.new.ids _ last (limit_3 ∙ limit_2 ∙ limit),
    )
