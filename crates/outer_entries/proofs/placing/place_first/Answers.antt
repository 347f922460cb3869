use Rattle.std.proofs.Common.{ℕ, ◌≤◌, Option, ap, ◌∙◌, subst}
use Rattle.op_law.specs.Calls.{first_refused}
use Rattle.pair_rows.specs.Given.{got}
use Rattle.pair_rows.proofs.GivenLaws.{got_rises}
use Rattle.outer_law.specs.Placed.{own_alone}
use Rattle.pair_rows.specs.Halves.{first_of}
use Rattle.outer_entries.specs.Placings.{placing_of}
use Rattle.outer_entries.specs.inner.Parts.{parts_in, IsGot}
use Rattle.outer_entries.proofs.HalfRowLemmas.{first_is, later_ready}
use Rattle.outer_entries.proofs.placing.place_first.Goals as goal

pub returns : goal.returns
returns c =
    let it = c.args.it.now in
    let m = c.args.memory.now.entries in
    let d = placing_of it c.args.ids.now.next in
    let parts = parts_in c.args.parts.now in
    let e = c.own_alone-found.ensures in
    let one = subst (λ (o : Option ℕ). IsGot (got o d.first parts.first.values d.next) d.first_shared c.in_ok-a.a c.got_alone.new.rows) e c.in_ok-a.ensures.1 in (
      subst (λ (o : Option ℕ). (got o d.first parts.first.values d.next).next ≤ first_refused c.args.ids.now) e c.in_ok-a.ensures.0,
      record {
        both = ap (λ (i : ℕ). (i, 0)) one.number;
        after = first_is m parts d c.args.p c.in_ok-a.a c.got_alone.new.rows.all.rows c.got_alone.new.rows.shared.table.rows c.take.new.taken.entries one.number one.all one.may_share c.in_ok-take.ensures.entries;
        ready = record {
          first = one.ready;
          second = later_ready it.second d.next _ (got_rises (own_alone first_of m parts.first.own) d.first parts.first.values d.next) c.requires.second;
          taken = c.in_ok-take.ensures.knows;
        };
      },
      c.in_ok-a.ensures.2 ∙ ap (λ (o : Option ℕ). record c.args.ids.now { next = (got o d.first parts.first.values d.next).next }) e,
    )
