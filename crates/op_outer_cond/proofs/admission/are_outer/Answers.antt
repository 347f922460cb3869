use Rattle.std.proofs.Common.{[], sym, ◌∙◌, subst, arith}
use Rattle.std.proofs.lemmas.Bool.{false≢true}
use Rattle.id_memory.specs.Pairs.{Pairs}
use Rattle.pair_rows.specs.Shown.{AreThere}
use Rattle.pair_rows.specs.inner.PairLemmas.{has_not}
use Rattle.outer_law.specs.Entries.{with_absent}
use Rattle.outer_law.proofs.CountingLaws.{has_some}
use Rattle.op_outer_cond.proofs.admission.are_outer.Goals as goal

pub returns-then-has_entry-clause-answer : goal.returns-then-has_entry-clause-answer
returns-then-has_entry-clause-answer c = (
  λ f. absurd (false≢true f),
  λ outer.
      let some = has_some c.args.memory.now.entries 0 0 (sym c.has_entry.ensures ∙ c.if-has_entry.true) in
      let none = outer.none in
      absurd (omega (arith, some, none)),
)

pub returns-then-not-are_there-clause-answer : goal.returns-then-not-are_there-clause-answer
returns-then-not-are_there-clause-answer c =
    let all = c.as_slice-entries.ensures ∙ c.in_ok-list.ensures.all in (
      λ f. absurd (false≢true f),
      λ outer.
          let there = subst (λ (es : Pairs). AreThere (with_absent [] c.args.s.now.rows) (with_absent [] c.args.t.now.rows) es) (sym all) (outer.there [] []) in
          absurd (false≢true (sym c.if-not-are_there.true ∙ (c.are_there.ensures [] []).1 there)),
    )

pub returns-clause-answer : goal.returns-clause-answer
returns-clause-answer c =
    let all = c.as_slice-entries.ensures ∙ c.in_ok-list.ensures.all in (
      λ yes. record {
        there = λ first second. subst (λ (es : Pairs). AreThere (with_absent first c.args.s.now.rows) (with_absent second c.args.t.now.rows) es) all ((c.are_there.ensures first second).0 c.if-not-are_there.false);
        none = has_not c.args.memory.now.entries 0 0 (sym c.has_entry.ensures ∙ c.if-has_entry.false);
        first = c.in_ok-are_halves.ensures.0 c.if-not-branch.false;
        second = c.in_ok-second.ensures.0 yes;
      },
      λ outer. c.in_ok-second.ensures.1 outer.second,
    )
