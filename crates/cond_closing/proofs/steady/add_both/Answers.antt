use Rattle.std.proofs.Common.{◌++◌, [], ◌∷◌, sym, ◌∙◌}
use Rattle.id_closing.proofs.FoundLaws.{end_stays}
use Rattle.cond_closing.proofs.StillLemmas.{both_added}
use Rattle.cond_closing.proofs.steady.add_both.Goals as goal

pub returns-in_ok-push-2-clause-both : goal.returns-in_ok-push-2-clause-both
returns-in_ok-push-2-clause-both c =
    rw (c.in_ok-push-2.ensures.ok, c.in_ok-push.ensures.ok) (both_added c.args.memory.now.entries c.args.id c.in-Some.a c.in-Some.b c.args.ids.now (sym c.get.ensures ∙ c.in-Some.is))

pub returns-in_ok-push-2-clause-stay : goal.returns-in_ok-push-2-clause-stay
returns-in_ok-push-2-clause-stay c q h =
    rw (c.in_ok-push-2.ensures.ok, c.in_ok-push.ensures.ok) (end_stays (c.args.ids.now ++ c.in-Some.a ∷ []) c.in-Some.b q (end_stays c.args.ids.now c.in-Some.a q h))
