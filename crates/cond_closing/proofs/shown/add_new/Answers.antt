use Rattle.std.proofs.Common.{rules, ◌≡◌, List, subst}
use Rattle.par_base.specs.declared.value.Value.{Value}
use Rattle.cond_closing.specs.Matching.{FindsMatches}
use Rattle.cond_closing.proofs.shown.add_new.Goals as goal

pub returns-in_ok-add_matches-clause-new : goal.returns-in_ok-add_matches-clause-new
returns-in_ok-add_matches-clause-new g c row is =
    let same : c.in-Some.row ≡ row = search rules in
    subst (λ (r : List Value). FindsMatches (g.M.Matching.joins c.args.matching.now) (g.M.Matching.knows c.args.matching.now) c.args.half c.add_matches.new.ids r) same c.in_ok-add_matches.ensures.matches
