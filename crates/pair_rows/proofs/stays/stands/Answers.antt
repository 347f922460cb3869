use Rattle.std.specs.Prelude.{nat_lt, ◌==◌, count_by}
use Rattle.std.proofs.Common.{ap, ◌∙◌, sym}
use Rattle.pair_rows.specs.Stays.{stands}
use Rattle.pair_rows.specs.Halves.{first_of, second_of, pick_of}
use Rattle.pair_rows.specs.declared.half.Half.{Half}
use Rattle.pair_rows.proofs.StayingLemmas.{some_of, stands_counted}
use Rattle.pair_rows.proofs.stays.stands.Goals as goal

pub returns-in-First : goal.returns-in-First
returns-in-First c =
    ap (nat_lt 0) c.pairs_of_first.ensures ∙ some_of (count_by (λ e. first_of e == c.args.id) c.args.memory.now.entries) ∙ stands_counted first_of c.args.memory.now.entries c.args.id
    ∙ ap (λ (half : Half). stands (pick_of half) c.args.memory.now.entries c.args.id) (sym c.in-First.is)

pub returns-in-Second : goal.returns-in-Second
returns-in-Second c =
    ap (nat_lt 0) c.pairs_of_second.ensures ∙ some_of (count_by (λ e. second_of e == c.args.id) c.args.memory.now.entries) ∙ stands_counted second_of c.args.memory.now.entries c.args.id
    ∙ ap (λ (half : Half). stands (pick_of half) c.args.memory.now.entries c.args.id) (sym c.in-Second.is)
