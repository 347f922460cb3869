use Rattle.bidel_expr.proofs.TokensWithinLaws.{tokens_within}
use Rattle.bidel_script.proofs.lengths.is_shared_next.Goals as goal

pub invariant_of-cursor : goal.invariant_of-cursor
invariant_of-cursor c = record { within = tokens_within c.args.bytes.now c.args.tokens.now c.requires }
