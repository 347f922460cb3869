use Rattle.std.proofs.Common.{sym, subst}
use Rattle.bidel_lex.specs.Tokens.{AreTokens}
use Rattle.bidel_script.proofs.TokenLaws.{are_tokens_drop, rest_is}
use Rattle.bidel_script.proofs.lengths.is_long_front.Goals as goal

pub is_long_behind-requires-clause-tokens : goal.is_long_behind-requires-clause-tokens
is_long_behind-requires-clause-tokens c =
    subst (AreTokens c.args.bytes.now) (sym (rest_is c.args.tokens.now c.args.used)) (are_tokens_drop c.args.bytes.now c.args.used c.args.tokens.now c.requires.tokens)
