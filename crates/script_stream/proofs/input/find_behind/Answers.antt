use Rattle.std.proofs.Common.{subst, sym}
use Rattle.bidel_lex.specs.Tokens.{AreTokens}
use Rattle.bidel_script.proofs.TokenLaws.{are_tokens_drop, rest_is}
use Rattle.script_stream.proofs.input.find_behind.Goals as goal

pub find_front-requires-clause-tokens : goal.find_front-requires-clause-tokens
find_front-requires-clause-tokens c =
    subst (AreTokens c.args.bytes.now) (sym (rest_is c.args.tokens.now c.args.used)) (are_tokens_drop c.args.bytes.now c.args.used c.args.tokens.now c.requires.tokens)
