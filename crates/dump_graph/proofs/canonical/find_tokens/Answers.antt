use Rattle.std.proofs.Common.{subst, ◌≡◌, false}
use Rattle.bidel_lex.specs.declared.tokens.Lexed.{Lexed}
use Rattle.bidel_lex.specs.Tokens.{is_token}
use Rattle.dump_graph.proofs.TextLemmas.{found_tokens, no_token}
use Rattle.dump_graph.proofs.canonical.find_tokens.Goals as goal

pub returns-clause-found : goal.returns-clause-found
returns-clause-found c =
    found_tokens _ _ _ c.loop-token.invariant.found
    (subst (λ (last : Lexed). is_token last ≡ false) c.next_token.ensures.value (no_token _ c.in_default.not-Token))
