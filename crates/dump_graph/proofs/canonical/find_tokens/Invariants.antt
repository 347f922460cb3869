use Rattle.std.proofs.Common.{◌≤◌, ◌-◌, ◌++◌, List, length, true}
use Rattle.bidel_lex.specs.declared.tokens.Token.{Token}
use Rattle.bidel_lex.specs.declared.tokens.Lexed.{Lexed}
use Rattle.bidel_lex.specs.Tokens.{HasTokens}
use Rattle.dump_graph.proofs.canonical.find_tokens.Given as goal

-- the tokens so far, and those that follow, are the tokens of the bytes
abbrev pub invariant-loop-token : goal.invariant-loop-token
invariant-loop-token l = record {
  within : l.from ≤ length l.bytes;
  found : (more : List Token) (last : Lexed) → HasTokens true l.bytes l.from more last → HasTokens true l.bytes 0 (l.tokens.items ++ more) last;
}

abbrev pub decreases-loop-token : goal.decreases-loop-token
decreases-loop-token l = length l.bytes - l.from
