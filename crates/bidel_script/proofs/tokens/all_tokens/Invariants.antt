use Rattle.std.proofs.Common.{◌≡◌, ◌≤◌, ◌-◌, ◌++◌, List, length}
use Rattle.bidel_lex.specs.declared.tokens.Token.{Token}
use Rattle.bidel_lex.specs.declared.tokens.Lexed.{Lexed}
use Rattle.bidel_lex.specs.Tokens.{HasTokens}
use Rattle.bidel_script.specs.Tails.{last_end}
use Rattle.bidel_script.proofs.tokens.all_tokens.Given as goal

-- the tokens so far, and those that follow, are the tokens of the bytes
abbrev pub invariant-loop-token : goal.invariant-loop-token
invariant-loop-token l = record {
  within : l.from ≤ length l.bytes;
  end : l.from ≡ last_end 0 l.tokens.items;
  found : (more : List Token) (last : Lexed) → HasTokens l.ended l.bytes l.from more last → HasTokens l.ended l.bytes 0 (l.tokens.items ++ more) last;
}

abbrev pub decreases-loop-token : goal.decreases-loop-token
decreases-loop-token l = length l.bytes - l.from
