use Rattle.std.proofs.Common.{◌∙◌, sym, ap, ℕ}
use Rattle.bidel_lex.specs.Next.{next_of}
use Rattle.bidel_lex.specs.Tokens.{is_token}
use Rattle.std.specs.Prelude.{true}
use Rattle.bidel_script.specs.Tails.{known_of}
use Rattle.bidel_script.proofs.LengthLemmas.{token_from, none_from, not_token}
use Rattle.bidel_script.proofs.lengths.known_from.Goals as goal

pub returns-in-Token : goal.returns-in-Token
returns-in-Token c = λ at le start.
    let found = ap (λ (n : ℕ). next_of c.args.bytes.now n true) (sym start) ∙ sym c.next_token.ensures.value ∙ c.in-Token.is in
    c.shown.ensures
    ∙ ap (known_of c.args.bytes.now c.args.tail) (sym (token_from c.args.bytes.now c.args.tokens.now at c.in-Token.token c.requires.tokens found))

pub returns-in_default : goal.returns-in_default
returns-in_default c = λ at le start.
    let same = ap (λ (n : ℕ). next_of c.args.bytes.now n true) (sym start) ∙ sym c.next_token.ensures.value in
    c.shown_behind.ensures
    ∙ ap (known_of c.args.bytes.now c.args.tail)
    (sym (none_from c.args.bytes.now c.args.tokens.now at c.requires.tokens (ap is_token same ∙ not_token c.next_token.result c.in_default.not-Token)))
