use Rattle.std.proofs.Common.{List, ℕ, subst}
use Rattle.bidel_expr.specs.Lexemes.{lexemes}
use Rattle.bidel_parser.specs.Parsing.{NoOperator}
use Rattle.dump_graph.proofs.TextLemmas.{no_operator}
use Rattle.dump_graph.proofs.canonical.read_tokens.Goals as goal

pub returns-in-None : goal.returns-in-None
returns-in-None c =
    let none : NoOperator (lexemes c.as_bytes.result.now c.args.tokens.now) = rw c.in-None.is at c.in_ok-operator.ensures in
    no_operator c.operators_are_said.ensures c.args.text.now c.args.tokens.now c.requires
    (subst (λ (w : List ℕ). NoOperator (lexemes w c.args.tokens.now)) c.as_bytes.ensures.value none)
