use Rattle.std.proofs.Common.{List, ℕ, None, subst}
use Rattle.dump_graph.specs.inner.Texts.{FindsTokens}
use Rattle.dump_graph.proofs.TextLemmas.{no_text}
use Rattle.dump_graph.proofs.canonical.read_operator.Goals as goal

pub returns-in-None : goal.returns-in-None
returns-in-None c =
    let none : FindsTokens c.as_bytes.result.now None = rw c.in-None.is at c.in_ok-tokens.ensures in
    no_text c.operators_are_said.ensures c.args.text.now (subst (λ (w : List ℕ). FindsTokens w None) c.as_bytes.ensures.value none)
