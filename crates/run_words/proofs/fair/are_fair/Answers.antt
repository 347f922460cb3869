use Rattle.std.proofs.Common.{rules, string_bytes, String, Global, subst}
use Rattle.std.specs.List.{All}
use Rattle.std.proofs.lemmas.List.Elements.{All-more}
use Rattle.std.proofs.lemmas.List.{take_all}
use Rattle.run_words.specs.inner.Reading.{IsFair}
use Rattle.run_words.proofs.fair.are_fair.Goals as goal

pub loop-word-preserved : goal.loop-word-preserved
loop-word-preserved c =
    All-more (λ (word : String Global). IsFair (string_bytes word)) c.args.words.now c.loop-word.word-index c.word-item.result (search rules) c.loop-word.invariant
    (search rules)

pub returns : goal.returns
returns c = (
  λ _. subst (All (λ (word : String Global). IsFair (string_bytes word))) (take_all c.loop-word.word-index c.args.words.now (search rules)) c.loop-word.invariant,
  λ _. search rules,
)
