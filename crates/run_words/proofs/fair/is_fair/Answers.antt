use Rattle.std.proofs.Common.{◌≡◌, ◌≢◌, [], ◌∷◌, rules, arith}
use Rattle.std.proofs.lemmas.Str.Pattern.{split_parts}
use Rattle.clap.proofs.CutLemmas.{Lacks}
use Rattle.run_words.proofs.FairLemmas.{bare_is_fair}
use Rattle.run_words.proofs.fair.is_fair.Goals as goal

pub returns-in-None : goal.returns-in-None
returns-in-None c =
    let lacks : Lacks 61 c.in-Some.option.now = rw c.in-None.is at (split_parts 61 c.in-Some.option.now c.split_once.result c.split_once.ensures.cases (omega arith)) in
    let word_is : c.args.word.now ≡ 45 ∷ 45 ∷ c.in-Some.option.now = search rules in
    let some : c.in-Some.option.now ≢ [] = search rules in
    (λ _. bare_is_fair c.args.word.now c.in-Some.option.now word_is some lacks, λ _. search rules)
