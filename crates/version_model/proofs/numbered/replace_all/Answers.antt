use Rattle.std.proofs.Common.{◌≡◌, List, [], ◌∷◌, Option, ap, sym, ◌∙◌}
use Rattle.std.proofs.lemmas.List.{reverse-append}
use mathlib.Core.List.{reverse}
use Rattle.version_model.specs.Kept.{value_of, latest_of, renewed}
use Rattle.version_model.specs.declared.numbered.Numbered.{Numbered}
use Rattle.version_model.proofs.NumberedLaws.{renewed_more}
use Rattle.version_model.proofs.numbered.replace_all.Goals as goal

pub loop-item-preserved : goal.loop-item-preserved
loop-item-preserved g c = record {
  values = λ n.
      let item = c.in-Some.item in
      let rest = c.pop.new.self.items in
      let old = value_of c.loop-item.items.items n in
      let turned : reverse c.loop-item.left.items ≡ item ∷ reverse rest = ap (λ (l : List (Numbered _)). reverse l) c.in-Some.ensures.items ∙ reverse-append rest (item ∷ []) in
      ap (λ (o : Option _). renewed o (latest_of (reverse rest) n)) (c.replace.ensures.values n)
      ∙ renewed_more old item (reverse rest) n
      ∙ ap (λ (l : List (Numbered _)). renewed old (latest_of l n)) (sym turned)
      ∙ c.loop-item.invariant.values n;
  numbers = c.replace.ensures.numbers ∙ c.loop-item.invariant.numbers;
}
