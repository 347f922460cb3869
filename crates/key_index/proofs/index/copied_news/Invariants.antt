use Rattle.std.proofs.Common.{◌≡◌, take}
use Rattle.key_index.specs.Changes.{news}
use Rattle.key_index.proofs.index.copied_news.Given as goal

abbrev pub invariant-loop-change : goal.invariant-loop-change
invariant-loop-change l = l.made.items ≡ news (take l.change-index l.changes)
