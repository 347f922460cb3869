use Rattle.std.proofs.Common.{◌≡◌, ◌+◌, ◌-◌, ◌*◌, ℕ}
use Rattle.expr_lang.specs.Terms.{text_term, Binary}
use Rattle.phrases.specs.Chains.{joined}
use Rattle.bidel_expr.specs.Operators.{op_of}
use Rattle.bidel_expr.specs.Expressions.{operand_item, primary_item}
use Rattle.bidel_expr.specs.ReadAnswers.{ahead}
use Rattle.bidel_expr.specs.declared.levels.Level.{Level}
use Rattle.bidel_expr.specs.declared.levels.Level.TheVariants.{Disjunction, Conjunction, Sum, Product}
use Rattle.bidel_expr.proofs.expressions.+expression.Given as goal

-- above this stands what a level calls; below it what calls a level
abbrev rank : Level → ℕ
rank Disjunction = 24
rank Conjunction = 20
rank Sum = 12
rank Product = 8

-- the deepest parentheses first, then the level, then the prefix operators
abbrev measure : ℕ → ℕ → ℕ → ℕ
measure depth place ops = (32 * depth + place) * 4294967296 + ops

abbrev pub decreases-chained : goal.decreases-chained
decreases-chained l = measure l.depth (rank l.level + 3) 0

abbrev pub decreases-further : goal.decreases-further
decreases-further l = measure l.depth (rank l.level + 2) 0

abbrev pub decreases-operand : goal.decreases-operand
decreases-operand l = measure l.depth (rank l.level + 1) 0

abbrev pub decreases-negation : goal.decreases-negation
decreases-negation l = measure l.depth 18 l.limits.operators

abbrev pub decreases-comparison : goal.decreases-comparison
decreases-comparison l = measure l.depth 17 0

abbrev pub decreases-compared : goal.decreases-compared
decreases-compared l = measure l.depth 16 0

abbrev pub decreases-unary : goal.decreases-unary
decreases-unary l = measure l.depth 4 l.limits.operators

abbrev pub decreases-primary : goal.decreases-primary
decreases-primary l = measure l.depth 2 0

abbrev pub invariant-further-loop-turn : goal.invariant-further-loop-turn
invariant-further-loop-turn l = record {
  same : joined Binary (op_of l.level) (operand_item l.level (primary_item l.depth)) (l.fn.first.limits.operators - l._turn) (text_term l.tree) l.limits.operators l.limits.parentheses (ahead l.rest)
      ≡ joined Binary (op_of l.level) (operand_item l.level (primary_item l.depth)) l.fn.first.limits.operators (text_term l.fn.first.tree) l.fn.first.limits.operators l.fn.first.limits.parentheses (ahead l.fn.cursor);
}
