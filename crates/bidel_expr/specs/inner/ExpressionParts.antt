-- What contracts see of a part of an expression.
use Rattle.std.specs.Prelude.{Result}
use Rattle.expr_lang.specs.Terms.{text_term}
use Rattle.phrases.specs.Chains.{Part as PartOf, Item}
use Rattle.bidel_expr.specs.Lexemes.{Lexeme}
use Rattle.bidel_expr.specs.Expressions.{Tree}
use Rattle.bidel_expr.specs.ReadAnswers.{ReadsAs}
use Rattle.bidel_expr.specs.declared.cursor.Cursor.{Cursor}
use Rattle.bidel_expr.specs.declared.expressions.Limits.{Limits}
use Rattle.bidel_expr.specs.declared.expressions.Part.{Part}
use Rattle.bidel_expr.specs.declared.read_error.ReadError.{ReadError}

-- its tree, and the operators and opening parentheses that may still come
abbrev pub part_of : Part → PartOf Tree
part_of part = (text_term part.tree, part.limits.operators, part.limits.parentheses)

-- a part and the place behind it: what is read from here, within the limits
abbrev pub GivesPart : Item Lexeme Tree → Limits → Cursor → Result (Part × Cursor) ReadError → Type 0
GivesPart item limits = ReadsAs part_of (item limits.operators limits.parentheses)
