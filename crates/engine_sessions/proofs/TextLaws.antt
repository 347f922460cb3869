-- The rows of a CSV text have no text that is longer than it.
use Rattle.std.specs.Prelude.{◌≤◌, ℕ, List, length, get_or, IsUtf8}
use Rattle.std.specs.List.{All}
use Rattle.std.proofs.Common.{arith}
use Rattle.par_base.specs.declared.value.Value.{Value}
use Rattle.par_base.specs.declared.value.Value.TheVariants.{Null, Int, Text, Reference}
use Rattle.expr_lang.specs.Operations.{text_limit}
use Rattle.statements.specs.Texts.{IsTextWithin, RowTexts, ValueTexts}
use Rattle.csv_io.specs.Tables.{csv_rows}
use Rattle.csv_io.proofs.TextLaws.{rows_within, rows_text}

shorter_value : (m : ℕ) (v : Value) → m ≤ text_limit → ValueTexts (λ bytes. length bytes ≤ m) v → ValueTexts IsUtf8 v → ValueTexts (IsTextWithin text_limit) v
shorter_value m Null le is text = tt
shorter_value m (Int number) le is text = text
shorter_value m (Text bytes) le is text = (omega (arith, le, is), text)
shorter_value m (Reference id) le is text = tt

-- where the text is one of a statement, so are those of its rows
pub import_texts : (text : List ℕ) → IsTextWithin text_limit text → All (RowTexts (IsTextWithin text_limit)) (csv_rows text)
import_texts text is = λ k d lt. λ j e within.
    shorter_value (length text) (get_or (get_or (csv_rows text) k d) j e) is.0 (rows_within text k d lt j e within) (rows_text text is.1 k d lt j e within)
