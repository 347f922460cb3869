use Rattle.csv_io.proofs.TextLaws.{rows_text, rows_within}
use Rattle.csv_io.proofs.laws.texts_are_within.Goals as goal

pub returns-clause-within : goal.returns-clause-within
returns-clause-within c = rows_within

pub returns-clause-text : goal.returns-clause-text
returns-clause-text c = rows_text
