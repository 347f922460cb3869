use Rattle.std.proofs.Common.{length}
use Rattle.run_words.proofs.numbers.+are_digits.Given as goal

-- proposed from what the function passes where it calls itself
abbrev pub decreases-are_digits : goal.decreases-are_digits
decreases-are_digits l = length l.bytes.now
