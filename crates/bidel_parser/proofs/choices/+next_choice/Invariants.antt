use Rattle.std.proofs.Common.{length}
use Rattle.bidel_parser.proofs.choices.+next_choice.Given as goal

abbrev pub decreases-next_choice : goal.decreases-next_choice
decreases-next_choice g l = length l.choices.now
