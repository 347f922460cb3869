use Rattle.bidel_script.proofs.front.stop_open.Goals as goal

pub returns-then-branch : goal.returns-then-branch
returns-then-branch c = c.in_ok-is_long_open.ensures.long c.if-branch.true
