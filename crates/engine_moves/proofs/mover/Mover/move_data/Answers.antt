use Rattle.std.proofs.Common.{Bool, List, sym, subst}
use Rattle.par_base.specs.declared.limits.Target.{Target}
use Rattle.engine_core.specs.Kept.{Answers}
use Rattle.engine_moves.specs.Act.{moved, started}
use Rattle.engine_moves.specs.Moving.{moving_of}
use Rattle.engine_moves.proofs.mover.Mover.move_data.Goals as goal

pub returns-then-in_steps-clause-answers : goal.returns-then-in_steps-clause-answers
returns-then-in_steps-clause-answers g c =
    let e = subst (λ (l : List Target). Answers (started (moving_of c.args.self.now) l) c.start.result (moving_of c.start.new.self)) c.as_slice.ensures c.start.ensures.answers in
    subst (λ (b : Bool). Answers (moved (moving_of c.args.self.now) c.args.named b) c.start.result (moving_of c.start.new.self)) (sym c.if-in_steps.true) e
