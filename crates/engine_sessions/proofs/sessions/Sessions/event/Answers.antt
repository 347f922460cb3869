use Rattle.engine_sessions.specs.Standing.{standing_of}
use Rattle.engine_sessions.proofs.FullLemmas.{act_counted}
use Rattle.engine_sessions.proofs.sessions.Sessions.event.Goals as goal

pub returns-in_default : goal.returns-in_default
returns-in_default g c =
    let counts = act_counted (standing_of c.args.self.now) c.args.statement c.in_default.not-Use c.in_default.not-Session c.in_default.not-Advise in
    record {
      answers = rw counts c.carry_out.ensures.answers;
      same = c.carry_out.ensures.same;
      answer = c.carry_out.ensures.answer;
      texts = c.carry_out.ensures.texts;
      limit = c.carry_out.ensures.limit;
    }
