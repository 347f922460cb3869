use Rattle.session_tests.proofs.IdleLemmas.{still_idle}
use Rattle.session_tests.proofs.commits.commit_one.Goals as goal

pub returns : goal.returns
returns g c =
    let idle = c.requires.idle in
    record { idle = still_idle _ _ _ idle.0 c.commit_all.result idle.1.1 (c.commit_all.ensures idle.0 idle.1.0 idle.1.1) }
