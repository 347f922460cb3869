use Rattle.kept_keys.proofs.KeptLaws.{same_right, prepared_ready, committed_right}
use Rattle.kept_keys.proofs.laws.kept_keys_stay_right.Goals as goal

pub returns-clause-same : goal.returns-clause-same
returns-clause-same c = same_right

pub returns-clause-ready : goal.returns-clause-ready
returns-clause-ready c = prepared_ready

pub returns-clause-committed : goal.returns-clause-committed
returns-clause-committed c = committed_right
