use Rattle.session_laws.proofs.AloneLemmas.{need_the_data_alone}
use Rattle.session_laws.proofs.laws.full_statements_need_the_data_alone.Goals as goal

pub returns : goal.returns
returns c = need_the_data_alone
