use Rattle.op_build.proofs.BuiltLaws.{built_suits}
use Rattle.op_build.proofs.laws.built_edges_keep_their_form.Goals as goal

pub returns-clause-few : goal.returns-clause-few
returns-clause-few c = λ set next text e is. (built_suits set next text e is).few

pub returns-clause-sources : goal.returns-clause-sources
returns-clause-sources c = λ set next text e is. (built_suits set next text e is).sources

pub returns-clause-text : goal.returns-clause-text
returns-clause-text c = λ set next text e is. (built_suits set next text e is).keeps

pub returns-clause-local : goal.returns-clause-local
returns-clause-local c = λ set next text e is. (built_suits set next text e is).local
