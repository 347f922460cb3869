use Rattle.op_build.proofs.BuiltLaws.{built_suits}
use Rattle.op_build.proofs.TableListsLaws.{headings_taken-of}
use Rattle.op_build.proofs.laws.built_edges_fit.Goals as goal

pub returns-clause-set : goal.returns-clause-set
returns-clause-set c = λ set next text e tables is. (built_suits set next text e is).set_fits tables

pub returns-clause-tables : goal.returns-clause-tables
returns-clause-tables c = λ set next text e tables is. (built_suits set next text e is).fits tables

pub returns-clause-sources : goal.returns-clause-sources
returns-clause-sources c = headings_taken-of
