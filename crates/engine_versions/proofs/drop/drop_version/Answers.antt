use Rattle.engine_versions.proofs.LayoutLemmas.{drop_gives, drop_same, layout_cut}
use Rattle.engine_versions.proofs.KeptTextLaws.{dropped_built}
use Rattle.engine_versions.proofs.drop.drop_version.Goals as goal

pub returns-clause-gives : goal.returns-clause-gives
returns-clause-gives g c = drop_gives c.args.database.now c.drop_db.new.db c.args.name.now c.drop_db.result c.drop_db.ensures

pub returns-clause-same : goal.returns-clause-same
returns-clause-same g c = drop_same c.args.database.now c.drop_db.new.db c.args.name.now c.drop_db.result c.drop_db.ensures

pub returns-clause-layout : goal.returns-clause-layout
returns-clause-layout g c = layout_cut c.args.database.now c.graph-graph.ensures.kept c.drop_db.new.db c.args.name.now c.drop_db.result c.drop_db.ensures

pub returns-clause-built : goal.returns-clause-built
returns-clause-built g c = dropped_built c.args.database.now c.drop_db.new.db c.args.name.now c.drop_db.result c.drop_db.ensures
