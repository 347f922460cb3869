-- What the tables that were found are for contracts.
use Rattle.op_any.specs.BuildJoins.{Parting, Sources}
use Rattle.op_build.specs.declared.plan_decompose.FoundParts.{FoundParts}
use Rattle.op_build.specs.declared.plan_joins.FoundSources.{FoundSources}

abbrev pub parts_view : FoundParts → Parting
parts_view f = record { source = f.source.now; first = f.first; second = f.second }

abbrev pub sources_view : FoundSources → Sources
sources_view f = record { first = f.first.now; second = f.second.now }
