use Rattle.inverda_run.proofs.LoadedLemmas.{loaded_built, loaded_leads}
use Rattle.inverda_run.proofs.begin.load_from.Goals as goal

pub resumed-requires-clause-built : goal.resumed-requires-clause-built
resumed-requires-clause-built g c = let dump = c.in-Ok.ensures.0 in loaded_built dump.0 c.in-Ok.loaded dump.2

pub resumed-requires-clause-leads : goal.resumed-requires-clause-leads
resumed-requires-clause-leads g c = let dump = c.in-Ok.ensures.0 in loaded_leads dump.0 c.in-Ok.loaded dump.2
