use Rattle.script_stream.proofs.HoldLaws.{place_same}
use Rattle.script_stream.proofs.input.place_after.Goals as goal

pub returns : goal.returns
returns c = place_same c.place_from.result _ c.place_from.ensures.line c.place_from.ensures.column
