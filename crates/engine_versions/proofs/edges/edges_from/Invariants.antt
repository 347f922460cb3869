use Rattle.std.proofs.Common.{◌≡◌, ◌++◌, drop, map, Ok}
use Rattle.statements.specs.Views.{op_view}
use Rattle.par_base.specs.Checked.{◌then◌}
use Rattle.engine_versions.specs.Evolve.{edges_on}
use Rattle.engine_versions.proofs.edges.edges_from.Given as goal

abbrev pub invariant-loop-text : goal.invariant-loop-text
invariant-loop-text l =
    edges_on l.fn.tables l.fn.counts l.next (map op_view l.texts)
    ≡ ((edges_on l.set l.reached l.next (map op_view (drop l.text-index l.texts))) then λ rest. Ok (l.edges ++ rest))
