use Rattle.std.proofs.Common.{ℕ, List, sym, ap, ◌∙◌}
use Rattle.std.specs.Prelude.{remove}
use Rattle.std.specs.Str.{bytes_eq}
use Rattle.std.specs.Map.{keys_of}
use Rattle.version_graph.specs.Edges.{version_sets}
use Rattle.version_graph.proofs.ShedLemmas.{removed_set, place_is, none_removed}
use Rattle.version_graph.proofs.shed.sets_without.Goals as goal

pub returns-in-Some : goal.returns-in-Some
returns-in-Some c =
    let es = c.args.versions.now.entries in
    let test = bytes_eq c.args.name.now in
    c.remove.ensures.items ∙ ap (λ (l : List ℕ). remove l c.in-Some.at) c.in_ok-sets.ensures
    ∙ ap (λ (n : ℕ). remove (version_sets es) n) (sym (place_is test (keys_of es) c.in-Some.at (sym c.in-Some.ensures.index)))
    ∙ removed_set test es

pub returns-in-None : goal.returns-in-None
returns-in-None c =
    let es = c.args.versions.now.entries in
    let test = bytes_eq c.args.name.now in
    c.in_ok-sets.ensures ∙ sym (ap (λ l. version_sets l) (none_removed test es (sym c.in-None.ensures.found)))
