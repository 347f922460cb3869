use Rattle.std.proofs.Common.{◌∙◌}
use Rattle.kept_changes.proofs.ChangesLaws.{no_changes}
use Rattle.kept_changes.proofs.StayLaws.{auxes_stay, memories_stay, tables_stay}
use Rattle.version_model.specs.Kept.{auxes_at}
use Rattle.write_plans.proofs.laws.writes_stay_undoable.Goals as goal

pub returns : goal.returns
returns g c = λ before now again undo undoes same holds.
    let led = undoes.leads in
    record {
      kept = undoes.kept;
      leads = record {
        graph = same.graph ∙ led.graph;
        layout = same.layout ∙ led.layout;
        ids = led.ids;
        stored = tables_stay before.stored now.stored again.stored undo.stored led.stored same.tables same.stored holds.stored;
        auxes = auxes_stay before.aux now.aux again.aux undo.auxes led.auxes same.auxes (λ n. same.aux n ∙ no_changes (auxes_at now.aux n)) holds.aux;
        memories = memories_stay before.memories now.memories again.memories undo.memories led.memories same.memories same.memory holds.memory;
      };
    }
