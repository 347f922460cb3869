use Rattle.std.proofs.Common.{◌≤◌, ap, sym, ◌∙◌, subst}
use Rattle.serde_json.specs.Data.{Data, depth}
use Rattle.serde_json.specs.Read.{max_depth}
use Rattle.serde_json.specs.Written.{has_float}
use Rattle.dump_values.specs.Dumps.{Dump, dump_json}
use Rattle.dump_file.specs.Stands.{Stands}
use Rattle.dump_file.specs.Told.{dump_told}
use Rattle.dump_file.proofs.DepthLemmas.{dump_within}
use Rattle.dump_file.proofs.JsonLemmas.{dump_whole}
use Rattle.dump_file.proofs.dumping.write_database.Goals as goal

pub returns-clause-value : goal.returns-clause-value
returns-clause-value c =
    c.in_ok-json.ensures.value
    ∙ ap (λ (d : Dump). dump_json d) (c.dumps_tell_the_state.ensures c.args.db.now c.graph-graph.ensures.kept)

pub returns-clause-whole : goal.returns-clause-whole
returns-clause-whole c = ap has_float c.in_ok-json.ensures.value ∙ dump_whole (dump_told c.args.db.now)

pub returns-clause-shallow : goal.returns-clause-shallow
returns-clause-shallow c = subst (λ (d : Data). depth d ≤ max_depth) (sym c.in_ok-json.ensures.value) (dump_within (dump_told c.args.db.now))

pub returns-clause-stands : goal.returns-clause-stands
returns-clause-stands c texts =
    subst (λ (d : Data). Stands d c.args.db.now) (sym c.in_ok-json.ensures.value)
    (c.databases_stand_for_their_dumps.ensures c.args.db.now
    (record { database = c.graph-graph.ensures.kept; texts = texts; names = c.in_ok-json.ensures.names; fits = c.look_at.ensures }))
