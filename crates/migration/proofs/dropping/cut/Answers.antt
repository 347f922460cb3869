use Rattle.std.proofs.Common.{filter, refl, sym, ap, ◌∙◌, subst}
use Rattle.version_graph.specs.Dropped.{dropped}
use Rattle.version_graph.specs.Edges.{Drawn, is_in, made, numbers}
use Rattle.version_graph.specs.Finished.{IsFinished}
use Rattle.version_graph.specs.Tables.{table_numbers}
use Rattle.layout_rules.specs.Changes.{dropped_layout}
use Rattle.version_model.specs.Databases.{dropped_database}
use Rattle.version_model.specs.declared.numbered.Numbered.{Numbered}
use Rattle.storage_law.specs.Changes.{GoFromSources}
use Rattle.db_state.specs.Fields.{IsDatabase, database_for}
use Rattle.db_state.specs.declared.parts.Parts.{Parts}
use Rattle.migration.proofs.CutLemmas.{cut_database, cut_is, cut_kept}
use Rattle.migration.proofs.dropping.cut.Goals as goal

pub put_parts-requires : goal.put_parts-requires
put_parts-requires g c =
    let took = c.take_parts-graph.result in
    let name = c.args.name.now in
    let es = c.drop_version.new.self.edges in
    let new : Parts _ = record { graph = c.drop_version.new.self; layout = record { operators = c.from_vec.result }; stored = c.from_vec-2.result; aux = c.from_vec-3.result; memories = c.from_vec-4.result; ids = took.ids } in
    let aside = subst (λ (p : Parts _). GoFromSources p.graph.edges (dropped p.graph name).edges p.layout.operators) (sym c.take_parts-graph.ensures.parts) c.requires.aside in
    let is = cut_is took new name c.drop_version.ensures.dropped
    (c.from_vec.ensures ∙ c.keep_live.ensures ∙ ap (filter (λ n. is_in n (numbers es))) c.into_vec-sides.ensures)
    (c.from_vec-2.ensures ∙ c.keep_live_tables.ensures ∙ ap (filter (λ (i : Numbered _). is_in i.number (table_numbers (made es)))) c.into_vec-tables.ensures)
    (c.from_vec-3.ensures ∙ c.keep_live_operators.ensures ∙ ap (filter (λ (i : Numbered _). is_in i.number (numbers es))) c.into_vec-auxes.ensures)
    (c.from_vec-4.ensures ∙ c.keep_live_operators-2.ensures ∙ ap (filter (λ (i : Numbered _). is_in i.number (numbers es))) c.into_vec-pairs.ensures) refl in
    let finished = subst (λ (d : Drawn _). IsFinished d) c.drop_version.ensures.dropped c.drop_version.ensures.finished in
    subst (λ (p : Parts _). IsDatabase g.O.Operator.meaning p) is (cut_kept g.O.Operator.meaning g.met.O.Operator.laws took c.take_parts-graph.ensures.kept name aside finished)

pub returns-clause-database : goal.returns-clause-database
returns-clause-database g c =
    let took = c.take_parts-graph.result in
    let name = c.args.name.now in
    let es = c.drop_version.new.self.edges in
    let new : Parts _ = record { graph = c.drop_version.new.self; layout = record { operators = c.from_vec.result }; stored = c.from_vec-2.result; aux = c.from_vec-3.result; memories = c.from_vec-4.result; ids = took.ids } in
    let aside = subst (λ (p : Parts _). GoFromSources p.graph.edges (dropped p.graph name).edges p.layout.operators) (sym c.take_parts-graph.ensures.parts) c.requires.aside in
    let is = cut_is took new name c.drop_version.ensures.dropped
    (c.from_vec.ensures ∙ c.keep_live.ensures ∙ ap (filter (λ n. is_in n (numbers es))) c.into_vec-sides.ensures)
    (c.from_vec-2.ensures ∙ c.keep_live_tables.ensures ∙ ap (filter (λ (i : Numbered _). is_in i.number (table_numbers (made es)))) c.into_vec-tables.ensures)
    (c.from_vec-3.ensures ∙ c.keep_live_operators.ensures ∙ ap (filter (λ (i : Numbered _). is_in i.number (numbers es))) c.into_vec-auxes.ensures)
    (c.from_vec-4.ensures ∙ c.keep_live_operators-2.ensures ∙ ap (filter (λ (i : Numbered _). is_in i.number (numbers es))) c.into_vec-pairs.ensures) refl in
    ap (λ (p : Parts _). database_for g.O.Operator.meaning p) (c.put_parts.ensures ∙ sym is)
    ∙ cut_database g.O.Operator.meaning g.met.O.Operator.laws took c.take_parts-graph.ensures.kept name aside
    ∙ ap (λ (p : Parts _). dropped_database (database_for g.O.Operator.meaning p) name) c.take_parts-graph.ensures.parts

pub returns-clause-layout : goal.returns-clause-layout
returns-clause-layout g c =
    let name = c.args.name.now in
    ap (λ (p : Parts _). p.layout.operators) c.put_parts.ensures ∙ c.from_vec.ensures ∙ c.keep_live.ensures
    ∙ ap (λ (d : Drawn _). filter (λ n. is_in n (numbers d.edges)) c.into_vec-sides.result.items) c.drop_version.ensures.dropped
    ∙ ap (filter (λ n. is_in n (numbers (dropped c.take_parts-graph.result.graph name).edges))) c.into_vec-sides.ensures
    ∙ ap (λ (p : Parts _). dropped_layout p.graph name p.layout.operators) c.take_parts-graph.ensures.parts
