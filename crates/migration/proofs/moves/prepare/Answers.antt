use Rattle.std.proofs.Common.{refl, ap, ◌∙◌}
use Rattle.layout_rules.specs.declared.layout.Layout.{Layout}
use Rattle.version_model.specs.declared.progress.Before.{Before}
use Rattle.version_model.specs.declared.progress.Made.{Made}
use Rattle.migration.specs.declared.moved.Moved.{Moved}
use Rattle.migration.proofs.PrepareLemmas.{changing_is, may_make, may_read, prepared, read_whole}
use Rattle.migration.proofs.moves.prepare.Goals as goal

pub read_over-requires-clause-covers : goal.read_over-requires-clause-covers
read_over-requires-clause-covers g c =
    let old = c.args.db.now in
    let sides = c.as_slice-layout.ensures ∙ ap (λ (l : Layout). l.operators) c.layout.ensures in
    let same = changing_is c.graph-graph.result.now old.graph c.as_slice-layout.result.now old.layout.operators c.as_slice.result.now c.args.goal.operators c.graph-graph.ensures.graph sides c.as_slice.ensures in
    may_read g.O.Operator.meaning old c.graph-graph.ensures.kept c.args.goal.operators c.requires.valid c.as_slice-2.result.now (c.as_slice-2.ensures ∙ c.in_ok-operators.ensures ∙ same)

pub auxes_in-requires : goal.auxes_in-requires
auxes_in-requires g c =
    let old = c.args.db.now in
    let sides = c.as_slice-layout.ensures ∙ ap (λ (l : Layout). l.operators) c.layout.ensures in
    let same = changing_is c.graph-graph.result.now old.graph c.as_slice-layout.result.now old.layout.operators c.as_slice.result.now c.args.goal.operators c.graph-graph.ensures.graph sides c.as_slice.ensures in
    let b : Before = record { tables = c.stored-2.result; memories = c.memories.result; next = c.next.result } in
    let done : Made = record { tables = c.in_ok-read.read; memories = c.new.result; ids = c.copy.result } in
    let whole = read_whole g.O.Operator.meaning old c.as_slice-2.result.now c.in_ok-read.read c.in_ok-read.ensures.read in
    may_make g.O.Operator.meaning old c.graph-graph.ensures.kept c.args.goal.operators c.requires.valid c.as_slice-2.result.now (c.as_slice-2.ensures ∙ c.in_ok-operators.ensures ∙ same)
    b done whole c.graph-graph.result.now c.graph-graph.ensures.graph c.stored-2.ensures c.memories.ensures c.new.ensures c.as_slice-4.result.now (c.as_slice-4.ensures ∙ c.in_ok-operators.ensures ∙ same)

pub returns-clause-leads : goal.returns-clause-leads
returns-clause-leads g c =
    let old = c.args.db.now in
    let sides = c.as_slice-layout.ensures ∙ ap (λ (l : Layout). l.operators) c.layout.ensures in
    let same = changing_is c.graph-graph.result.now old.graph c.as_slice-layout.result.now old.layout.operators c.as_slice.result.now c.args.goal.operators c.graph-graph.ensures.graph sides c.as_slice.ensures in
    let b : Before = record { tables = c.stored-2.result; memories = c.memories.result; next = c.next.result } in
    let done : Made = record { tables = c.in_ok-read.read; memories = c.new.result; ids = c.copy.result } in
    let whole = read_whole g.O.Operator.meaning old c.as_slice-2.result.now c.in_ok-read.read c.in_ok-read.ensures.read in
    let moved : Moved = record { layout = c.args.goal; stored = c.in_ok-stored.stored; auxes = c.in_ok-auxes.auxes; flips = c.len.result } in
    prepared g.O.Operator.meaning old c.graph-graph.ensures.kept c.args.goal.operators c.requires.valid c.as_slice-2.result.now (c.as_slice-2.ensures ∙ c.in_ok-operators.ensures ∙ same)
    b done whole c.graph-graph.result.now c.graph-graph.ensures.graph c.stored-2.ensures c.memories.ensures c.new.ensures
    g.met.O.Operator.laws moved refl c.requires.ascending c.stored.result.now c.as_slice-3.result.now c.stored.ensures c.as_slice-3.ensures c.in_ok-stored.ensures c.as_slice-4.result.now (c.as_slice-4.ensures ∙ c.in_ok-operators.ensures ∙ same) c.in_ok-auxes.ensures.auxes
