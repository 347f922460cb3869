use Rattle.std.proofs.Common.{ℕ, ap}
use Rattle.std.specs.Option.{option_copied}
use Rattle.db_evolution.proofs.CallLemmas.{database_then, evolves_then, graph_left, layout_then, may_fill_then, refused_then, still_database}
use Rattle.db_evolution.proofs.EvolutionLemmas.{is_evolved}
use Rattle.db_evolution.proofs.evolve.evolve_parts.Goals as goal

pub returns-in_err-evolve-clause-kept : goal.returns-in_err-evolve-clause-kept
returns-in_err-evolve-clause-kept g c =
    let p = c.args.parts.now in
    still_database g.O.Operator.meaning p c.requires.kept c.evolve.new.self (graph_left p.graph c.args.name (option_copied c.args.from) c.args.edges c.in_err-evolve.field-0.0 c.evolve.new.self c.in_err-evolve.ensures.answers)

pub filled-requires : goal.filled-requires
filled-requires g c all =
    let answers = c.in_ok-evolve.ensures.answers in
    may_fill_then g.O.Operator.meaning g.met.O.Operator.laws c.args.parts.now c.requires.kept c.args.name (option_copied c.args.from) c.args.edges c.requires.may c.args.sources.now c.requires.sources answers.0
    c.evolve.new.self c.live_operators-operators.result answers.1 c.live_operators-operators.ensures.count all

pub returns-in-Ok-clause-kept : goal.returns-in-Ok-clause-kept
returns-in-Ok-clause-kept g c =
    let answers = c.in_ok-evolve.ensures.answers in
    let filled = c.in-Ok.ensures in
    database_then g.O.Operator.meaning g.met.O.Operator.laws c.args.parts.now c.requires.kept c.args.name (option_copied c.args.from) c.args.edges c.requires.may c.args.sources.now c.requires.sources answers.0
    c.evolve.new.self c.live_operators-operators.result answers.1 c.live_operators-operators.ensures.count filled.graph c.in-Ok.contents filled.fills c.install.new.parts c.install.ensures c.in_ok-evolve.ensures.finished

pub returns-in-Ok-clause-evolves : goal.returns-in-Ok-clause-evolves
returns-in-Ok-clause-evolves g c =
    let answers = c.in_ok-evolve.ensures.answers in
    let filled = c.in-Ok.ensures in
    evolves_then g.O.Operator.meaning g.met.O.Operator.laws c.args.parts.now c.requires.kept c.args.name (option_copied c.args.from) c.args.edges c.requires.may c.args.sources.now c.requires.sources answers.0
    c.evolve.new.self c.live_operators-operators.result answers.1 c.live_operators-operators.ensures.count filled.graph c.in-Ok.contents filled.fills c.install.new.parts c.install.ensures c.in_ok-evolve.ensures.finished

pub returns-in-Ok-clause-layout : goal.returns-in-Ok-clause-layout
returns-in-Ok-clause-layout g c =
    let answers = c.in_ok-evolve.ensures.answers in
    let filled = c.in-Ok.ensures in
    layout_then g.O.Operator.meaning g.met.O.Operator.laws c.args.parts.now c.requires.kept c.args.name (option_copied c.args.from) c.args.edges c.requires.may c.args.sources.now c.requires.sources answers.0
    c.evolve.new.self c.live_operators-operators.result answers.1 c.live_operators-operators.ensures.count filled.graph c.in-Ok.contents filled.fills c.install.new.parts c.install.ensures c.in_ok-evolve.ensures.finished

pub returns-in-Err-clause-kept : goal.returns-in-Err-clause-kept
returns-in-Err-clause-kept g c =
    let p = c.args.parts.now in
    let answers = c.in_ok-evolve.ensures.answers in
    let last = c.last_numbers-last_operator.ensures in
    let was = is_evolved g.O.Operator.meaning g.met.O.Operator.laws p c.requires.kept c.args.name (option_copied c.args.from) c.args.edges c.requires.may c.args.sources.now c.requires.sources answers.0
    c.evolve.new.self c.live_operators-operators.result c.last_numbers-last_operator.result.0 c.last_numbers-last_operator.result.1 answers.1 c.live_operators-operators.ensures.count (ap (λ (n : ℕ × ℕ). n.0) last) (ap (λ (n : ℕ × ℕ). n.1) last) in
    still_database g.O.Operator.meaning p c.requires.kept c.take_back.new.self (c.take_back.ensures p.graph was)

pub returns-in-Err-clause-evolves : goal.returns-in-Err-clause-evolves
returns-in-Err-clause-evolves g c =
    let p = c.args.parts.now in
    let answers = c.in_ok-evolve.ensures.answers in
    let last = c.last_numbers-last_operator.ensures in
    let filled = c.in-Err.ensures in
    let was = is_evolved g.O.Operator.meaning g.met.O.Operator.laws p c.requires.kept c.args.name (option_copied c.args.from) c.args.edges c.requires.may c.args.sources.now c.requires.sources answers.0
    c.evolve.new.self c.live_operators-operators.result c.last_numbers-last_operator.result.0 c.last_numbers-last_operator.result.1 answers.1 c.live_operators-operators.ensures.count (ap (λ (n : ℕ × ℕ). n.0) last) (ap (λ (n : ℕ × ℕ). n.1) last) in
    rw c.as_refusal.ensures (refused_then g.O.Operator.meaning g.met.O.Operator.laws p c.requires.kept c.args.name (option_copied c.args.from) c.args.edges c.requires.may c.args.sources.now c.requires.sources answers.0
    c.evolve.new.self c.live_operators-operators.result answers.1 c.live_operators-operators.ensures.count filled.graph c.in-Err.fault filled.fills c.take_back.new.self (c.take_back.ensures p.graph was))
