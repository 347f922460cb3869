use Rattle.std.specs.Option.{option_map}
use Rattle.std.proofs.Common.{rules, subst, sym, ◌∙◌}
use Rattle.std.proofs.lemmas.Bool.{false≢true}
use Rattle.expr_lang.specs.Terms.{expr_term}
use Rattle.op_rows.specs.Cells.{Cells}
use Rattle.op_split_merge.specs.inner.Calls.{SourceBelongs}
use Rattle.op_split_merge.proofs.CallLemmas.{admits_source, admits_no_source}
use Rattle.op_split_merge.proofs.split.Split.admit_source.Goals as goal

pub returns-then-branch : goal.returns-then-branch
returns-then-branch g c =
    admits_source c.args.self.now.width (expr_term c.args.self.now.first) (option_map expr_term c.args.self.now.second) c.args.target.now c.in_ok-far.far c.args.aux.now
    (search rules)
    (subst (λ (cs : Cells). SourceBelongs c.args.self.now.width (expr_term c.args.self.now.first) (option_map expr_term c.args.self.now.second) c.args.target.now c.args.aux.now cs) c.made.ensures
    (c.in_ok-source_belongs.ensures.0 c.if-branch.true))

pub returns : goal.returns
returns g c =
    admits_no_source c.args.self.now.width (expr_term c.args.self.now.first) (option_map expr_term c.args.self.now.second) c.args.target.now c.in_ok-far.far c.args.aux.now
    (search rules)
    (λ belongs. false≢true (sym c.if-branch.false ∙ c.in_ok-source_belongs.ensures.1
    (subst (λ (cs : Cells). SourceBelongs c.args.self.now.width (expr_term c.args.self.now.first) (option_map expr_term c.args.self.now.second) c.args.target.now c.args.aux.now cs) (sym c.made.ensures) belongs)))
