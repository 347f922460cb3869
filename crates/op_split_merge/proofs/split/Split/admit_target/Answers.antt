use Rattle.std.specs.Option.{option_map}
use Rattle.std.proofs.Common.{subst, sym, ◌∙◌}
use Rattle.std.proofs.lemmas.Bool.{false≢true}
use Rattle.expr_lang.specs.Terms.{expr_term}
use Rattle.op_rows.specs.Cells.{Cells}
use Rattle.op_split_merge.specs.inner.Calls.{TargetBelongs}
use Rattle.op_split_merge.proofs.CallLemmas.{near_source, near_wide, admits_target, admits_no_target}
use Rattle.op_split_merge.proofs.split.Split.admit_target.Goals as goal

pub read_target-requires : goal.read_target-requires
read_target-requires g c =
    near_source c.args.self.now.width (expr_term c.args.self.now.first) (option_map expr_term c.args.self.now.second) c.args.source.now c.requires

pub target_belongs-requires-clause-wide : goal.target_belongs-requires-clause-wide
target_belongs-requires-clause-wide g c =
    near_wide c.args.self.now.width (expr_term c.args.self.now.first) (option_map expr_term c.args.self.now.second) c.args.source.now c.requires

pub returns-then-branch : goal.returns-then-branch
returns-then-branch g c =
    admits_target c.args.self.now.width (expr_term c.args.self.now.first) (option_map expr_term c.args.self.now.second) c.args.source.now c.in_ok-far.far c.args.aux.now
    c.in_ok-far.ensures.ok
    (subst (λ (cs : Cells). TargetBelongs c.args.self.now.width (expr_term c.args.self.now.first) (option_map expr_term c.args.self.now.second) c.args.source.now c.args.aux.now cs) c.made.ensures
    (c.in_ok-target_belongs.ensures.0 c.if-branch.true))

pub returns : goal.returns
returns g c =
    admits_no_target c.args.self.now.width (expr_term c.args.self.now.first) (option_map expr_term c.args.self.now.second) c.args.source.now c.in_ok-far.far c.args.aux.now
    c.in_ok-far.ensures.ok
    (λ belongs. false≢true (sym c.if-branch.false ∙ c.in_ok-target_belongs.ensures.1
    (subst (λ (cs : Cells). TargetBelongs c.args.self.now.width (expr_term c.args.self.now.first) (option_map expr_term c.args.self.now.second) c.args.source.now c.args.aux.now cs) (sym c.made.ensures) belongs)))
