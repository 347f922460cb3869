use Rattle.std.proofs.Common.{ℕ, List, [], refl, subst}
use Rattle.row_store.specs.declared.change.Change.{Change}
use Rattle.version_graph.specs.Sets.{Each}
use Rattle.version_model.specs.declared.numbered.Numbered.{Numbered}
use Rattle.kept_keys.specs.Changed.{IsPrepared}
use Rattle.kept_keys.proofs.KeptLaws.{both_same, same_right}
use Rattle.db_state.specs.Fields.{state_for}
use Rattle.write_plans.specs.Alone.{AreNoChanges}
use Rattle.write_plans.proofs.AloneLemmas.{alone_has_old, alone_keys_lead, alone_planned, alone_tells_carried, alone_tells_changed}
use Rattle.write_plans.proofs.MemoryLemmas.{memories_are}
use Rattle.write_plans.proofs.alone.plan_alone.Goals as goal

pub returns-in_err-made-clause-kept : goal.returns-in_err-made-clause-kept
returns-in_err-made-clause-kept g c = both_same c.args.keys.now.items

pub returns-clause-plans : goal.returns-clause-plans
returns-clause-plans g c =
    let r = c.requires in
    let none = subst (λ (l : List ℕ). AreNoChanges l c.in_ok-auxes.auxes) c.as_slice-3.ensures c.in_ok-auxes.ensures in
    let are = memories_are [] [] c.in_ok-made.made.memories c.as_slice-4.result.now c.args.tree.now.operators c.as_slice-operators.result.now c.in_ok-memories.memories refl c.as_slice-4.ensures c.as_slice-operators.ensures c.in_ok-memories.ensures in
    alone_planned g.O.Operator.meaning g.met.O.Operator.laws c.args.db.now r.may.kept c.args.tree.now c.args.written r.may r.alone r.local r.rise c.in_ok-made.made c.in_ok-made.ensures c.in_ok-auxes.auxes none c.in_ok-memories.memories are c.in_ok-plan.plan c.in_ok-plan.ensures

pub returns-clause-tells : goal.returns-clause-tells
returns-clause-tells g c =
    let r = c.requires in
    let none = subst (λ (l : List ℕ). AreNoChanges l c.in_ok-auxes.auxes) c.as_slice-3.ensures c.in_ok-auxes.ensures in
    let are = memories_are [] [] c.in_ok-made.made.memories c.as_slice-4.result.now c.args.tree.now.operators c.as_slice-operators.result.now c.in_ok-memories.memories refl c.as_slice-4.ensures c.as_slice-operators.ensures c.in_ok-memories.ensures in
    alone_tells_changed g.O.Operator.meaning g.met.O.Operator.laws c.args.db.now r.may.kept c.args.tree.now c.args.written r.may r.alone r.local r.rise c.in_ok-made.made c.in_ok-made.ensures c.in_ok-auxes.auxes none c.in_ok-memories.memories are c.in_ok-plan.plan c.in_ok-plan.ensures

pub returns-clause-carried : goal.returns-clause-carried
returns-clause-carried g c =
    let r = c.requires in
    let none = subst (λ (l : List ℕ). AreNoChanges l c.in_ok-auxes.auxes) c.as_slice-3.ensures c.in_ok-auxes.ensures in
    let are = memories_are [] [] c.in_ok-made.made.memories c.as_slice-4.result.now c.args.tree.now.operators c.as_slice-operators.result.now c.in_ok-memories.memories refl c.as_slice-4.ensures c.as_slice-operators.ensures c.in_ok-memories.ensures in
    alone_tells_carried g.O.Operator.meaning g.met.O.Operator.laws c.args.db.now r.may.kept c.args.tree.now c.args.written r.may r.alone r.local r.rise c.in_ok-made.made c.in_ok-made.ensures c.in_ok-auxes.auxes none c.in_ok-memories.memories are c.in_ok-plan.plan c.in_ok-plan.ensures

pub returns-clause-old : goal.returns-clause-old
returns-clause-old g c =
    let r = c.requires in
    let none = subst (λ (l : List ℕ). AreNoChanges l c.in_ok-auxes.auxes) c.as_slice-3.ensures c.in_ok-auxes.ensures in
    let are = memories_are [] [] c.in_ok-made.made.memories c.as_slice-4.result.now c.args.tree.now.operators c.as_slice-operators.result.now c.in_ok-memories.memories refl c.as_slice-4.ensures c.as_slice-operators.ensures c.in_ok-memories.ensures in
    alone_has_old g.O.Operator.meaning g.met.O.Operator.laws c.args.db.now r.may.kept c.args.tree.now c.args.written r.may r.alone r.local r.rise c.in_ok-made.made c.in_ok-made.ensures c.in_ok-auxes.auxes none c.in_ok-memories.memories are c.in_ok-plan.plan c.in_ok-plan.ensures

pub returns-clause-keys : goal.returns-clause-keys
returns-clause-keys g c =
    let m = g.O.Operator.meaning in
    let d = c.args.db.now in
    let r = c.requires in
    let tree = c.args.tree.now in
    let keys = c.prepare.new.keys.items in
    let none = subst (λ (l : List ℕ). AreNoChanges l c.in_ok-auxes.auxes) c.as_slice-3.ensures c.in_ok-auxes.ensures in
    let are = memories_are [] [] c.in_ok-made.made.memories c.as_slice-4.result.now c.args.tree.now.operators c.as_slice-operators.result.now c.in_ok-memories.memories refl c.as_slice-4.ensures c.as_slice-operators.ensures c.in_ok-memories.ensures in
    let ready = subst (λ (l : List ℕ). Each (IsPrepared l c.as_slice-2.result.now) keys) c.as_slice.ensures c.in_ok-prepare.ensures.ok in
    let prepared = subst (λ (l : List (Numbered (List Change))). Each (IsPrepared tree.tables l) keys) c.as_slice-2.ensures ready in
    alone_keys_lead m g.met.O.Operator.laws d r.may.kept tree c.args.written r.may r.alone r.local r.rise c.in_ok-made.made c.in_ok-made.ensures c.in_ok-auxes.auxes none c.in_ok-memories.memories are c.in_ok-plan.plan c.in_ok-plan.ensures keys
    (same_right (state_for m d).tables c.args.keys.now.items keys r.right c.in_ok-prepare.ensures.same) prepared
